-- Rows of bits: what setting one bit changes, and the ones counts as a sum of bits.
use mathlib.Core.Path.{◌≡◌, refl, sym, ap, ◌∙◌}
use mathlib.Core.Logic.{◌≢◌, ◌⊎◌, inl, inr}
use mathlib.Core.List.Memᴰ
use mathlib.Core.List.{List, [], ◌∷◌, Memᴰ}
use Prim.Native.Nat.{ℕ, zero, suc, ◌+◌, ◌*◌, ◌/◌, ◌%◌, ◌^◌, ◌≤◌, ◌<◌}
use native.Mathlib.Nat.{pow-suc, div-one, mod-lt, suc-mul, zero-mul, add-suc, add-zero}
use native.Mathlib.Decide.{ℕ_discrete}
use native.Mathlib.Numerals.{one-add}
use native.Mathlib.Omega.{arith}
use lib.Arith.{digits_div, digits_mod}
use lib.Count.{ones, ones_step, ones-le}
use lib.ListN.{get_or}
use lib.Pow.{pow_pos, shl_exact, shr-shr}
use Rattle.method.specs.Walk.{none_yet, one_more}
use Rattle.reach.specs.Bits.{bit, bit_of, ones_of, sum_to}
use Rattle.reach.specs.Reachable.{Number}

-- ---- one number

-- A bit above the lowest is one of the half.
bit_zero : (x : ℕ) → bit x 0 ≡ x % 2
unfolding bit
bit_zero x = ap (λ y. y % 2) (div-one x)

bit_suc : (x c : ℕ) → bit x (suc c) ≡ bit (x / 2) c
unfolding bit
bit_suc x c = ap (λ y. y % 2) (ap (λ k. x / 2 ^ k) (sym (one-add c)) ∙ sym (shr-shr x 1 c))

bit_le : (x c : ℕ) → bit x c ≤ 1
unfolding bit
bit_le x c = omega (arith, mod-lt (x / 2 ^ c) (pow_pos 1))

pub bit_none : (c : ℕ) → bit 0 c ≡ 0
bit_none zero = bit_zero 0
bit_none (suc c) = bit_suc 0 c ∙ bit_none c

-- The half of a sum with a power, and its lowest bit.
half_sum : (x c : ℕ) → (x + 2 ^ suc c) / 2 ≡ x / 2 + 2 ^ c
half_sum x c = omega (arith, pow-suc 2 c)

even_sum : (x c : ℕ) → (x + 2 ^ suc c) % 2 ≡ x % 2
even_sum x c = omega (arith, pow-suc 2 c)

-- A bit that is 0 is set by its power, the others stay, and no higher one is needed.
pub bit_set : (x c : ℕ) → bit x c ≡ 0 → bit (x + 2 ^ c) c ≡ 1
bit_set x zero h = omega (arith, bit_zero x, bit_zero (x + 1))
bit_set x (suc c) h = bit_suc (x + 2 ^ suc c) c ∙ rw (half_sum x c) (bit_set (x / 2) c (sym (bit_suc x c) ∙ h))

pub bit_other : (x c k : ℕ) → bit x c ≡ 0 → k ≢ c → bit (x + 2 ^ c) k ≡ bit x k
bit_other x zero zero h n = absurd (n refl)
bit_other x zero (suc k) h n = bit_suc (x + 1) k ∙ ap (λ y. bit y k) e ∙ sym (bit_suc x k)
  where
    e : (x + 1) / 2 ≡ x / 2
    e = omega (arith, bit_zero x)
bit_other x (suc c) zero h n = bit_zero (x + 2 ^ suc c) ∙ even_sum x c ∙ sym (bit_zero x)
bit_other x (suc c) (suc k) h n =
    bit_suc (x + 2 ^ suc c) k ∙ rw (half_sum x c) (bit_other (x / 2) c k (sym (bit_suc x c) ∙ h) (λ e. n (ap suc e))) ∙ sym (bit_suc x k)

pub set_narrow : (x c w : ℕ) → bit x c ≡ 0 → c < w → x < 2 ^ w → x + 2 ^ c < 2 ^ w
set_narrow x c zero h l b = absurd (omega arith)
set_narrow x zero (suc w) h l b = omega (arith, bit_zero x, pow-suc 2 w)
set_narrow x (suc c) (suc w) h l b =
    let ih : x / 2 + 2 ^ c < 2 ^ w = set_narrow (x / 2) c w (sym (bit_suc x c) ∙ h) (omega arith) (omega (arith, pow-suc 2 w)) in
    omega (arith, pow-suc 2 w, pow-suc 2 c)

-- One shifted up to a column is its power.
pub one_shifted : (c : ℕ) → c < 64 → (1 * 2 ^ c) % 18446744073709551616 ≡ 2 ^ c
one_shifted c l = omega (arith, shl_exact {a = 1} 1 c 64 (omega arith) (omega arith))

-- Numbers of w bits are equal when their bits are.
pub same_bits : (w x y : ℕ) → x < 2 ^ w → y < 2 ^ w → ((c : ℕ) → c < w → bit x c ≡ bit y c) → x ≡ y
same_bits zero x y a b h = omega arith
same_bits (suc w) x y a b h =
    let ih : x / 2 ≡ y / 2 = same_bits w (x / 2) (y / 2) (omega (arith, pow-suc 2 w)) (omega (arith, pow-suc 2 w)) (λ c l. sym (bit_suc x c) ∙ h (suc c) (omega arith) ∙ bit_suc y c) in
    omega (arith, h 0 (omega arith), bit_zero x, bit_zero y)

-- ---- sums

pub sum_same : (f g : ℕ → ℕ) (n : ℕ) → ((i : ℕ) → i < n → f i ≡ g i) → sum_to f n ≡ sum_to g n
unfolding sum_to
sum_same f g zero h = refl
sum_same f g (suc n) h = omega (arith, sum_same f g n (λ i l. h i (omega arith)), h n (omega arith))

-- One more at one place is one more of all.
pub sum_more : (f g : ℕ → ℕ) (v n : ℕ) → v < n → g v ≡ f v + 1 → ((i : ℕ) → i ≢ v → g i ≡ f i) → sum_to g n ≡ sum_to f n + 1
unfolding sum_to
sum_more f g v zero l e h = absurd (omega arith)
sum_more f g v (suc n) l e h = at (λ m. sum_more f g v n m e h) (ℕ_discrete n v)
  where
    at : (v < n → sum_to g n ≡ sum_to f n + 1) → Dec (n ≡ v) → sum_to g n + g n ≡ sum_to f n + f n + 1
    at ih (no m) = omega (arith, h n m, ih (omega arith))
    at ih (yes q) = omega (arith, sum_same g f n (λ i k. h i (λ r. omega arith)), rw (← q) at e)

pub sum_none : (f : ℕ → ℕ) → ((i : ℕ) → f i ≡ 0) → (n : ℕ) → sum_to f n ≡ 0
unfolding sum_to
sum_none f h zero = refl
sum_none f h (suc n) = omega (arith, sum_none f h n, h n)

sum_add : (f : ℕ → ℕ) (m n : ℕ) → sum_to f (m + n) ≡ sum_to f m + sum_to (λ i. f (m + i)) n
unfolding sum_to
sum_add f m zero = omega (arith, ap (sum_to f) (add-zero m))
sum_add f m (suc n) = rw (add-suc m n) (omega (arith, sum_add f m n))

sum_first : (f : ℕ → ℕ) (n : ℕ) → sum_to f (suc n) ≡ f 0 + sum_to (λ i. f (suc i)) n
unfolding sum_to
sum_first f zero = omega arith
sum_first f (suc n) = omega (arith, sum_first f n)

-- The ones of a number are the sum of its bits ..
ones_sum : (w x : ℕ) → x < 2 ^ w → ones x ≡ sum_to (bit x) w
unfolding sum_to
ones_sum zero x h = omega (arith, ones-le 0 x h)
ones_sum (suc w) x h =
    let ih : ones (x / 2) ≡ sum_to (bit (x / 2)) w = ones_sum w (x / 2) (omega (arith, pow-suc 2 w)) in
    omega (arith, ones_step x, bit_zero x, sum_first (bit x) w, sum_same (λ i. bit x (suc i)) (bit (x / 2)) w (λ i l. bit_suc x i))

-- .. and those of the rows the sum of the cells' bits.
pub row_bit : (w : ℕ) (rows : List ℕ) (r : ℕ) {c : ℕ} → c < w → bit_of w rows (r * w + c) ≡ bit (get_or rows r 0) c
unfolding bit_of
row_bit w rows r l = rw (digits_div r l, digits_mod r l) refl

pub ones_cells : (rows : List ℕ) (w n : ℕ) → ((r : ℕ) → r < n → get_or rows r 0 < 2 ^ w) → ones_of rows n ≡ sum_to (bit_of w rows) (n * w)
unfolding sum_to
ones_cells rows w zero h = rw (zero-mul w) refl
ones_cells rows w (suc n) h =
    rw (suc-mul n w)
    (omega (
      arith,
      ones_cells rows w n (λ r l. h r (omega arith)),
      ones_sum w (get_or rows n 0) (h n (omega arith)),
      sum_add (bit_of w rows) (n * w) w,
      sum_same (λ i. bit_of w rows (n * w + i)) (bit (get_or rows n 0)) w (λ i l. row_bit w rows n l),
    ))

pub bit_of_le : (w : ℕ) (rows : List ℕ) (s : ℕ) → bit_of w rows s ≤ 1
unfolding bit_of
bit_of_le w rows s = bit_le (get_or rows (s / w) 0) (s % w)

-- ---- as many as the sum

-- The numbers below n whose bit is 1.
pub those : (f : ℕ → ℕ) → ((s : ℕ) → f s ≤ 1) → (n : ℕ) → Number (λ s. f s ≡ 1) n (sum_to f n)
unfolding sum_to
those f le zero = record { list = []; once = none_yet; so = λ s i. absurd (Memᴰ.not-nil i); whenever = λ s l e. absurd (omega arith); long = refl }
those f le (suc n) = at (those f le n) (ℕ_discrete (f n) 1)
  where
    at : Number (λ s. f s ≡ 1) n (sum_to f n) → Dec (f n ≡ 1) → Number (λ s. f s ≡ 1) (suc n) (sum_to f n + f n)
    at T (yes e) = record {
      list = n ∷ T.list;
      once = one_more (λ (i : Memᴰ n T.list). omega (arith, (T.so n i).0)) T.once;
      so = λ s i. so' s (Memᴰ.cases_cons i);
      whenever = λ s l q. has s l q (ℕ_discrete s n);
      long = omega (arith, T.long);
    }
      where
        so' : (s : ℕ) → (s ≡ n) ⊎ Memᴰ s T.list → (s < suc n) × (f s ≡ 1)
        so' s (inl q) = (omega arith, ap f q ∙ e)
        so' s (inr i) = (omega (arith, (T.so s i).0), (T.so s i).1)

        has : (s : ℕ) → s < suc n → f s ≡ 1 → Dec (s ≡ n) → Memᴰ s (n ∷ T.list)
        has s l q (yes r) = Memᴰ.head r
        has s l q (no m) = Memᴰ.tail (T.whenever s (omega arith) q)
    at T (no m) = record {
      list = T.list;
      once = T.once;
      so = λ s i. (omega (arith, (T.so s i).0), (T.so s i).1);
      whenever = λ s l q. T.whenever s (below s l q (ℕ_discrete s n)) q;
      long = omega (arith, T.long, le n);
    }
      where
        below : (s : ℕ) → s < suc n → f s ≡ 1 → Dec (s ≡ n) → s < n
        below s l q (yes r) = absurd (m (sym (ap f r) ∙ q))
        below s l q (no k) = omega arith

-- So a sum of bits is at most the number of places.
pub sum_le : (f : ℕ → ℕ) → ((s : ℕ) → f s ≤ 1) → (n : ℕ) → sum_to f n ≤ n
unfolding sum_to
sum_le f le zero = omega arith
sum_le f le (suc n) = omega (arith, sum_le f le n, le n)
