-- Decimal digits: how they are written one by one, and how many there are.
use mathlib.Core.Path.{◌≡◌, sym, ap, ◌∙◌}
use mathlib.Core.List.{List, [], ◌∷◌, ◌++◌}
use Prim.Native.Nat.{ℕ, zero, suc, ◌+◌, ◌/◌, ◌%◌, ◌^◌, ◌≤◌, ◌<◌}
use native.Mathlib.Decide.{dec_lt}
use native.Mathlib.Nat.{pow-succ', div-add-mod'}
use native.Mathlib.Omega.{arith}
use lib.ListN.{length, length-append}
use Rattle.std.specs.Fmt.{decimal as std_decimal}
use Rattle.std.proofs.lemmas.Fmt.{decimal_by_steps}
use Rattle.decide.specs.Choose.{choose}
use Rattle.decide.proofs.ChooseLaws.{choose_yes, choose_no, choose_is}
use Rattle.text.specs.Text.{digits, decimal}

-- A number below ten is its one digit.
digits_one : (k n : ℕ) → n < 10 → digits (suc k) n ≡ (48 + n) ∷ []
unfolding digits
digits_one k n l = choose_yes (dec_lt n 10) _ _ l

-- Another is its tens and its last digit.
digits_tens : (k n : ℕ) → 10 ≤ n → digits (suc k) n ≡ digits k (n / 10) ++ ((48 + n % 10) ∷ [])
unfolding digits
digits_tens k n l = choose_no (dec_lt n 10) _ _ (λ h. omega arith)

-- The tens of a number have one digit less.
tens_less : (k n : ℕ) → n < 10 ^ suc k → n / 10 < 10 ^ k
tens_less k n l = omega (arith, pow-succ' 10 k, div-add-mod' n 10)

-- A digit more to give makes no difference where there are enough.
digits_enough : (k n : ℕ) → n < 10 ^ suc k → digits (suc k) n ≡ digits (suc (suc k)) n
unfolding digits
digits_enough zero n l = digits_one zero n (omega arith) ∙ sym (digits_one (suc zero) n (omega arith))
digits_enough (suc k) n l = ap (λ (x : List ℕ). choose (dec_lt n 10) ((48 + n) ∷ []) (x ++ ((48 + n % 10) ∷ []))) (digits_enough k (n / 10) (tens_less (suc k) n l))

-- A number below a power of ten has at most so many digits.
pub digits_few : (m k n : ℕ) → n < 10 ^ suc k → length (digits m n) ≤ suc k
unfolding digits
digits_few zero k n l = omega arith
digits_few (suc m) zero n l = omega (arith, ap length (digits_one m n (omega arith)))
digits_few (suc m) (suc k) n l =
    choose_is (λ (x : List ℕ). length x ≤ suc (suc k)) (dec_lt n 10) (λ _. omega arith)
    (λ _. omega (arith, length-append (digits m (n / 10)) ((48 + n % 10) ∷ []), digits_few m k (n / 10) (tens_less (suc k) n l)))

-- No more digits are written than are given.
digits_given : (k n : ℕ) → length (digits k n) ≤ k
unfolding digits
digits_given zero n = omega arith
digits_given (suc k) n =
    choose_is (λ (x : List ℕ). length x ≤ suc k) (dec_lt n 10) (λ _. omega arith)
    (λ _. omega (arith, length-append (digits k (n / 10)) ((48 + n % 10) ∷ []), digits_given k (n / 10)))

-- A number below ten in decimal.
pub decimal_one : (n : ℕ) → n < 10 → (48 + n) ∷ [] ≡ decimal n
decimal_one n l = sym (digits_one 19 n l)

-- Another of 64 bits in decimal: its tens, then its last digit.
pub decimal_tens : (n : ℕ) → 10 ≤ n → n < 18446744073709551616 → decimal (n / 10) ++ ((48 + n % 10) ∷ []) ≡ decimal n
decimal_tens n l f = sym (digits_tens 19 n l ∙ ap (λ (x : List ℕ). x ++ ((48 + n % 10) ∷ [])) (digits_enough 18 (n / 10) (omega arith)))

-- So it has one digit more than its tens.
pub decimal_longer : (n : ℕ) → 10 ≤ n → n < 18446744073709551616 → length (decimal n) ≡ length (decimal (n / 10)) + 1
decimal_longer n l f = ap length (sym (decimal_tens n l f)) ∙ length-append (decimal (n / 10)) ((48 + n % 10) ∷ [])

-- What std writes of a number of 64 bits is the number in decimal.
pub decimal_of_std : (n : ℕ) → n < 18446744073709551616 → std_decimal n ≡ decimal n
decimal_of_std n f = decimal_by_steps (λ k (x : List ℕ). k < 18446744073709551616 → x ≡ decimal k) (λ k l _. decimal_one k l) more n f f
  where
    more : (k : ℕ) (x : List ℕ) → 10 ≤ k → (k / 10 < 18446744073709551616 → x ≡ decimal (k / 10)) → k < 18446744073709551616 → x ++ ((48 + k % 10) ∷ []) ≡ decimal k
    more k x l e h = ap (λ (y : List ℕ). y ++ ((48 + k % 10) ∷ [])) (e (omega arith)) ∙ decimal_tens k l h

-- No number is written with more than twenty.
pub decimal_few : (n : ℕ) → length (decimal n) ≤ 20
decimal_few n = digits_given 20 n
