-- Counting the cells that lack a fact.
use mathlib.Core.Path.{◌≡◌}
use Prim.Native.Nat.{ℕ, zero, suc, ◌+◌, ◌≤◌, ◌<◌}
use native.Mathlib.Omega.{arith}
use native.Mathlib.Decide.{ℕ_discrete}
use Rattle.method.specs.During.{lack, sum}

module _ {P : Type 0} where
  pub lack_le : (d : Dec P) → lack d ≤ 1
  unfolding lack
  lack_le (yes p) = omega arith
  lack_le (no n) = omega arith

  pub lack_no : (d : Dec P) → (P → ⊥) → 1 ≤ lack d
  unfolding lack
  lack_no (yes p) m = absurd (m p)
  lack_no (no n) m = omega arith

  pub lack_keep : {Q : Type 0} (d : Dec P) (e : Dec Q) → (P → Q) → lack e ≤ lack d
  unfolding lack
  lack_keep (yes p) (yes q) f = omega arith
  lack_keep (yes p) (no n) f = absurd (n (f p))
  lack_keep (no m) (yes q) f = omega arith
  lack_keep (no m) (no n) f = omega arith

  pub lack_gain : {Q : Type 0} (d : Dec P) (e : Dec Q) → (P → ⊥) → Q → lack e < lack d
  unfolding lack
  lack_gain (yes p) e m q = absurd (m p)
  lack_gain (no m') (yes q') m q = omega arith
  lack_gain (no m') (no n) m q = absurd (n q)

pub sum_bound : (n : ℕ) (f : ℕ → ℕ) → ((s : ℕ) → s < n → f s ≤ 1) → sum n f ≤ n
unfolding sum
sum_bound zero f h = omega arith
sum_bound (suc n) f h = omega (arith, sum_bound n f (λ s l. h s (omega arith)), h n (omega arith))

pub sum_keep : (n : ℕ) (f f' : ℕ → ℕ) → ((s : ℕ) → s < n → f' s ≤ f s) → sum n f' ≤ sum n f
unfolding sum
sum_keep zero f f' h = omega arith
sum_keep (suc n) f f' h = omega (arith, sum_keep n f f' (λ s l. h s (omega arith)), h n (omega arith))

pub sum_drop : (n : ℕ) (f f' : ℕ → ℕ) (u : ℕ) → u < n → f' u < f u → ((s : ℕ) → s < n → f' s ≤ f s) → sum n f' < sum n f
unfolding sum
sum_drop zero f f' u l d h = omega arith
sum_drop (suc n) f f' u l d h = at (λ l'. sum_drop n f f' u l' d (λ s m. h s (omega arith))) (ℕ_discrete u n)
  where
    at : (u < n → sum n f' < sum n f) → Dec (u ≡ n) → sum n f' + f' n < sum n f + f n
    at ih (yes e) =
        let d' : f' n < f n = rw e at d in
        omega (arith, sum_keep n f f' (λ s m. h s (omega arith)))
    at ih (no e) = omega (arith, ih (omega arith), h n (omega arith))
