-- What `choose` gives, and what two different constructors give.
use mathlib.Core.Path.{◌≡◌, refl}
use Prim.Native.Nat.{ℕ}
use native.Mathlib.Omega.{arith}
use Rattle.decide.specs.Choose.{choose}

module _ {A P : Type 0} where
  -- where the test's statement holds, the first is chosen
  pub choose_yes : (d : Dec P) (a b : A) → P → choose d a b ≡ a
  unfolding choose
  choose_yes (yes p) a b q = refl
  choose_yes (no n) a b q = absurd (n q)

  -- where it does not hold, the second
  pub choose_no : (d : Dec P) (a b : A) → (P → ⊥) → choose d a b ≡ b
  unfolding choose
  choose_no (yes p) a b q = absurd (q p)
  choose_no (no n) a b q = refl

  -- what holds of either where it is chosen holds of the chosen
  pub choose_is : (Q : A → Type 0) (d : Dec P) {a b : A} → (P → Q a) → ((P → ⊥) → Q b) → Q (choose d a b)
  unfolding choose
  choose_is Q (yes p) f g = f p
  choose_is Q (no n) f g = g n

-- Anything follows where two constructors are one: write `differ cc`.
pub differ : {A : Type 0} → ◌≡◌ {A = ℕ} 0 1 → A
differ z = absurd (omega arith)
