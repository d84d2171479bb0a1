-- The rules give one number; number 0 gives every rule, and where every rule holds the number is 0.
use mathlib.Core.Path.{◌≡◌, refl}
use mathlib.Core.Bool.{Bool, true, false}
use mathlib.Core.Logic.{◌≢◌}
use Prim.Native.Nat.{ℕ, suc}
use native.Mathlib.Omega.{arith}
use Rattle.decide.specs.Decides.{Decides}
use Rattle.decide.specs.Ruled.{Ruled, fails, holds, Passed, passed}
use Rattle.decide.proofs.DecideLaws.{refuted}

-- ---- a check, test by test

-- Where a rule's test fails, the number is the rule's ..
pub broken : {P : Type 0} {n : ℕ} {rest : ℕ → Type 0} {b : Bool} → Decides b P → b ≡ false → Ruled P n rest n
broken D e = fails (refuted D e)

-- .. and where it succeeds, that of the rules after it.
pub kept : {P : Type 0} {n : ℕ} {rest : ℕ → Type 0} {b : Bool} {k : ℕ} → Decides b P → b ≡ true → rest k → Ruled P n rest k
kept D e r = holds (D.so e) r

-- By these each return of a check is proved.
pub ruleset in_order = (broken, kept, fails, holds, passed)

-- ---- one number

pub passed_one : (k l : ℕ) → Passed k → Passed l → k ≡ l
passed_one k l passed passed = refl

pub ruled_one : {P : Type 0} {n : ℕ} {rest : ℕ → Type 0} → ((k l : ℕ) → rest k → rest l → k ≡ l) → (k l : ℕ) → Ruled P n rest k → Ruled P n rest l → k ≡ l
ruled_one one k l (fails a) (fails b) = refl
ruled_one one k l (fails a) (holds p r) = absurd (a p)
ruled_one one k l (holds p r) (fails b) = absurd (b p)
ruled_one one k l (holds p r) (holds q s) = one k l r s

-- ---- number 0

pub granted : {P : Type 0} {n : ℕ} {rest : ℕ → Type 0} {k : ℕ} → Ruled P (suc n) rest k → k ≡ 0 → P × rest k
granted (fails a) e = absurd (omega arith)
granted (holds p r) e = (p, r)

-- ---- every rule holds

pub passed_zero : {k : ℕ} → Passed k → k ≡ 0
passed_zero passed = refl

pub onward : {P : Type 0} {n : ℕ} {rest : ℕ → Type 0} {k : ℕ} → P → Ruled P n rest k → rest k
onward p (fails a) = absurd (a p)
onward p (holds q r) = r

-- ---- rules one after the other

-- What breaks a rule breaks the same one whatever rules follow.
pub further : {P : Type 0} {n : ℕ} {rest rest' : ℕ → Type 0} {k : ℕ} → (rest k → k ≢ 0 → rest' k) → Ruled P n rest k → k ≢ 0 → Ruled P n rest' k
further next (fails a) n = fails a
further next (holds p r) n = holds p (next r n)

pub passed_not : {P : Type 0} {k : ℕ} → Passed k → k ≢ 0 → P
passed_not p n = absurd (n (passed_zero p))
