-- What a file has whose number is 0: the right form and the lengths of its parts; the number of a file of right form is open's.
use mathlib.Core.Path.{◌≡◌, sym, ◌∙◌}
use mathlib.Core.Bool.{true}
use mathlib.Core.Logic.{◌≢◌}
use mathlib.Core.List.{List}
use Prim.Native.Nat.{ℕ, ◌+◌, ◌*◌, ◌≤◌}
use native.Mathlib.Omega.{arith}
use native.Mathlib.Decide.{ℕ_discrete}
use lib.ListN.{length}
use Rattle.decide.specs.Choose.{choose}
use Rattle.decide.proofs.ChooseLaws.{choose_yes, choose_no}
use Rattle.decide.specs.Ruled.{Ruled, fails, holds}
use Rattle.plan.specs.Cells.{Size}
use Rattle.drill_file.specs.File as drill_file
use Rattle.drill_file.specs.Numbers.{open_number, floor_of, file_number}

-- The number of the first rule that fails is the choice of a test of that rule.
pub ruled_number : {P : Type 0} (test : Dec P) {n k x : ℕ} {rest : ℕ → Type 0} → (rest k → k ≡ x) → Ruled P n rest k → k ≡ choose test x n
ruled_number test next (fails a) = sym (choose_no test _ _ a)
ruled_number test next (holds p r) = next r ∙ sym (choose_yes test _ _ p)

-- A choice that is 0 chose the first, where the second is not 0.
pub granted : {P : Type 0} (test : Dec P) {x n : ℕ} → 1 ≤ n → choose test x n ≡ 0 → P × (x ≡ 0)
unfolding choose
granted (yes p) l e = (p, e)
granted (no a) l e = absurd (omega arith)

-- What a file of right form has: its size, the lengths of its parts, and actions that are well formed.
pub record Formed (file : List ℕ) : Type 0 where
  pub long : 12 ≤ length file
  pub short : length file ≤ 65536
  pub size : Size (drill_file.trailer_of file).width (drill_file.trailer_of file).height
  pub offset : (drill_file.trailer_of file).offset ≡ 4 * drill_file.cells (drill_file.trailer_of file)
  pub whole : length file ≡ (drill_file.trailer_of file).offset + 5 * (drill_file.trailer_of file).actions + 12
  pub well : drill_file.well_formed (drill_file.actions_of file) ≡ true

pub formed : (file : List ℕ) → drill_file.form_number file ≡ 0 → Formed file
unfolding drill_file.form_number
formed file e =
    let a = granted _ (omega arith) e in
    let b = granted _ (omega arith) a.1 in
    let c = granted _ (omega arith) b.1 in
    record { long = a.0.0; short = a.0.1; size = b.0; offset = c.0.0; whole = c.0.1; well = (granted _ (omega arith) c.1).0 }

-- Its trailer tells the number of its cells.
pub cells_formed : (file : List ℕ) → drill_file.form_number file ≡ 0 → drill_file.cells_in file ≡ drill_file.cells (drill_file.trailer_of file)
unfolding drill_file.cells_in drill_file.cells_told
cells_formed file e = let F = formed file e in choose_yes _ _ _ F.long ∙ choose_yes _ _ _ F.size

-- The number of a file of right form is open's.
pub file_number_is : (file : List ℕ) → drill_file.form_number file ≡ 0 → file_number file ≡ open_number (floor_of file) (drill_file.trailer_of file).hunter (drill_file.trailer_of file).target
unfolding file_number
file_number_is file e = choose_yes (ℕ_discrete (drill_file.form_number file) 0) _ _ e

-- A file whose form is not right is refused by the form's number.
pub form_refused : (file : List ℕ) → drill_file.form_number file ≢ 0 → file_number file ≡ drill_file.form_number file
unfolding file_number
form_refused file n = choose_no (ℕ_discrete (drill_file.form_number file) 0) _ _ n

-- So a file that is played has the right form.
pub file_formed : (file : List ℕ) → file_number file ≡ 0 → drill_file.form_number file ≡ 0
file_formed file z = at (ℕ_discrete (drill_file.form_number file) 0)
  where
    at : Dec (drill_file.form_number file ≡ 0) → drill_file.form_number file ≡ 0
    at (yes e) = e
    at (no n) = sym (form_refused file n) ∙ z
