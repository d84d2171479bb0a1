-- The numbers by which open and a change are refused are those of the calls' rules; a refused file prints its number.
use mathlib.Core.Path.{◌≡◌}
use mathlib.Core.Logic.{◌≢◌}
use mathlib.Core.List.{List}
use Prim.Native.Nat.{ℕ, ◌*◌}
use native.Mathlib.Omega.{arith}
use native.Mathlib.Decide.{ℕ_discrete}
use Rattle.decide.proofs.ChooseLaws.{choose_no}
use Rattle.decide.proofs.RuledLaws.{passed_zero, onward}
use Rattle.plan.specs.Cells.{Size}
use Rattle.tables.specs.declared.Session.{Session}
use Rattle.tables.specs.Lent.{Tables, frame_of_size, floor_in, floor, Fits}
use Rattle.entries.specs.Begin.{Openable}
use Rattle.session.specs.Refusals.{OpenRules}
use Rattle.change.specs.Refusals.{MoveRules}
use Rattle.lines.specs.Lines.{refused_line}
use Rattle.drill_file.specs.Numbers.{open_number, file_number}
use Rattle.drill_file.proofs.NumberLaws.{ruled_number, granted}
use Rattle.drill.specs.Numbers.{move_number}
use Rattle.drill.specs.Output.{output}

-- The number of a change.
pub move_number_is : (s : Session) (plan : List ℕ) {u d cost k : ℕ} → MoveRules s u d cost k → k ≡ move_number (floor s plan) u d cost
unfolding move_number
move_number_is s plan = ruled_number _ (ruled_number _ (ruled_number _ passed_zero))

-- The number of open, where the size and the lengths are right.
pub open_number_is : {width height hunter target : ℕ} {t : Tables} {k : ℕ} → Size width height → Fits (height * width) t
    → OpenRules width height hunter target t k → k ≡ open_number (floor_in (frame_of_size width height) t.plan) hunter target
unfolding open_number
open_number_is z f r = ruled_number _ (ruled_number _ (ruled_number _ passed_zero)) (onward f (onward z r))

-- Where it is 0, a fresh start can be made.
pub number_opens : {width height hunter target : ℕ} {t : Tables} → Size width height → Fits (height * width) t
    → open_number (floor_in (frame_of_size width height) t.plan) hunter target ≡ 0 → Openable (frame_of_size width height) hunter target t
unfolding open_number
number_opens z f e =
    let a = granted _ (omega arith) e in
    let b = granted _ (omega arith) a.1 in
    record { fits = f; hunter_in = a.0.0; target_in = a.0.1; obeys = record { size = z; sized = f.plan; edges = b.0; bytes = (granted _ (omega arith) b.1).0 } }

-- A refused file prints its number, nothing else.
pub refused_prints : (file : List ℕ) → file_number file ≢ 0 → output file ≡ refused_line (file_number file)
unfolding output
refused_prints file n = choose_no (ℕ_discrete (file_number file) 0) _ _ n
