-- What is told lies within the rooms, and a plan within its file.
use mathlib.Core.Path.{◌≡◌, refl, sym, ap, subst, ◌∙◌}
use mathlib.Core.List.{List}
use Prim.Native.Nat.{ℕ, ◌≤◌}
use native.Mathlib.Omega.{arith}
use lib.ListN.{length}
use Rattle.decide.proofs.RuledLaws.{granted}
use Rattle.drill_file.specs.declared.Trailer.{Trailer}
use Rattle.drill_file.specs.File.{trailer_in, form_number}
use Rattle.drill_file.proofs.FileLaws.{trailer_there}
use Rattle.drill_file.proofs.NumberLaws.{formed}
use Rattle.std.specs.Prelude.{Result, Ok}
use Rattle.refusal.specs.declared.Refusal.{Refusal}
use Rattle.reach.specs.declared.Counts.{Counts}
use Rattle.reach.specs.Promise.{reach_told, Reports}
use Rattle.reach.proofs.ReportLaws.{plan_granted}
use Rattle.along.specs.Along.{running_told, Costed}
use Rattle.along.proofs.AlongLaws.{along_granted}
use Rattle.along.proofs.Theorems.{along_number, along_done}

-- The plan of a file that is well formed ends within it.
pub plan_within : (file : List ℕ) {t : Trailer} → t ≡ trailer_in file → form_number file ≡ 0 → t.offset ≤ length file
plan_within file read right =
    let F = formed file right in
    subst (λ (x : Trailer). x.offset ≤ length file) (sym (trailer_there file read F.long)) (omega (arith, F.whole))

-- The rows and the moves that are told stand in their rooms.
pub reached_within : {width height hunter : ℕ} {plan rows moves rows' moves' : List ℕ} {r : Result Counts Refusal} {found : Counts} → Reports width height hunter plan rows moves r rows' moves' → r ≡ Ok found
    → (height ≤ length rows') × (found.moves ≤ length moves')
reached_within {plan = plan} {moves' = moves'} P e =
    let none : P.number ≡ 0 = sym P.answer ∙ ap (λ (x : Result Counts Refusal). (reach_told x).refusal) e in
    let W = P.done none in
    let R = (granted (plan_granted {plan = plan} P.rules none).1 none).0 in (
      omega (arith, R.for_rows, W.rows_kept.long),
      omega (arith, R.for_moves moves' _ W.outs, W.moves_kept.long, ap (λ (x : Result Counts Refusal). (reach_told x).moves) e),
    )

-- The costs that are told stand in their room, one for each listed cell.
pub costed_within : {width height n : ℕ} {plan cells costs costs' : List ℕ} {r : Result ℕ Refusal} → Costed width height plan cells costs r costs' → r ≡ Ok n
    → (n ≤ length cells) × (n ≤ length costs')
costed_within {plan = plan} {cells = cells} P e =
    let C = along_granted plan cells ((along_number P 0).0 (ap (λ (x : Result ℕ Refusal). (running_told x).refusal) e)) refl in
    let same = ap (λ (x : Result ℕ Refusal). (running_told x).costs) (sym e ∙ (along_done P C).0) in
    (omega (arith, same), omega (arith, same, C.roomy, P.long))
