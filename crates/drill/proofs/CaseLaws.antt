-- Document 01's cases hold of the definition of the whole output, by computation.
use mathlib.Core.Path.{◌≡◌, refl, ◌∙◌}
use mathlib.Core.Logic.Dec
use mathlib.Core.List.{List, map}
use Prim.Native.Nat.{ℕ, zero, suc, ◌<◌}
use native.Mathlib.Omega.{arith}
use native.Mathlib.Decide.{ℕ_discrete, dec_lt}
use Rattle.decide.specs.Choose.{choose}
use Rattle.decide.proofs.ChooseLaws.{choose_yes, choose_no}
use Rattle.method.specs.Tables.{first_key, enter, set_right, better, least_over, anew, found_anew}
use Rattle.method.specs.Steps.{relaxed, relaxed_all, lowered, renewed, renewed_all, raised, kind_of, stepped_by, stepped}
use Rattle.method.specs.Loop.{sooner, soonest, least_queued, goes_on, next_cell, run_on, run}
use Rattle.method.specs.Session.{blank, fresh, move_changed, handed_over, taken_over, parent_cell, way_from, answer_of, search}
use Rattle.plan.specs.Directions.{shifts}
use Rattle.plan.specs.Cells.{Stays, stays, estimate}
use Rattle.plan.specs.Costs.{plan_of, is_cost}
use Rattle.plan.specs.Grid.{out_by, into_by, up_to}
use Rattle.drill_file.specs.File.{action_of, action_at, actions_from, well_formed, is_size, form_number}
use Rattle.drill_file.specs.Numbers.{below, is_byte, bytes_hold, edge_holds, edges_hold, open_number, file_number}
use Rattle.text.specs.Text.{bytes, digits}
use Rattle.lines.specs.Lines.{spaced}
use Rattle.drill.specs.Numbers.{move_number}
use Rattle.drill.specs.Play.{turn, played, left_by, taken_from, taken_by}
use Rattle.drill.specs.Output.{output}
use Rattle.drill.specs.Cases.{given, cases}

-- For every file of the list the definitions give what the list says.
pub all_cases : map (λ c. given c.file) cases ≡ cases
unfolding choose first_key enter set_right better least_over anew found_anew relaxed relaxed_all lowered renewed renewed_all raised kind_of stepped_by stepped
    sooner soonest least_queued goes_on next_cell run_on run blank fresh move_changed handed_over taken_over parent_cell way_from answer_of search shifts stays
    estimate is_cost out_by into_by up_to action_of action_at actions_from well_formed is_size form_number bytes digits spaced below is_byte bytes_hold edge_holds
    edges_hold open_number move_number turn played left_by taken_from taken_by file_number output cases ℕ_discrete dec_lt Dec.and
all_cases = refl

-- No move stays in a plan of 1 by 1.
leaves : (d : ℕ) → (d < 4) × Stays 1 1 0 d → ⊥
unfolding shifts
leaves zero h = omega (arith, h.1.north)
leaves (suc zero) h = omega (arith, h.1.east)
leaves (suc (suc zero)) h = omega (arith, h.1.south)
leaves (suc (suc (suc zero))) h = omega (arith, h.1.west)
leaves (suc (suc (suc (suc d)))) h = omega (arith, h.0)

-- "Any change of cell 0 there: 4", whatever the direction and the cost.
pub one_by_one_refused : (plan : List ℕ) (d cost : ℕ) → move_number (plan_of 1 1 plan) 0 d cost ≡ 4
unfolding move_number
one_by_one_refused plan d cost = choose_yes _ _ _ (omega arith) ∙ choose_no _ _ _ (leaves d)
