-- Small plans by computation: what the call answers on two plans where nothing is refused.
use mathlib.Core.Path.{◌≡◌, refl, subst}
use mathlib.Core.Logic.Dec
use mathlib.Core.List.{List, [], ◌∷◌}
use Prim.Native.Nat.{ℕ, ◌+◌}
use native.Mathlib.Decide.{ℕ_discrete, dec_lt}
use Rattle.std.specs.Prelude.{Option, Some, None, Result, Ok}
use Rattle.refusal.specs.declared.Refusal.{Refusal}
use Rattle.decide.specs.Choose.{choose}
use Rattle.method.specs.Tables.{first_key, enter, set_right, better, least_over, anew, found_anew}
use Rattle.method.specs.Steps.{relaxed, relaxed_all, lowered, renewed, renewed_all, raised, kind_of, stepped_by, stepped}
use Rattle.method.specs.Loop.{sooner, soonest, least_queued, goes_on, next_cell, run_on, run}
use Rattle.method.specs.Session.{blank, fresh}
use Rattle.plan.specs.Directions.{shifts}
use Rattle.plan.specs.Cells.{stays, entered, estimate}
use Rattle.plan.specs.Costs.{plan_of, byte, is_cost}
use Rattle.plan.specs.Grid.{out_by, into_by, up_to}
use Rattle.plan.proofs.CellLaws.{enters}
use Rattle.through.specs.Through.{Askable, through_told, Passes, LeastCost, cost_in}
use Rattle.through.proofs.FreshLaws.{rhs_fresh, least_fresh}
use Rattle.through.proofs.ThroughLaws.{through_granted, least_through, none_on}
use Rattle.through.proofs.Theorems.{through_number, least_walk, no_walk}

-- ---- by the two least costs

module _ {width height hunter target : ℕ} {plan : List ℕ} {cell direction : ℕ} {r : Result (Option ℕ) Refusal} (P : Passes width height hunter target plan cell direction r) (e : (through_told r).refusal ≡ 0) where
  asked : Askable width height hunter target plan cell direction
  asked = through_granted plan ((through_number P 0).0 e) refl

  -- The least costs to the move, and on from it, as the definitions compute them.
  abbrev there : Option ℕ
  there = cost_in (rhs_fresh (plan_of width height plan) hunter cell) hunter cell

  abbrev onward : Option ℕ
  onward = cost_in (rhs_fresh (plan_of width height plan) (entered width cell direction) target) (entered width cell direction) target

  sums_up : {x y : ℕ} → there ≡ Some x → onward ≡ Some y → r ≡ Ok (Some (x + byte (plan_of width height plan) cell direction + y))
  sums_up a b =
      let z = asked.obeys.size in
      (least_walk P asked _).1
      (least_through asked.obeys asked.small asked.stays_in asked.opens
      (subst (LeastCost (plan_of width height plan) hunter cell) a (least_fresh (plan_of width height plan) z asked.hunter_in asked.cell_in))
      (subst (LeastCost (plan_of width height plan) (entered width cell direction) target) b
      (least_fresh (plan_of width height plan) z (enters z.wide asked.stays_in).inside asked.target_in)))

  not_on : onward ≡ None → r ≡ Ok None
  not_on i =
      let z = asked.obeys.size in
      (no_walk P asked).1
      (none_on (subst (LeastCost (plan_of width height plan) (entered width cell direction) target) i
      (least_fresh (plan_of width height plan) z (enters z.wide asked.stays_in).inside asked.target_in)))

-- ---- the plans

-- Three cells in a row; east costs 2 and 3, west 5 and 7.
abbrev corridor : List ℕ
corridor = 255 ∷ 2 ∷ 255 ∷ 255 ∷ 255 ∷ 3 ∷ 255 ∷ 5 ∷ 255 ∷ 255 ∷ 255 ∷ 7 ∷ []

-- The hunter at the move's cell and the target in the cell that it enters: the move's cost.
pub the_move_alone : {r : Result (Option ℕ) Refusal} → Passes 3 1 0 1 corridor 0 1 r → (through_told r).refusal ≡ 0 → r ≡ Ok (Some 2)
unfolding choose first_key enter set_right better least_over anew found_anew relaxed relaxed_all lowered renewed renewed_all raised kind_of stepped_by stepped
    sooner soonest least_queued goes_on next_cell run_on run blank fresh shifts stays estimate is_cost out_by into_by up_to cost_in ℕ_discrete dec_lt Dec.and
the_move_alone P e = sums_up P e refl refl

-- Hunter and target in one cell: the round, there by the move and back.
pub there_and_back : {r : Result (Option ℕ) Refusal} → Passes 3 1 0 0 corridor 0 1 r → (through_told r).refusal ≡ 0 → r ≡ Ok (Some 7)
unfolding choose first_key enter set_right better least_over anew found_anew relaxed relaxed_all lowered renewed renewed_all raised kind_of stepped_by stepped
    sooner soonest least_queued goes_on next_cell run_on run blank fresh shifts stays estimate is_cost out_by into_by up_to cost_in ℕ_discrete dec_lt Dec.and
there_and_back P e = sums_up P e refl refl

-- The move is off the way: the walk goes out to it and comes back past the hunter.
pub out_of_the_way : {r : Result (Option ℕ) Refusal} → Passes 3 1 1 0 corridor 1 1 r → (through_told r).refusal ≡ 0 → r ≡ Ok (Some 15)
unfolding choose first_key enter set_right better least_over anew found_anew relaxed relaxed_all lowered renewed renewed_all raised kind_of stepped_by stepped
    sooner soonest least_queued goes_on next_cell run_on run blank fresh shifts stays estimate is_cost out_by into_by up_to cost_in ℕ_discrete dec_lt Dec.and
out_of_the_way P e = sums_up P e refl refl

-- The same with cell 0 shut towards the east.
abbrev dead_end : List ℕ
dead_end = 255 ∷ 255 ∷ 255 ∷ 255 ∷ 255 ∷ 3 ∷ 255 ∷ 5 ∷ 255 ∷ 255 ∷ 255 ∷ 7 ∷ []

-- The target can be reached, but not from the cell that the move enters: no walk.
pub not_from_there : {r : Result (Option ℕ) Refusal} → Passes 3 1 1 2 dead_end 1 3 r → (through_told r).refusal ≡ 0 → r ≡ Ok None
unfolding choose first_key enter set_right better least_over anew found_anew relaxed relaxed_all lowered renewed renewed_all raised kind_of stepped_by stepped
    sooner soonest least_queued goes_on next_cell run_on run blank fresh shifts stays estimate is_cost out_by into_by up_to cost_in ℕ_discrete dec_lt Dec.and
not_from_there P e = not_on P e refl
