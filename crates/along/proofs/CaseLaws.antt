-- Small plans by computation: what the call answers on two plans where nothing is refused.
use mathlib.Core.Path.{◌≡◌, refl}
use mathlib.Core.List.{List, [], ◌∷◌}
use Prim.Native.Nat.{ℕ, ◌+◌}
use native.Mathlib.Omega.{arith}
use lib.ListN.{get_or}
use Rattle.std.specs.Prelude.{Result}
use Rattle.refusal.specs.declared.Refusal.{Refusal}
use Rattle.plan.specs.Directions.{shifts}
use Rattle.plan.specs.Costs.{plan_of}
use Rattle.plan.specs.Toward.{Leads}
use Rattle.along.specs.Along.{running_told, Runs, Costed}
use Rattle.along.proofs.AlongLaws.{along_granted}
use Rattle.along.proofs.Theorems.{along_number, along_done}

-- The running costs where nothing is refused.
runs : {width height : ℕ} {plan cells costs costs' : List ℕ} {r : Result ℕ Refusal} → Costed width height plan cells costs r costs' → (running_told r).refusal ≡ 0 → Runs (plan_of width height plan) cells costs'
runs {plan = plan} {cells = cells} P e = (along_done P (along_granted plan cells ((along_number P 0).0 e) refl)).1

-- One cell: the cost is 0.
pub one_cell : {costs costs' : List ℕ} {r : Result ℕ Refusal} → Costed 1 1 (255 ∷ 255 ∷ 255 ∷ 255 ∷ []) (0 ∷ []) costs r costs' → (running_told r).refusal ≡ 0 → get_or costs' 0 0 ≡ 0
one_cell P e = (runs P e).first

-- Three cells in a row; east costs 2 and 3, west 5 and 7.
abbrev corridor : List ℕ
corridor = 255 ∷ 2 ∷ 255 ∷ 255 ∷ 255 ∷ 3 ∷ 255 ∷ 5 ∷ 255 ∷ 255 ∷ 255 ∷ 7 ∷ []

-- East at 2 and back at 5.
pub east_and_back : {costs costs' : List ℕ} {r : Result ℕ Refusal} → Costed 3 1 corridor (0 ∷ 1 ∷ 0 ∷ []) costs r costs' → (running_told r).refusal ≡ 0
    → (get_or costs' 0 0 ≡ 0) × (get_or costs' 1 0 ≡ 2) × (get_or costs' 2 0 ≡ 7)
unfolding shifts
east_and_back {costs' = costs'} P e =
    let R = runs P e in
    let one : get_or costs' 1 0 ≡ get_or costs' 0 0 + 2 = R.next 0 1 (omega arith) east in
    let two : get_or costs' 2 0 ≡ get_or costs' 1 0 + 5 = R.next 1 3 (omega arith) west in
    (R.first, omega (arith, R.first, one), omega (arith, R.first, one, two))
  where
    east : Leads 3 1 0 1 1
    east = record { direction = omega arith; stays_in = record { from_in = omega arith; north = omega arith; south = omega arith; west = omega arith; east = omega arith }; enters = refl }

    west : Leads 3 1 1 3 0
    west = record { direction = omega arith; stays_in = record { from_in = omega arith; north = omega arith; south = omega arith; west = omega arith; east = omega arith }; enters = refl }
