-- Two drills by computation: document 01's whole drill, and the least one, a plan of one cell with no actions.
use mathlib.Core.Path.{◌≡◌, refl}
use mathlib.Core.Bool.{Bool, true, false, cond, false≢true}
use mathlib.Core.List.{List, [], ◌∷◌, ◌++◌}
use mathlib.Core.Logic.Dec
use Prim.Native.Nat.{ℕ, zero, suc, ◌≤◌, ◌<◌}
use native.Mathlib.Omega.{arith}
use native.Mathlib.Decide.{ℕ_discrete, dec_lt}
use lib.Dec.{ltb}
use lib.ListN.{length, get_or, drop}
use borrow.Author.Tests.{ltb-true}
use Rattle.std.specs.Prelude.{Result, Ok}
use Rattle.refusal.specs.declared.Refusal.{Refusal}
use Rattle.decide.specs.Choose.{choose}
use Rattle.plan.specs.Directions.{shifts}
use Rattle.plan.specs.Cells.{stays}
use Rattle.plan.specs.Costs.{is_cost}
use Rattle.drill_file.specs.File.{action_of, action_at, actions_from, well_formed, is_size, form_number}
use Rattle.drill_file.specs.Numbers.{below, is_byte, bytes_hold, edge_holds, edges_hold, open_number, file_number}
use Rattle.drill_file.specs.Whole.{whole_plan, whole_actions, drill_of_one}
use Rattle.drill_writer.specs.Promise.{Writes}
use Rattle.drill_writer.proofs.Theorems.{rewrites}

-- Whether every number of a list is a byte: then each that is read from it is one.
unfoldable all_bytes : List ℕ → Bool
all_bytes [] = true
all_bytes (x ∷ l) = cond (ltb x 256) (all_bytes l) false

first_and_rest : (x : ℕ) (l : List ℕ) → all_bytes (x ∷ l) ≡ true → (x < 256) × (all_bytes l ≡ true)
unfolding all_bytes
first_and_rest x l = by (ltb x 256) refl
  where
    by : (b : Bool) → ltb x 256 ≡ b → cond b (all_bytes l) false ≡ true → (x < 256) × (all_bytes l ≡ true)
    by true t h = (ltb-true x 256 t, h)
    by false t h = absurd (false≢true h)

octets : (l : List ℕ) → all_bytes l ≡ true → (i : ℕ) → get_or l i 0 < 256
octets [] e i = omega arith
octets (x ∷ l) e zero = (first_and_rest x l e).0
octets (x ∷ l) e (suc i) = octets l (first_and_rest x l e).1 i

-- The file of the least drill, 16 bytes: every move of its one cell leaves the plan.
abbrev pub least_drill : List ℕ
least_drill = 255 ∷ 255 ∷ 255 ∷ 255 ∷ 1 ∷ 1 ∷ 0 ∷ 0 ∷ 0 ∷ 0 ∷ 0 ∷ 0 ∷ 4 ∷ 0 ∷ 0 ∷ 0 ∷ []

-- The reader takes both files, and they are bytes.
taken : (file_number drill_of_one ≡ 0) × (file_number least_drill ≡ 0) × (all_bytes drill_of_one ≡ true) × (all_bytes least_drill ≡ true)
unfolding choose shifts stays is_cost action_of action_at actions_from well_formed is_size form_number below is_byte bytes_hold edge_holds edges_hold open_number file_number ℕ_discrete dec_lt
    Dec.and all_bytes
taken = (refl, refl, refl, refl)

-- The whole drill's parts are written as document 01's 79 bytes ..
pub whole_drill : {room room' : List ℕ} {r : Result ℕ Refusal} → Writes 3 1 0 2 whole_plan whole_actions room r room' → 79 ≤ length room → (r ≡ Ok 79) × (room' ≡ drill_of_one ++ drop 79 room)
whole_drill P l = rewrites drill_of_one (octets drill_of_one taken.2) taken.0 l P

-- .. and no actions at all on 1 by 1 as 16.
pub least_drill_written : {room room' : List ℕ} {r : Result ℕ Refusal} → Writes 1 1 0 0 (255 ∷ 255 ∷ 255 ∷ 255 ∷ []) [] room r room' → 16 ≤ length room → (r ≡ Ok 16) × (room' ≡ least_drill ++ drop 16 room)
least_drill_written P l = rewrites least_drill (octets least_drill taken.3) taken.1 l P
