-- The first least sum, direction by direction.
use mathlib.Core.Path.{◌≡◌, refl, sym, ◌∙◌}
use mathlib.Core.List.{List, [], ◌∷◌}
use Prim.Native.Nat.{ℕ, ◌+◌, ◌≤◌, ◌<◌}
use native.Mathlib.Numerals.{add-one}
use native.Mathlib.Omega.{arith}
use native.Mathlib.Decide.{dec_lt}
use lib.ListN.{get_or}
use Rattle.decide.proofs.ChooseLaws.{choose_yes, choose_no}
use Rattle.method.specs.Numbers.{most_cost}
use Rattle.method.specs.Graph.{Move, move}
use Rattle.method.specs.Tables.{Found, found, better, least_over}
use Rattle.method.proofs.Appending.{least_over_append}
use Rattle.plan.specs.Costs.{Plan, cells, Obeys}
use Rattle.plan.specs.Grid.{into_by, up_to}
use Rattle.plan.proofs.GridLaws.{into_reach, open_from_in}

-- no move is looked at, or one
pub looked_shut : (g : List ℕ) (f : Found) {l : List Move} → [] ≡ l → f ≡ least_over g f l
unfolding least_over
looked_shut g f e = rw (← e) refl

pub looked_left : (g : List ℕ) (f : Found) {k v c : ℕ} {l : List Move} → move k v c ∷ [] ≡ l → f.sum ≤ get_or g v 0 + c → f ≡ least_over g f l
unfolding least_over better
looked_left g f {k} {v} {c} e h = rw (← e) (sym (choose_no (dec_lt (get_or g v 0 + c) f.sum) (found (get_or g v 0 + c) k) f (λ x. omega arith)))

pub looked_taken : (g : List ℕ) (f : Found) {k v c sum : ℕ} {l : List Move} → move k v c ∷ [] ≡ l → sum ≡ get_or g v 0 + c → sum < f.sum → found sum k ≡ least_over g f l
unfolding least_over better
looked_taken g f {k} {v} {c} e is h = rw (← e, is) (sym (choose_yes (dec_lt (get_or g v 0 + c) f.sum) (found (get_or g v 0 + c) k) f (omega arith)))

-- the neighbour of an open move, and its cost
pub neighbour_in : (p : Plan) → Obeys p → (s d : ℕ) {k v c : ℕ} → d < 4 → move k v c ∷ [] ≡ into_by p s d → (v < cells p) × (c ≤ most_cost)
neighbour_in p O s d l e = let o = into_reach p O.size.wide s d l e in (open_from_in p O.size.wide o, o.a_cost.1)

-- one direction more
pub looked_more : (g : List ℕ) (f : Found) (m : ℕ → List Move) (d : ℕ) {b r : Found} → b ≡ least_over g f (up_to m d) → r ≡ least_over g b (m d) → r ≡ least_over g f (up_to m (d + 1))
unfolding up_to
looked_more g f m d e q = q ∙ rw (e, add-one, least_over_append) refl

pub looked_all : (g : List ℕ) (f : Found) (m : ℕ → List Move) {d : ℕ} {b : Found} → b ≡ least_over g f (up_to m d) → d ≡ 4 → b ≡ least_over g f (up_to m 4)
looked_all g f m e q = rw q at e
