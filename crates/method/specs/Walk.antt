-- Chains of open moves, what a right answer is, and what the steps of a search may be.
use mathlib.Core.List.{List, [], ◌∷◌, Memᴰ}
use Rattle.std.specs.Prelude.{ℕ, ◌+◌, ◌≤◌, length}
use Rattle.method.specs.Graph.{Graph, Comes}
use Rattle.method.specs.Session.{Answer, none_leads, way}

-- `Chain G a l e d`: open moves lead from cell a to cell e over the cells of l, a first and e last, at cost d in all.
pub data Chain (G : Graph) : ℕ → List ℕ → ℕ → ℕ → Type 0 where
  stay : {a : ℕ} → Chain G a (a ∷ []) a 0
  go : {a b k c d e : ℕ} {l : List ℕ} → Comes G b k a c → Chain G b l e d → Chain G a (a ∷ l) e (c + d)

-- "The way shown starts at the hunter, ends at the target and uses open moves only; no way costs less."
pub record Cheapest (G : Graph) (hunter target cost : ℕ) (cells : List ℕ) : Type 0 where
  pub leads : Chain G hunter cells target cost
  pub least : (l : List ℕ) (d : ℕ) → Chain G hunter l target d → cost ≤ d

-- No chain of open moves leads there.
abbrev pub NoChain : Graph → ℕ → ℕ → Type 0
NoChain G hunter target = (l : List ℕ) (d : ℕ) → Chain G hunter l target d → ⊥

-- A right answer for hunter and target apart, after so many steps: there is no chain, or the way shown is a cheapest one, of no more cells than
-- the graph has.
pub data RightAnswer (G : Graph) (hunter target steps : ℕ) : Answer → Type 0 where
  none_there : NoChain G hunter target → RightAnswer G hunter target steps (none_leads steps)
  way_there : {cost : ℕ} {cells : List ℕ} → Cheapest G hunter target cost cells → length cells ≤ G.cells → RightAnswer G hunter target steps (way cost steps cells)

-- No entry of a list stands in it twice.
pub data Once {A : Type 0} : List A → Type 0 where
  none_yet : Once []
  one_more : {x : A} {l : List A} → (Memᴰ x l → ⊥) → Once l → Once (x ∷ l)
