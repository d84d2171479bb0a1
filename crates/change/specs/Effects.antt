-- What a changed move asks of the cell that it enters.
use Rattle.std.specs.Prelude.{Option, Some, None, ◌≡◌, ◌⊎◌, ◌≢◌, List, ℕ, ◌+◌, ◌<◌, get_or, length}
use Rattle.method.specs.Tables.{anew}
use Rattle.tables.specs.declared.Session.{Session}
use Rattle.tables.specs.Lent.{frame, cells, graph_in}
use Rattle.entries.specs.Aims.{Findable}
use Rattle.entries.specs.declared.Asked.{Asked}

-- The cell v is written: it is not the search's hunter, and the cost falls so that "g(u) + cost < rhs(v)", or rises where "u is its parent"; k is the parent code of the move at v.
abbrev pub Touches : (hunter : ℕ) (g rhs parent : List ℕ) (v k u old new : ℕ) → Type 0
Touches hunter g rhs parent v k u old new =
    (v ≢ hunter) × (((new < old) × (get_or g u 0 + new < get_or rhs v 0)) ⊎ ((old < new) × (get_or parent v 0 ≡ k)))

-- What a changed move asks can be decided: the cell v entered can be found anew, it has a rhs and a parent, and the cell u is in the plan.
pub record Deciding (s : Session) (plan g rhs parent : List ℕ) (v u : ℕ) : Type 0 where
  pub findable : Findable s.width s.height plan g v
  pub long_rhs : length rhs ≡ cells s
  pub long_parent : length parent ≡ cells s
  pub cell_in : u < cells s

-- What a changed move asks of the cell v that it enters: to keep its numbers, to take the smaller sum with u as parent, or to be found anew. The plan is that after the change.
pub data Asks (s : Session) (plan g rhs parent : List ℕ) (v k u old new : ℕ) : Option Asked → Type 0 where
  keeps : (Touches s.origin g rhs parent v k u old new → ⊥) → Asks s plan g rhs parent v k u old new None
  falls : v ≢ s.origin → new < old → get_or g u 0 + new < get_or rhs v 0 → Asks s plan g rhs parent v k u old new (Some (record { cell = v; found = record { rhs = get_or g u 0 + new; parent = k } }))
  rises : v ≢ s.origin → old < new → get_or parent v 0 ≡ k
      → Asks s plan g rhs parent v k u old new (Some (record { cell = v; found = record { rhs = (anew (graph_in (frame s) plan) g v).sum; parent = (anew (graph_in (frame s) plan) g v).code } }))
