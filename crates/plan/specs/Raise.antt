-- Raise: document 01 says "each neighbour s with parent u", the definition (`renewed`, `raised` in method/specs/Steps) walks the open moves out of u. The cells meant by each.
use Rattle.std.specs.Prelude.{◌≡◌, ◌≢◌, ℕ, ◌+◌, ◌<◌}
use mathlib.Core.List.{Memᴰ}
use Rattle.method.specs.Numbers.{infinite}
use Rattle.method.specs.Graph.{move, Hunt}
use Rattle.method.specs.Tables.{Tables, g_at, rhs_at, parent_at, queued_at, stored_key, LeastAt}
use Rattle.plan.specs.Cells.{Stays, entered}
use Rattle.plan.specs.Costs.{Plan, cells}
use Rattle.plan.specs.Grid.{graph_of}

-- u is the neighbour of s that the parent byte of s names: "direction to the parent plus 1".
pub record NeighbourWithParent (p : Plan) (T : Tables) (s u : ℕ) : Type 0 where
  pub direction : ℕ
  pub small : direction < 4
  pub stays : Stays p.width p.height s direction
  pub parent : entered p.width s direction ≡ u
  pub byte : parent_at T s ≡ direction + 1

-- An open move out of u enters s, and the parent code of s names this move.
pub record EnteredByParent (p : Plan) (T : Tables) (s u : ℕ) : Type 0 where
  pub cost : ℕ
  pub open_move : Memᴰ (move (parent_at T s) s cost) ((graph_of p).out u)

-- What a raise of u makes of the tables T: "g(u) becomes infinite; for each neighbour s with parent u, s not the hunter, rhs, parent and entry are found anew; last, u's entry is set right". The rest stays.
pub record RaisedAsWritten (p : Plan) (H : Hunt) (T T' : Tables) (u : ℕ) : Type 0 where
  pub g_u : g_at T' u ≡ infinite
  pub g_others : (s : ℕ) → s < cells p → s ≢ u → g_at T' s ≡ g_at T s
  pub is_found_anew : (s : ℕ) → s < cells p → s ≢ H.hunter → NeighbourWithParent p T s u → LeastAt (graph_of p) T' s
  pub kept : (s : ℕ) → s < cells p → (s ≢ H.hunter → NeighbourWithParent p T s u → ⊥)
      → (rhs_at T' s ≡ rhs_at T s) × (parent_at T' s ≡ parent_at T s) × (s ≢ u → (stored_key T' s ≡ stored_key T s) × (queued_at T' s ≡ queued_at T s))
