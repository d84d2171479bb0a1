-- The course of a search as a relation: whoever takes a least queued cell each time, and goes on as the loop's condition says.
use Rattle.std.specs.Prelude.{◌≡◌, true, ◌⊎◌, ◌≢◌, List, [], ◌∷◌, ℕ, ◌<◌}
use Rattle.method.specs.Graph.{Graph, Hunt}
use Rattle.method.specs.Tables.{Tables, g_at, rhs_at, queued_at, stored_key, calculated_key}
use Rattle.method.specs.Steps.{kind_of, stepped}
use Rattle.method.specs.Loop.{Step}

-- Cell a comes before cell b: by stored key, then by the tie.
abbrev pub Before : Graph → Tables → ℕ → ℕ → Type 0
Before G T a b = (stored_key T a < stored_key T b) ⊎ ((stored_key T a ≡ stored_key T b) × (G.earlier a b ≡ true))

-- u is queued, and comes before every other queued cell below n.
pub record LeastCell (G : Graph) (T : Tables) (n u : ℕ) : Type 0 where
  pub u_in : u < n
  pub queued : queued_at T u ≡ true
  pub first : (s : ℕ) → s < n → queued_at T s ≡ true → s ≢ u → Before G T u s

-- "the least stored key is below the target's calculated key, or rhs of the target is above its g": u the least cell
abbrev pub Continues : Hunt → Tables → ℕ → Type 0
Continues H T u = (stored_key T u < calculated_key H T H.target) ⊎ (g_at T H.target < rhs_at T H.target)

-- `Runs H T l E`: the steps of l, in order, lead from T to E, where the search ends.
pub data Runs (H : Hunt) : Tables → List Step → Tables → Type 0 where
  ends : {T : Tables} → ((u : ℕ) → LeastCell H.graph T H.graph.cells u → Continues H T u → ⊥) → Runs H T [] T
  takes : {T E : Tables} {l : List Step} (u : ℕ) → LeastCell H.graph T H.graph.cells u → Continues H T u → Runs H (stepped H T u) l E
      → Runs H T (record { kind = kind_of H T u; cell = u } ∷ l) E
