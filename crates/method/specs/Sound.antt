-- Sound tables: document 01's paragraph in its order, but for what speaks of the plan's bytes, the list, the places and the heap.
use Rattle.std.specs.Prelude.{◌≡◌, true, false, ◌⊎◌, ◌≢◌, ℕ, ◌*◌, ◌≤◌, ◌<◌, get_or}
use Rattle.method.specs.Numbers.{infinite, most_estimate, most_searches, growth}
use Rattle.method.specs.Graph.{Graph}
use Rattle.method.specs.Tables.{Tables, Sized, g_at, rhs_at, parent_at, queued_at, stored_key, calculated_key, LeastAt}
use Rattle.method.specs.Session.{Session, hunt_of}

pub record Sound (G : Graph) (σ : Session) (T : Tables) : Type 0 where
  -- "Every table has exactly the length that N gives"
  pub sized : Sized G.cells T
  -- "the recorded cells are in the plan"
  pub hunter_in : σ.hunter < G.cells
  pub target_in : σ.target < G.cells
  pub origin_in : σ.origin < G.cells
  pub goal_in : σ.goal < G.cells
  -- "rhs of the search's hunter is finite and its parent 0"
  pub hunter_finite : rhs_at T σ.origin < infinite
  pub hunter_parent : parent_at T σ.origin ≡ 0
  -- "each other cell's rhs is the least g + cost .., and its parent is a neighbour that gives this least sum, 0 exactly if infinite"
  pub least : (s : ℕ) → s < G.cells → s ≢ σ.origin → LeastAt G T s
  -- "the queue holds exactly the cells with g ≠ rhs"
  pub in_queue : (s : ℕ) → s < G.cells → g_at T s ≢ rhs_at T s → queued_at T s ≡ true
  pub not_in_queue : (s : ℕ) → s < G.cells → g_at T s ≡ rhs_at T s → queued_at T s ≡ false
  -- "each stored key is not above the calculated key, compared k1 first"
  pub keys : (s : ℕ) → s < G.cells → queued_at T s ≡ true → stored_key T s ≤ calculated_key (hunt_of G σ) T s
  -- "A cell not queued has both key numbers 0."
  pub absent : (s : ℕ) → s < G.cells → queued_at T s ≡ false → (get_or T.k1 s 0 ≡ 0) × (get_or T.k2 s 0 ≡ 0)
  -- "the search number n is at most 1,000, km at most 126 × n, and every finite g and the hunter's rhs at most 1,024,250 × n"
  pub searches_le : σ.searches ≤ most_searches
  pub km_le : σ.km ≤ most_estimate * σ.searches
  pub g_le : (s : ℕ) → s < G.cells → (g_at T s ≡ infinite) ⊎ (g_at T s ≤ growth * σ.searches)
  pub hunter_le : rhs_at T σ.origin ≤ growth * σ.searches
