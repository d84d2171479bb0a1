-- How large the numbers can become, and how far one search can raise them.
use Rattle.std.specs.Prelude.{◌≡◌, true, ◌⊎◌, ℕ, ◌+◌, ◌*◌, ◌≤◌, ◌<◌, get_or}
use Rattle.method.specs.Numbers.{infinite, most_cost, most_estimate, most_searches, growth}
use Rattle.method.specs.Graph.{Graph}
use Rattle.method.specs.Tables.{Tables, g_at, rhs_at, queued_at, lesser}
use Rattle.method.specs.Session.{Session}

-- "A station left running until its sums of distances reach the end of their width": no number is lost there. Each is infinite, or below infinite with all that is ever added to it.
pub record NumbersFit (G : Graph) (σ : Session) (T : Tables) : Type 0 where
  -- a g and a cost
  pub sum : (s cost : ℕ) → s < G.cells → cost ≤ most_cost → (g_at T s ≡ infinite) ⊎ (g_at T s + cost < infinite)
  -- rhs: at most 1,024,250,250
  pub rhs : (s : ℕ) → s < G.cells → (rhs_at T s ≡ infinite) ⊎ (rhs_at T s ≤ growth * most_searches + most_cost)
  -- the first number of the calculated key: the lesser of g and rhs, an estimate and km
  pub key : (s : ℕ) → s < G.cells → (lesser T s ≡ infinite) ⊎ (lesser T s + G.estimate s σ.goal + σ.km < infinite)
  -- the first number of a stored key
  pub stored : (s : ℕ) → s < G.cells → queued_at T s ≡ true → get_or T.k1 s 0 < infinite
  -- km and one more estimate; the search number
  pub km : σ.km + most_estimate < infinite
  pub searches : σ.searches ≤ most_searches

-- No finite g or rhs of a cell is above `most`.
pub record FiniteUpTo (cells most : ℕ) (T : Tables) : Type 0 where
  pub g : (s : ℕ) → s < cells → (g_at T s ≡ infinite) ⊎ (g_at T s ≤ most)
  pub rhs : (s : ℕ) → s < cells → (rhs_at T s ≡ infinite) ⊎ (rhs_at T s ≤ most)

-- From T to T' "the greatest finite number" is raised "by at most 250 × 4,097 = 1,024,250".
abbrev pub RaisesAtMost : ℕ → Tables → Tables → Type 0
RaisesAtMost cells T T' = (most : ℕ) → FiniteUpTo cells most T → FiniteUpTo cells (most + growth) T'
