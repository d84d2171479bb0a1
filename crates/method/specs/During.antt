-- What holds between the steps of a search.
use Rattle.std.specs.Prelude.{◌≡◌, true, false, ◌≢◌, ℕ, zero, suc, ◌+◌, ◌*◌, ◌≤◌, ◌<◌}
use Rattle.std.proofs.Math.Logic.Dec
use Rattle.std.proofs.Math.Decide.{ℕ_discrete, dec_le}
use Rattle.method.specs.Numbers.{infinite, most_cost, most_estimate}
use Rattle.method.specs.Graph.{GraphLaws, Hunt}
use Rattle.method.specs.Tables.{Tables, Sized, g_at, rhs_at, parent_at, queued_at, key_number, stored_key, lesser, LeastAt}

-- The graph obeys its laws, and hunter and target are cells of it.
pub record Stands (H : Hunt) : Type 0 where
  pub laws : GraphLaws H.graph
  pub hunter_in : H.hunter < H.graph.cells
  pub target_in : H.target < H.graph.cells

-- The calculated key of a cell with the finite lesser number m.
abbrev pub key_at : Hunt → ℕ → ℕ → ℕ
key_at H s m = key_number (m + H.graph.estimate s H.target + H.km) m

-- The calculated key of a cell whose lesser number is finite.
abbrev pub key : Hunt → Tables → ℕ → ℕ
key H T s = key_at H s (lesser T s)

-- g and rhs of the cell differ.
abbrev pub Inconsistent : Tables → ℕ → Type 0
Inconsistent T s = g_at T s ≢ rhs_at T s

-- The queue holds s exactly if g ≠ rhs; its key numbers are 0 if not.
pub record QueueRight (T : Tables) (s : ℕ) : Type 0 where
  pub in_queue : Inconsistent T s → queued_at T s ≡ true
  pub not_in_queue : g_at T s ≡ rhs_at T s → queued_at T s ≡ false
  pub idle : g_at T s ≡ rhs_at T s → stored_key T s ≡ 0

-- Soundness but for the sizes, the session and the bounds on numbers.
pub record Right (H : Hunt) (T : Tables) : Type 0 where
  pub g_le : (s : ℕ) → s < H.graph.cells → g_at T s ≤ infinite
  pub hunter_finite : rhs_at T H.hunter < infinite
  pub hunter_parent : parent_at T H.hunter ≡ 0
  pub least : (s : ℕ) → s < H.graph.cells → s ≢ H.hunter → LeastAt H.graph T s
  pub queue : (s : ℕ) → s < H.graph.cells → QueueRight T s
  pub keys : (s : ℕ) → s < H.graph.cells → Inconsistent T s → stored_key T s ≤ key H T s

-- No queued cell has a stored key below κ.
abbrev pub Floor : Hunt → ℕ → Tables → Type 0
Floor H κ T = (s : ℕ) → s < H.graph.cells → Inconsistent T s → κ ≤ stored_key T s

-- Every finite g, and rhs of the hunter, is at most B.
pub record Bound (H : Hunt) (B : ℕ) (T : Tables) : Type 0 where
  pub g : (s : ℕ) → s < H.graph.cells → g_at T s < infinite → g_at T s ≤ B
  pub hunter : rhs_at T H.hunter ≤ B

-- Consistent at a key not above κ.
abbrev pub Settled : Hunt → ℕ → Tables → ℕ → Type 0
Settled H κ T s = (g_at T s ≡ rhs_at T s) × (key_at H s (g_at T s) ≤ κ)

-- Whether it is, can be tested.
pub dec_settled : (H : Hunt) (κ : ℕ) (T : Tables) (s : ℕ) → Dec (Settled H κ T s)
dec_settled H κ T s = Dec.and (ℕ_discrete (g_at T s) (rhs_at T s)) (dec_le (key_at H s (g_at T s)) κ)

-- 0 where P holds, 1 where it is lacking.
unfoldable pub lack : {P : Type 0} → Dec P → ℕ
lack (yes p) = 0
lack (no n) = 1

-- f 0 + .. + f (n - 1)
unfoldable pub sum : ℕ → (ℕ → ℕ) → ℕ
sum zero f = 0
sum (suc n) f = sum n f + f n

-- How many cells are not settled.
unfoldable pub unsettled : Hunt → ℕ → Tables → ℕ
unsettled H κ T = sum H.graph.cells (λ s. lack (dec_settled H κ T s))

-- What no number of a search passes whose tables were within A at its start: every cell lowered, and one cost.
abbrev pub most : Hunt → ℕ → ℕ
most H A = A + most_cost * H.graph.cells + most_cost

-- What holds between the steps of a search. A bounds the numbers at its start, `last` is the key taken last.
pub record During (H : Hunt) (A : ℕ) (T : Tables) : Type 0 where
  pub stands : Stands H
  pub fits : most H A + most_cost + most_estimate + H.km < infinite
  pub sized : Sized H.graph.cells T
  pub right : Right H T
  pub last : ℕ
  pub floor : Floor H last T
  -- the numbers are within B now, and B has room for each cell that is not lowered yet
  pub B : ℕ
  pub bound : Bound H B T
  pub room : B + most_cost * unsettled H last T ≤ A + most_cost * H.graph.cells
