-- What a search is played on: the cells, the open moves between them in visiting order, the estimate, and which of two cells is first among equal keys.
-- Nothing here knows of bytes, rows or heaps: the floor plan is one instance.
use Rattle.std.specs.Prelude.{◌≡◌, Bool, true, false, ◌⊎◌, ◌≢◌, ℕ, ◌+◌, ◌≤◌, ◌<◌}
use mathlib.Core.List.{List, Memᴰ}
use Rattle.method.specs.Numbers.{most_cost, most_cells, most_estimate}

-- A move as a cell's list has it: the parent code that it gives, the cell at its other end, its cost.
pub record Move : Type 0 where
  pub code : ℕ
  pub cell : ℕ
  pub cost : ℕ

abbrev pub move : ℕ → ℕ → ℕ → Move
move k s c = record { code = k; cell = s; cost = c }

-- Data alone, so that a contract can name the graph of any input; the laws stand beside it.
pub record Graph : Type 0 where
  pub cells : ℕ
  pub into : ℕ → List Move
  pub out : ℕ → List Move
  pub estimate : ℕ → ℕ → ℕ
  pub earlier : ℕ → ℕ → Bool

-- The open move with code k into cell s comes from cell w at cost c.
abbrev pub Comes : Graph → ℕ → ℕ → ℕ → ℕ → Type 0
Comes G s k w c = Memᴰ (move k w c) (G.into s)

pub record GraphLaws (G : Graph) : Type 0 where
  pub few : G.cells ≤ most_cells
  -- the moves out of a cell are the moves into its neighbours
  pub goes_out : (s k w c : ℕ) → Comes G s k w c → Memᴰ (move k s c) (G.out w)
  pub comes_in : (s k w c : ℕ) → Memᴰ (move k s c) (G.out w) → Comes G s k w c
  pub from_in : (s k w c : ℕ) → Comes G s k w c → w < G.cells
  pub to_in : (s k w c : ℕ) → Comes G s k w c → s < G.cells
  -- a parent code is not 0, and names one move into the cell
  pub code_pos : (s k w c : ℕ) → Comes G s k w c → 1 ≤ k
  pub one_from : (s k w c w' c' : ℕ) → Comes G s k w c → Comes G s k w' c' → w ≡ w'
  pub one_cost : (s k w c w' c' : ℕ) → Comes G s k w c → Comes G s k w' c' → c ≡ c'
  pub cost_pos : (s k w c : ℕ) → Comes G s k w c → 1 ≤ c
  pub cost_le : (s k w c : ℕ) → Comes G s k w c → c ≤ most_cost
  -- the estimate: consistent along every open move, 0 at the cell itself, symmetric, with the triangle
  pub near : (s k w c t : ℕ) → Comes G s k w c → G.estimate w t ≤ c + G.estimate s t
  pub self : (t : ℕ) → G.estimate t t ≡ 0
  pub symmetric : (a b : ℕ) → G.estimate a b ≡ G.estimate b a
  pub triangle : (a b c : ℕ) → G.estimate a c ≤ G.estimate a b + G.estimate b c
  pub estimate_le : (s t : ℕ) → s < G.cells → t < G.cells → G.estimate s t ≤ most_estimate
  -- among equal keys one cell is first
  pub not_itself : (a : ℕ) → G.earlier a a ≡ false
  pub onward : (a b c : ℕ) → G.earlier a b ≡ true → G.earlier b c ≡ true → G.earlier a c ≡ true
  pub one_first : (a b : ℕ) → a ≢ b → (G.earlier a b ≡ true) ⊎ (G.earlier b a ≡ true)

-- What one search goes by: the graph, the hunter and the target taken over, and km.
pub record Hunt : Type 0 where
  pub graph : Graph
  pub hunter : ℕ
  pub target : ℕ
  pub km : ℕ
