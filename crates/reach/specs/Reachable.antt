-- "the cells the hunter can reach, its own included"
use mathlib.Core.List.{List, Memᴰ}
use Rattle.std.specs.Prelude.{◌≡◌, ℕ, ◌<◌, ◌^◌, length, get_or}
use Rattle.method.specs.Walk.{Chain, Once}
use Rattle.plan.specs.Costs.{Plan, cells}
use Rattle.plan.specs.Grid.{graph_of}
use Rattle.reach.specs.Bits.{Marked}

-- A chain of open moves leads from cell h to cell s.
pub record Reachable (p : Plan) (h s : ℕ) : Type 0 where
  pub over : List ℕ
  pub cost : ℕ
  pub chain : Chain (graph_of p) h over s cost

-- The rows of the cells that cell h can reach: a bit is 1 exactly if a chain of open moves leads there, and none stands past the plan's columns.
pub record Part (p : Plan) (h : ℕ) (rows : List ℕ) : Type 0 where
  pub so : (s : ℕ) → s < cells p → Marked p.width rows s → Reachable p h s
  pub whenever : (s : ℕ) → s < cells p → Reachable p h s → Marked p.width rows s
  pub narrow : (r : ℕ) → r < p.height → get_or rows r 0 < 2 ^ p.width

-- How many of the first `cells` cells have a property: as many as stand in a list of them, each once.
pub record Number (Has : ℕ → Type 0) (cells n : ℕ) : Type 0 where
  pub list : List ℕ
  pub once : Once list
  pub so : (s : ℕ) → Memᴰ s list → (s < cells) × Has s
  pub whenever : (s : ℕ) → s < cells → Has s → Memᴰ s list
  pub long : length list ≡ n
