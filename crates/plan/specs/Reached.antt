-- What a function of the plan answers of one move.
use Rattle.std.specs.Prelude.{◌≡◌, List, [], ◌∷◌, Option, Some, None, ℕ, ◌+◌, ◌*◌, ◌≤◌, ◌<◌, length}
use Rattle.method.specs.Numbers.{most_cells}
use Rattle.method.specs.Graph.{Move, move}
use Rattle.plan.specs.declared.Reach.{Reach}
use Rattle.plan.specs.declared.Spot.{Spot}
use Rattle.plan.specs.Cells.{Stands, apart}

-- No open move, or the one with this parent code to (or from) this cell at this cost.
abbrev pub listed : Option Reach → List Move
listed None = []
listed (Some r) = move r.code r.cell r.cost ∷ []

-- Cell s stands at a spot.
abbrev pub At : ℕ → ℕ → Spot → Type 0
At width s at = Stands width s at.row at.column

-- A spot of some plan.
pub record Placed (at : Spot) : Type 0 where
  pub row : at.row < 64
  pub column : at.column < 64

-- The move in direction d from cell u, which stands at a spot, can be looked up.
pub record EdgeAsked (width height : ℕ) (bytes : List ℕ) (u : ℕ) (at : Spot) (d : ℕ) : Type 0 where
  pub sized : length bytes ≡ 4 * (height * width)
  pub few : height * width ≤ most_cells
  pub inside : u < height * width
  pub direction : d < 4
  pub placed : Placed at
  pub here : At width u at

-- The estimate between two spots.
abbrev pub between : Spot → Spot → ℕ
between a b = apart a.row b.row + apart a.column b.column
