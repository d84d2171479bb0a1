-- What the inner functions rest on: what holds while the part is filled.
use Rattle.std.specs.Prelude.{◌≡◌, ◌≢◌, List, ℕ, ◌+◌, ◌*◌, ◌/◌, ◌%◌, ◌≤◌, ◌<◌, ◌^◌, length, get_or, set}
use Rattle.plan.specs.Cells.{row, column, entered}
use Rattle.plan.specs.Costs.{Plan, cells, byte, shut}
use Rattle.plan.specs.Reached.{Placed}
use Rattle.plan.specs.declared.Spot.{Spot}
use Rattle.reach.specs.Bits.{bit, bit_of, Marked, sum_to}
use Rattle.reach.specs.Reachable.{Reachable}
use Rattle.reach.specs.Outs.{Listed}

-- A cell of the list is written 64 × row + column: the cell that is meant ..
abbrev pub cell_by : ℕ → ℕ → ℕ
cell_by width x = x / 64 * width + x % 64

-- .. how a cell is written ..
abbrev pub code_of : ℕ → ℕ → ℕ
code_of width s = 64 * row width s + column width s

-- .. and that it is one of the plan.
pub record Within (width height x : ℕ) : Type 0 where
  pub row_lt : x / 64 < height
  pub column_lt : x % 64 < width

-- Room, and nothing marked yet.
pub record Clean (p : Plan) (rows list : List ℕ) : Type 0 where
  pub rowed : p.height ≤ length rows
  pub room : cells p ≤ length list
  pub none : (i : ℕ) → get_or rows i 0 ≡ 0

-- The first `count` of the list are the marked cells, each once: `count` is the sum of their bits.
pub record Filled (p : Plan) (rows list : List ℕ) (count : ℕ) : Type 0 where
  pub rowed : p.height ≤ length rows
  pub room : cells p ≤ length list
  pub narrow : (r : ℕ) → get_or rows r 0 < 2 ^ p.width
  pub listed : (s : ℕ) → s < cells p → Marked p.width rows s → Listed list count (code_of p.width s)
  pub inside : (i : ℕ) → i < count → Within p.width p.height (get_or list i 0)
  pub counted : count ≡ sum_to (bit_of p.width rows) (cells p)

-- The cell of a spot can be marked: its bit is 0, and the list has room.
pub record Markable (rows list : List ℕ) (count : ℕ) (at : Spot) : Type 0 where
  pub placed : Placed at
  pub row_lt : at.row < length rows
  pub clear : bit (get_or rows at.row 0) at.column ≡ 0
  pub room : count < length list

-- The cell of a spot is marked and stands at the list's end.
pub record Put (rows list : List ℕ) (count : ℕ) (at : Spot) (rows' list' : List ℕ) (count' : ℕ) : Type 0 where
  pub rows_are : rows' ≡ set rows at.row (get_or rows at.row 0 + 2 ^ at.column)
  pub list_is : list' ≡ set list count (64 * at.row + at.column)
  pub one_more : count' ≡ count + 1

-- If the move from a cell of the list in direction d is open, the cell that it enters is marked ..
abbrev pub Looks : Plan → List ℕ → ℕ → ℕ → Type 0
Looks p rows x d = byte p (cell_by p.width x) d ≢ shut → Marked p.width rows (entered p.width (cell_by p.width x) d)

-- .. and so of the first n directions.
abbrev pub Looked : Plan → List ℕ → ℕ → ℕ → Type 0
Looked p rows x n = (d : ℕ) → d < n → Looks p rows x d

-- Nothing is taken away, and a cell added is one that a cell of the list can reach.
pub record Grown (p : Plan) (x : ℕ) (rows list : List ℕ) (count : ℕ) (rows' list' : List ℕ) (count' : ℕ) : Type 0 where
  pub filled : Filled p rows' list' count'
  pub le : count ≤ count'
  pub kept : (i : ℕ) → i < count → get_or list' i 0 ≡ get_or list i 0
  pub grows : (s : ℕ) → Marked p.width rows s → Marked p.width rows' s
  pub from : (i : ℕ) → count ≤ i → i < count' → Reachable p (cell_by p.width x) (cell_by p.width (get_or list' i 0))

-- While the list is gone through: the hunter's cell is marked, each listed cell can be reached, and the open moves of the first `looked` cells enter
-- marked cells.
pub record Going (p : Plan) (h : ℕ) (rows list : List ℕ) (count looked : ℕ) : Type 0 where
  pub filled : Filled p rows list count
  pub le : looked ≤ count
  pub own : Marked p.width rows h
  pub reached : (i : ℕ) → i < count → Reachable p h (cell_by p.width (get_or list i 0))
  pub looks : (i : ℕ) → i < looked → Looked p rows (get_or list i 0) 4
