-- The plan read as a graph of the method: the open moves out of each cell and into it, in direction order.
use Rattle.std.specs.Prelude.{List, [], ◌∷◌, ◌++◌, ℕ, zero, suc, ◌+◌}
use Rattle.decide.specs.Choose.{choose}
use Rattle.decide.specs.Order.{column_first}
use Rattle.method.specs.Graph.{Move, move, Graph}
use Rattle.plan.specs.Directions.{opposite}
use Rattle.plan.specs.Cells.{stays, entered, estimate}
use Rattle.plan.specs.Costs.{Plan, cells, byte, is_cost}

-- The open move out of cell u in direction d. "Parent byte: direction to the parent plus 1": it names the way back.
unfoldable pub out_by : Plan → ℕ → ℕ → List Move
out_by p u d =
    choose (stays p.width p.height u d)
    (choose (is_cost (byte p u d)) (move (opposite d + 1) (entered p.width u d) (byte p u d) ∷ []) [])
    []

-- The open move into cell s from its neighbour in direction d.
unfoldable pub into_by : Plan → ℕ → ℕ → List Move
into_by p s d =
    choose (stays p.width p.height s d)
    (choose (is_cost (byte p (entered p.width s d) (opposite d)))
    (move (d + 1) (entered p.width s d) (byte p (entered p.width s d) (opposite d)) ∷ [])
    [])
    []

-- The moves of the first n directions, in their order.
unfoldable pub up_to : (ℕ → List Move) → ℕ → List Move
up_to f zero = []
up_to f (suc d) = up_to f d ++ f d

-- The plan's graph. "Neighbours are always visited in this order"; among equal keys the smaller column is first, then the smaller row.
abbrev pub graph_of : Plan → Graph
graph_of p = record {
  cells = cells p;
  into = λ s. up_to (into_by p s) 4;
  out = λ u. up_to (out_by p u) 4;
  estimate = estimate p.width;
  earlier = column_first p.width;
}
