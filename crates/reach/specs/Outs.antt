-- "every shut move inside the plan that leads out of that part, in cell, then direction order"
use Rattle.std.specs.Prelude.{◌≡◌, List, ℕ, ◌/◌, ◌%◌, ◌≤◌, ◌<◌, get_or}
use Rattle.plan.specs.Costs.{Plan, byte, shut}
use Rattle.plan.specs.Cells.{Stays, entered}

-- The move from cell s in direction d is shut, stays in the plan, and leads from a cell of the part to one that is not of it.
pub record LeadsOut (p : Plan) (In : ℕ → Type 0) (s d : ℕ) : Type 0 where
  pub within : In s
  pub stays_in : Stays p.width p.height s d
  pub is_shut : byte p s d ≡ shut
  pub leaves : In (entered p.width s d) → ⊥

-- A number stands among the first `count` of the list.
pub record Listed (list : List ℕ) (count x : ℕ) : Type 0 where
  pub place : ℕ
  pub low : place < count
  pub is : get_or list place 0 ≡ x

-- The first `count` of the list are the places below n, 4 × cell + direction, whose moves lead out: all of them, each once, in order.
pub record Outs (p : Plan) (In : ℕ → Type 0) (list : List ℕ) (count n : ℕ) : Type 0 where
  pub few : count ≤ n
  pub below : (i : ℕ) → i < count → get_or list i 0 < n
  pub each : (i : ℕ) → i < count → LeadsOut p In (get_or list i 0 / 4) (get_or list i 0 % 4)
  pub all : (x : ℕ) → x < n → LeadsOut p In (x / 4) (x % 4) → Listed list count x
  pub ordered : (i j : ℕ) → i < j → j < count → get_or list i 0 < get_or list j 0
