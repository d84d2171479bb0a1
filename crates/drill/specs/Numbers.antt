-- The number by which a change of a move is refused, 0 if none: the rules of document 01's table as tests, in its order.
use Rattle.std.proofs.Math.Logic.Dec
use Rattle.std.specs.Prelude.{ℕ}
use Rattle.std.proofs.Math.Decide.{dec_lt}
use Rattle.decide.specs.Choose.{choose}
use Rattle.plan.specs.Cells.{stays}
use Rattle.plan.specs.Costs.{Plan, cells}
use Rattle.drill_file.specs.Numbers.{is_byte}

-- A change: the cell (3); "direction above 3, or the move leaves the plan" (4); the byte (5).
unfoldable pub move_number : Plan → ℕ → ℕ → ℕ → ℕ
move_number p u d cost =
    choose (dec_lt u (cells p))
    (choose (Dec.and (dec_lt d 4) (stays p.width p.height u d))
    (choose (is_byte cost) 0
    5)
    4)
    3
