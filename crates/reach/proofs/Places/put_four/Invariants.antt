-- Direction by direction (`put_out`), all at the spot of the cell.
use Rattle.std.proofs.Common.{◌+◌, ◌*◌}
use Rattle.plan.specs.Floors.{floor_plan}
use Rattle.reach.specs.Bits.{Marked}
use Rattle.reach.specs.Outs.{Outs}
use Rattle.reach.proofs.Places.put_four.Given as goal

abbrev pub invariant-loop-d : goal.invariant-loop-d
invariant-loop-d l = Outs (floor_plan l.floor) (Marked l.floor.width l.rows) l.self.list l.self.count (4 * l.u + l.d)
