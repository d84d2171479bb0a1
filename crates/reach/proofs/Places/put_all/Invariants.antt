-- Cell by cell (`put_four`), up to the last of the plan; the walk carries the spot of the cell, so that it divides nothing.
use Rattle.std.proofs.Common.{◌*◌}
use Rattle.plan.specs.Floors.{floor_plan}
use Rattle.plan.specs.Reached.{At}
use Rattle.reach.specs.Bits.{Marked}
use Rattle.reach.specs.Outs.{Outs}
use Rattle.reach.proofs.Places.put_all.Given as goal

abbrev pub invariant-loop-u : goal.invariant-loop-u
invariant-loop-u l = record {
  outs : Outs (floor_plan l.floor) (Marked l.floor.width l.rows) l.self.list l.self.count (4 * l.u);
  place : At l.floor.width l.u l.at;
}
