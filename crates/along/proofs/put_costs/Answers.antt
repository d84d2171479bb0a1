-- The cost of the next cell is put behind those before it (`run_next`): a move costs at most 250 (`step_small`), and fewer than 4097 cells are listed.
use Rattle.std.proofs.Common.{length-set, add-one, arith}
use Rattle.plan.specs.Floors.{floor_plan}
use Rattle.along.specs.Along.{StepByte}
use Rattle.along.proofs.AlongLaws.{step_small, run_next}
use Rattle.along.proofs.put_costs.Goals as goal

pub step_byte-requires : goal.step_byte-requires
step_byte-requires c = (c.requires.way.listed _ (omega arith), rw add-one (c.requires.way.joined _ (omega arith)))

pub loop-i-preserved : goal.loop-i-preserved
loop-i-preserved c =
    let r = c.loop-i.invariant in
    let byte : StepByte (floor_plan c.args.floor) c.args.cells.now c.loop-i.i c.step_byte.result = rw add-one at c.step_byte.ensures in
    run_next _ (omega arith) (omega (arith, r.long, length-set c.args.costs.now 0 0, c.requires.roomy)) (step_small c.requires _ _ (omega arith) byte) byte r
