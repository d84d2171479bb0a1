-- The costs up to the i-th listed cell are put (`RunTo`).
use Rattle.plan.specs.Floors.{floor_plan}
use Rattle.along.proofs.AlongLaws.{RunTo}
use Rattle.along.proofs.put_costs.Given as goal

abbrev pub invariant-loop-i : goal.invariant-loop-i
invariant-loop-i l = RunTo (floor_plan l.floor) l.cells l.initial.costs l.i l.sum l.costs
