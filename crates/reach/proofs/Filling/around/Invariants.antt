-- Direction by direction: what a look leaves, the next one keeps.
use Rattle.plan.specs.Floors.{floor_plan}
use Rattle.reach.specs.Filling.{Looked, Grown}
use Rattle.reach.proofs.Filling.around.Given as goal

abbrev pub invariant-loop-d : goal.invariant-loop-d
invariant-loop-d l = record {
  grown : Grown (floor_plan l.floor) l.x l.initial.self.rows l.initial.self.list l.initial.self.count l.self.rows l.self.list l.self.count;
  looked : Looked (floor_plan l.floor) l.self.rows l.x l.d;
}
