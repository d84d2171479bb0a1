-- Between the steps there holds what the method says of them, and what is still to come is what the whole run does.
use Rattle.tables.specs.Lent.{lent, SameTables}
use Rattle.steps.proofs.LoopLaws.{Going}
use Rattle.steps.proofs.run.Given as goal

abbrev pub invariant-loop-steps : goal.invariant-loop-steps
invariant-loop-steps l = Going l.a l.plan l.count l.n (lent l.plan l.initial.g l.initial.ahead) (lent l.plan l.g l.ahead) l.limit l.steps × SameTables l.initial.ahead l.ahead
