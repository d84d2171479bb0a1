-- What is asked is done: nothing, or `take` at the spot that the move leads to (StepLaws); an entry that stays keeps its place by the promise of `take`.
use Rattle.steps.proofs.StepLaws.{obeying_move, obeying_take}
use Rattle.steps.proofs.obey.Goals as goal

pub moved-to-requires-clause-bound : goal.moved-to-requires-clause-bound
moved-to-requires-clause-bound c = (obeying_move c.requires c.in-Some.is).1

pub take-requires : goal.take-requires
take-requires c = obeying_take c.requires c.in-Some.is c.moved-to.ensures
