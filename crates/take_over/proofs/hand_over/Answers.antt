-- The new hunter's parent is cleared and the old hunter found anew: what `found_anew` promises of the tables so changed (TakeOverLaws).
use Rattle.take_over.proofs.TakeOverLaws.{hand_holds}
use Rattle.take_over.proofs.hand_over.Goals as goal

pub returns-clause-holds : goal.returns-clause-holds
returns-clause-holds c = hand_holds c.requires c.aim_of-a.ensures c.found_anew-count.ensures.became
