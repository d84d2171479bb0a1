-- The measure: the cells of the plan that are not yet counted grow fewer.
use Rattle.answer.proofs.WayLaws.{passing_fewer}
use Rattle.answer.proofs.passed.Goals as goal

pub loop-s-smaller : goal.loop-s-smaller
loop-s-smaller c = passing_fewer c.requires c.loop-s.invariant c.loop-s-test.true
