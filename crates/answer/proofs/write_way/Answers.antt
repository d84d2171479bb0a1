-- All is written where i has come to 1.
use native.Mathlib.Omega.{arith}
use Rattle.answer.proofs.WayLaws.{writing_all}
use Rattle.answer.proofs.write_way.Goals as goal

pub returns : goal.returns
returns c = writing_all c.requires c.passed-count.ensures (omega (arith, c.loop-i-test.false)) c.loop-i.invariant
