-- Between the steps there holds what the method says of them, and what is still to come is what the whole run does.
use native.Mathlib.Omega.{arith}
use Rattle.std.proofs.Common.{rules}
use Rattle.steps.proofs.LoopLaws.{choosing, stepping, going_more, finished_done, finished_cut}
use Rattle.steps.proofs.run.Goals as goal

pub next-requires : goal.next-requires
next-requires c = choosing c.requires.aimed c.loop-steps.invariant.0

pub returns-in_default-clause-finished : goal.returns-in_default-clause-finished
returns-in_default-clause-finished c = finished_done c.loop-steps.invariant.0 (c.in_default.ensures c.args.plan.now)

pub step-n-requires : goal.step-n-requires
step-n-requires c = stepping c.requires.aimed c.loop-steps.invariant.0 (c.in-Some.ensures c.args.plan.now)

pub loop-steps-preserved : goal.loop-steps-preserved
loop-steps-preserved c = (going_more c.requires.aimed c.loop-steps.invariant.0 (c.in-Some.ensures c.args.plan.now) (omega (arith, c.loop-steps-test.true)) c.step-n.ensures.became, search rules)

pub next-requires-2 : goal.next-requires-2
next-requires-2 c = choosing c.requires.aimed c.loop-steps.invariant.0

pub returns-clause-finished : goal.returns-clause-finished
returns-clause-finished c = finished_cut c.loop-steps.invariant.0 c.next-2.result c.loop-steps-test.false (c.next-2.ensures c.args.plan.now) c.is_none.ensures
