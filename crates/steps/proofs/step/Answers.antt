-- The three kinds of step, each by the promise of the function that takes it and its case of the method's `stepped` (StepLaws).
use Rattle.entries.proofs.FoundLaws.{became_as}
use Rattle.steps.proofs.StepLaws.{put_back_is, lowered_is, raised_is}
use Rattle.steps.proofs.step.Goals as goal

pub returns-then-is_stale-clause-became : goal.returns-then-is_stale-clause-became
returns-then-is_stale-clause-became c = became_as (c.set_right_ahead.ensures.entered.became _) (put_back_is _ _ _ (c.is_stale.ensures c.args.plan.now) c.if-is_stale.true c.requires.differ)

pub returns-then-ahead-u-clause-became : goal.returns-then-ahead-u-clause-became
returns-then-ahead-u-clause-became c = became_as c.lower.ensures.became (lowered_is _ _ _ (c.is_stale.ensures c.args.plan.now) c.if-is_stale.false c.if-ahead-u.true)

pub returns-clause-became : goal.returns-clause-became
returns-clause-became c = became_as c.raise.ensures.became (raised_is _ _ _ (c.is_stale.ensures c.args.plan.now) c.if-is_stale.false c.if-ahead-u.false)
