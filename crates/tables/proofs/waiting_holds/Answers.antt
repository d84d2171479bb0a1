-- A queued cell waits exactly if its key is not above the one calculated from the estimate between the two spots (WalkLaws).
use mathlib.Core.Path.{◌∙◌}
use native.Mathlib.Omega.{arith}
use Rattle.plan.proofs.EstimateLaws.{estimate_le}
use Rattle.tables.proofs.WalkLaws.{estimate_at, waiting_by_key}
use Rattle.tables.proofs.waiting_holds.Goals as goal

pub key_holds-requires : goal.key_holds-requires
key_holds-requires c = let p = c.requires.cell_asked in
    omega (arith, c.estimate.ensures, estimate_at p.here p.there, estimate_le p.size _ _ p.inside p.numbers.goal)

pub returns-then-queued_holds : goal.returns-then-queued_holds
returns-then-queued_holds c = let p = c.requires.cell_asked in
    waiting_by_key (c.estimate.ensures ∙ estimate_at p.here p.there) (c.queued_holds.ensures.so c.if-queued_holds.true) c.key_holds.ensures
