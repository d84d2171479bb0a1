-- After d directions the best is the method's least over their moves; after four it is over all (`looked_more`, `looked_all` in AnewLaws).
use mathlib.Core.Path.{refl}
use native.Mathlib.Omega.{arith}
use Rattle.method.specs.Tables.{least_over, anew}
use Rattle.plan.specs.Grid.{up_to}
use Rattle.entries.proofs.AnewLaws.{looked_more, looked_all}
use Rattle.entries.proofs.anew.Goals as goal

pub loop-d-init : goal.loop-d-init
unfolding up_to least_over
loop-d-init c = (omega arith, refl)

pub loop-d-preserved : goal.loop-d-preserved
loop-d-preserved c = (omega arith, looked_more _ _ _ _ c.loop-d.invariant.1 c.looked_at-best.ensures)

pub returns : goal.returns
unfolding anew
returns c = looked_all _ _ _ c.loop-d.invariant.1 (omega (arith, c.loop-d-test.false))
