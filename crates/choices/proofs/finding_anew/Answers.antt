-- Each return is a case of the method's `renewed`, over what `move_out` answers of the move and what `anew` finds (AskLaws).
use native.Mathlib.Omega.{arith}
use Rattle.choices.proofs.AskLaws.{enters_by, renews_none, renews_hunter, renews_not, child_findable, renews_at}
use Rattle.choices.proofs.finding_anew.Goals as goal

pub returns-in_err-reach : goal.returns-in_err-reach
returns-in_err-reach c = rw c.from_residual.ensures (renews_none c.requires c.in_err-reach.ensures)

pub returns-then-reach-a : goal.returns-then-reach-a
returns-then-reach-a c = renews_hunter c.requires c.in_ok-reach.ensures c.if-reach-a.true

pub bounds-parent-reach : goal.bounds-parent-reach
bounds-parent-reach c = omega (arith, (enters_by c.requires.leaving c.in_ok-reach.ensures).0.inside, c.requires.long_parent)

pub returns-then-parent-reach : goal.returns-then-parent-reach
returns-then-parent-reach c = renews_not c.requires c.in_ok-reach.ensures c.if-reach-a.false c.if-parent-reach.true

pub anew-requires : goal.anew-requires
anew-requires c = child_findable c.requires c.in_ok-reach.ensures

pub returns : goal.returns
returns c = renews_at c.requires c.in_ok-reach.ensures c.if-reach-a.false c.if-parent-reach.false c.anew.ensures
