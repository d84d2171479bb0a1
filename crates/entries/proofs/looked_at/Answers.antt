-- Each return is a case of the method's `better`, over what `move_into` answers of the move (AnewLaws).
use native.Mathlib.Omega.{arith}
use Rattle.plan.proofs.MoveLaws.{area}
use Rattle.entries.proofs.AnewLaws.{looked_shut, looked_left, looked_taken, neighbour_in}
use Rattle.entries.proofs.looked_at.Goals as goal

pub returns-in_default : goal.returns-in_default
returns-in_default c = looked_shut _ _ c.in_default.ensures

pub offset_bounds-g-reach : goal.offset_bounds-g-reach
offset_bounds-g-reach c = let move_open = c.in-Some.ensures in
    omega (arith, neighbour_in _ c.requires.0.obeys _ _ c.requires.1 move_open, area c.requires.0.obeys.size)

pub bounds-g-reach : goal.bounds-g-reach
bounds-g-reach c = let move_open = c.in-Some.ensures in
    omega (arith, neighbour_in _ c.requires.0.obeys _ _ c.requires.1 move_open, c.requires.0.long_g)

pub returns-then-best-sum : goal.returns-then-best-sum
returns-then-best-sum c = looked_left _ _ c.in-Some.ensures (omega (arith, c.saturating_add-sum.ensures, c.if-best-sum.true))

pub returns : goal.returns
returns c = looked_taken _ _ c.in-Some.ensures (omega (arith, c.saturating_add-sum.ensures, c.if-best-sum.false)) c.if-best-sum.false
