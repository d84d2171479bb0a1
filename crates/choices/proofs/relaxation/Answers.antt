-- Each return is a case of the method's `relaxed`, over what `move_out` answers of the move (AskLaws).
use native.Mathlib.Omega.{arith}
use Rattle.plan.proofs.MoveLaws.{area}
use Rattle.choices.proofs.AskLaws.{enters_by, relaxes_none, relaxes_hunter, relaxes_not, relaxes_to}
use Rattle.choices.proofs.relaxation.Goals as goal

pub returns-in_err-reach : goal.returns-in_err-reach
returns-in_err-reach c = rw c.from_residual.ensures (relaxes_none c.requires c.in_err-reach.ensures)

pub returns-then-reach-a : goal.returns-then-reach-a
returns-then-reach-a c = relaxes_hunter c.requires c.in_ok-reach.ensures c.if-reach-a.true

pub offset_bounds-rhs-reach : goal.offset_bounds-rhs-reach
offset_bounds-rhs-reach c = let L = c.requires.leaving in
    omega (arith, (enters_by L c.in_ok-reach.ensures).0.inside, area L.aimed.obeys.size)

pub bounds-rhs-reach : goal.bounds-rhs-reach
bounds-rhs-reach c = omega (arith, (enters_by c.requires.leaving c.in_ok-reach.ensures).0.inside, c.requires.long_rhs)

pub returns-then-rhs-reach : goal.returns-then-rhs-reach
returns-then-rhs-reach c = relaxes_not c.requires c.in_ok-reach.ensures c.if-reach-a.false c.if-rhs-reach.true

pub returns : goal.returns
returns c = relaxes_to c.requires c.in_ok-reach.ensures c.if-reach-a.false c.if-rhs-reach.false
