-- A move that leaves the plan is held to the rule of the edge, any other to the cell that it enters (WalkLaws).
use mathlib.Core.Path.{refl}
use native.Mathlib.Omega.{arith}
use Rattle.decide.proofs.DecideLaws.{refuted}
use Rattle.plan.proofs.MoveLaws.{area}
use Rattle.tables.proofs.WalkLaws.{entered_in, entered_asks, way_open_outward, way_outward, way_inside}
use Rattle.tables.proofs.way_holds.Goals as goal

pub returns-then-b : goal.returns-then-b
returns-then-b c = way_outward _ _ _ _ _ refl (refuted (c.stays_in.ensures _ c.requires.here c.requires.inside) c.if-not-stays_in.true) c.if-b.true

pub returns-else-b : goal.returns-else-b
returns-else-b c = way_open_outward _ _ _ _ _ refl (refuted (c.stays_in.ensures _ c.requires.here c.requires.inside) c.if-not-stays_in.true) c.if-b.false

pub entered-v-requires-clause-width_bound : goal.entered-v-requires-clause-width_bound
entered-v-requires-clause-width_bound c = entered_asks c.requires ((c.stays_in.ensures _ c.requires.here c.requires.inside).so c.if-not-stays_in.false)

pub offset_bounds-rhs-v : goal.offset_bounds-rhs-v
offset_bounds-rhs-v c = let stays = (c.stays_in.ensures _ c.requires.here c.requires.inside).so c.if-not-stays_in.false in
    omega (arith, entered_in c.requires stays c.entered-v.ensures, area c.requires.size)

pub bounds-rhs-v : goal.bounds-rhs-v
bounds-rhs-v c = let stays = (c.stays_in.ensures _ c.requires.here c.requires.inside).so c.if-not-stays_in.false in
    omega (arith, entered_in c.requires stays c.entered-v.ensures, c.requires.long_rhs)

pub bounds-parent-v : goal.bounds-parent-v
bounds-parent-v c = let stays = (c.stays_in.ensures _ c.requires.here c.requires.inside).so c.if-not-stays_in.false in
    omega (arith, entered_in c.requires stays c.entered-v.ensures, c.requires.long_parent)

pub returns : goal.returns
returns c = let stays = (c.stays_in.ensures _ c.requires.here c.requires.inside).so c.if-not-stays_in.false in
    way_inside _ _ _ _ _ refl stays c.entered-v.ensures (rw c.back_code.ensures at c.move_holds.ensures)
