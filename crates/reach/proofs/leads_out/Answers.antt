-- Each test is a part of `LeadsOut`; the last one decides it (`leads`). The cell of the place is in the plan; its move stays there (`there`), and the spot moved to is that of the cell entered.
use Rattle.std.proofs.Common.{sym, ◌∙◌, ◌*◌, ◌/◌, ◌<◌, arith}
use Rattle.decide.proofs.DecideLaws.{decides_no, refuted}
use Rattle.plan.specs.Floors.{floor_plan}
use Rattle.plan.proofs.MoveLaws.{entered_in, moved_at}
use Rattle.reach.proofs.SpotLaws.{marked_asks, move_asks, byte_at}
use Rattle.reach.proofs.OutLaws.{leads}
use Rattle.reach.proofs.leads_out.Goals as goal
use Rattle.reach.proofs.leads_out.Goals.{then-floor-place-via-then-floor-place, then-floor-place-via-else-floor-place+then-not-is_marked, then-floor-place-via-else-floor-place+else-not-is_marked+then-not-stays_in}

pub returns-then-floor-place : goal.returns-then-floor-place
returns-then-floor-place c =
    elim c.then-floor-place.branch [
      | then-floor-place-via-then-floor-place w ↦ decides_no (λ o. w.if-floor-place.true (byte_at (floor_plan c.args.floor) c.args.place ∙ o.is_shut))
      | then-floor-place-via-else-floor-place+then-not-is_marked w ↦ decides_no (λ o. refuted (w.is_marked.ensures _ _ c.requires.2) w.if-not-is_marked.true o.within)
      | then-floor-place-via-else-floor-place+else-not-is_marked+then-not-stays_in w ↦ decides_no (λ o. refuted (w.stays_in.ensures _ c.requires.2 (omega arith)) w.if-not-stays_in.true o.stays_in)
    ]

pub moved-requires-clause-bound : goal.moved-requires-clause-bound
moved-requires-clause-bound c =
    let inside : c.args.place / 4 < c.args.floor.height * c.args.floor.width = omega arith in
    let stays = (c.stays_in.ensures _ c.requires.2 inside).so c.if-not-stays_in.false in
    (move_asks c.args.floor.obeys inside c.requires.2 (omega arith) stays).1

pub is_marked-requires-2 : goal.is_marked-requires-2
is_marked-requires-2 c =
    let inside : c.args.place / 4 < c.args.floor.height * c.args.floor.width = omega arith in
    let stays = (c.stays_in.ensures _ c.requires.2 inside).so c.if-not-stays_in.false in
    let there = moved_at c.args.floor.obeys.size.wide c.requires.2 stays c.moved.ensures in
    marked_asks c.args.floor.obeys (entered_in _ c.args.floor.obeys _ _ inside (omega arith) stays) there c.args.rows.now c.requires.0

pub returns : goal.returns
returns c =
    let inside : c.args.place / 4 < c.args.floor.height * c.args.floor.width = omega arith in
    let stays = (c.stays_in.ensures _ c.requires.2 inside).so c.if-not-stays_in.false in
    let there = moved_at c.args.floor.obeys.size.wide c.requires.2 stays c.moved.ensures in
    let own = (c.is_marked.ensures _ _ c.requires.2).so c.if-not-is_marked.false in
    leads own stays (sym (byte_at (floor_plan c.args.floor) c.args.place) ∙ c.if-floor-place.false) (c.is_marked-2.ensures _ _ there)
