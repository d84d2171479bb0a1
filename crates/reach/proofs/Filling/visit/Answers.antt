-- An open move stays in the plan; the cell that it enters is marked already, or it is marked now (`one_new`).
use Rattle.std.proofs.Common.{◌≡◌, ◌≢◌, refl, ℕ, ◌+◌, ◌/◌, ◌%◌, ◌<◌}
use Rattle.decide.proofs.DecideLaws.{refuted}
use Rattle.plan.specs.Directions.{row_step, column_step}
use Rattle.plan.specs.Cells.{Stays, entered}
use Rattle.plan.specs.Costs.{Plan, byte, shut, Obeys}
use Rattle.plan.specs.Reached.{At}
use Rattle.plan.specs.declared.Spot.{Spot}
use Rattle.plan.proofs.MoveLaws.{open_stays, entered_in, moved_at}
use Rattle.reach.specs.Filling.{cell_by, Within}
use Rattle.reach.proofs.SpotLaws.{marked_asks, move_asks}
use Rattle.reach.proofs.FillLaws.{in_plan, new_asks, one_new}
use Rattle.reach.proofs.Filling.visit.Goals as goal

-- The spot of x, a cell of the list.
stands : {width height x : ℕ} → Within width height x → At width (cell_by width x) (record { row = x / 64; column = x % 64 })
stands I = record { column_lt = I.column_lt; is = refl }

-- Its open move stays in the plan, and the spot that the move leads to is that of the cell entered.
module _ {p : Plan} (O : Obeys p) {x d : ℕ} (I : Within p.width p.height x) (ld : d < 4) (n : byte p (cell_by p.width x) d ≢ shut) where
  keeps_in : Stays p.width p.height (cell_by p.width x) d
  keeps_in = open_stays p O _ _ (in_plan I) ld n

  there : {to : Spot} → (to.row + 1 ≡ x / 64 + row_step d) × (to.column + 1 ≡ x % 64 + column_step d) → At p.width (entered p.width (cell_by p.width x) d) to
  there e = moved_at O.size.wide (stands I) keeps_in e

pub moved-to-requires-clause-bound : goal.moved-to-requires-clause-bound
moved-to-requires-clause-bound c =
    let w = c.requires.within in
    (move_asks c.args.floor.obeys (in_plan w.0) (stands w.0) w.1 (keeps_in c.args.floor.obeys w.0 w.1 c.if-floor-row.false)).1

pub is_marked-requires : goal.is_marked-requires
is_marked-requires c =
    let w = c.requires.within in
    let inside = entered_in _ c.args.floor.obeys _ _ (in_plan w.0) w.1 (keeps_in c.args.floor.obeys w.0 w.1 c.if-floor-row.false) in
    marked_asks c.args.floor.obeys inside (there c.args.floor.obeys w.0 w.1 c.if-floor-row.false c.moved-to.ensures) c.args.self.now.rows c.requires.filled.rowed

pub returns-else-not-is_marked-clause-looks : goal.returns-else-not-is_marked-clause-looks
returns-else-not-is_marked-clause-looks c =
    let w = c.requires.within in
    λ _. (c.is_marked.ensures _ _ (there c.args.floor.obeys w.0 w.1 c.if-floor-row.false c.moved-to.ensures)).so c.if-not-is_marked.false

pub mark-requires : goal.mark-requires
mark-requires c =
    let w = c.requires.within in
    let at = there c.args.floor.obeys w.0 w.1 c.if-floor-row.false c.moved-to.ensures in
    new_asks c.args.floor.obeys c.requires.filled w.0 w.1 c.if-floor-row.false at (refuted (c.is_marked.ensures _ _ at) c.if-not-is_marked.true)

pub returns-then-not-is_marked-clause-grown : goal.returns-then-not-is_marked-clause-grown
returns-then-not-is_marked-clause-grown c =
    let w = c.requires.within in
    let at = there c.args.floor.obeys w.0 w.1 c.if-floor-row.false c.moved-to.ensures in
    (one_new c.args.floor.obeys c.requires.filled w.0 w.1 c.if-floor-row.false at (refuted (c.is_marked.ensures _ _ at) c.if-not-is_marked.true) c.mark.ensures).0

pub returns-then-not-is_marked-clause-looks : goal.returns-then-not-is_marked-clause-looks
returns-then-not-is_marked-clause-looks c =
    let w = c.requires.within in
    let at = there c.args.floor.obeys w.0 w.1 c.if-floor-row.false c.moved-to.ensures in
    (one_new c.args.floor.obeys c.requires.filled w.0 w.1 c.if-floor-row.false at (refuted (c.is_marked.ensures _ _ at) c.if-not-is_marked.true) c.mark.ensures).1
