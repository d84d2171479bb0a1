-- A direction can leave the plan on one side only, and that side is tested (`stays_up` to `stays_right` in MoveLaws).
use mathlib.Core.Path.{ap, sym, ◌∙◌}
use Rattle.plan.proofs.MoveLaws.{stays_up, stays_down, stays_left, stays_right}
use Rattle.plan.proofs.stays_in.Goals as goal

pub returns-then-shift-eq0 : goal.returns-then-shift-eq0
returns-then-shift-eq0 c s a l = stays_up a l c.requires.d_bound (sym (ap (λ x. x.row) c.shift_of-shift.ensures) ∙ c.if-shift-eq0.true)

pub returns-then-shift-eq2 : goal.returns-then-shift-eq2
returns-then-shift-eq2 c s a l = stays_down a l c.requires.d_bound (sym (ap (λ x. x.row) c.shift_of-shift.ensures) ∙ c.if-shift-eq2.true)

pub returns-then-shift-eq0-2 : goal.returns-then-shift-eq0-2
returns-then-shift-eq0-2 c s a l =
    stays_left a l c.requires.d_bound (λ e. c.if-shift-eq0.false ((ap (λ x. x.row) c.shift_of-shift.ensures) ∙ e)) (λ e. c.if-shift-eq2.false ((ap (λ x. x.row) c.shift_of-shift.ensures) ∙ e))
    (sym (ap (λ x. x.column) c.shift_of-shift.ensures) ∙ c.if-shift-eq0-2.true)

pub returns : goal.returns
returns c s a l =
    stays_right a l c.requires.d_bound (λ e. c.if-shift-eq0.false ((ap (λ x. x.row) c.shift_of-shift.ensures) ∙ e)) (λ e. c.if-shift-eq2.false ((ap (λ x. x.row) c.shift_of-shift.ensures) ∙ e))
    (λ e. c.if-shift-eq0-2.false ((ap (λ x. x.column) c.shift_of-shift.ensures) ∙ e))
