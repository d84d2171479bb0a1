-- By what the sum names (MoveLaws): no cell, or one whose byte towards s is shut, and there is no open move; else it is the neighbour, and its byte is the cost.
use Rattle.std.proofs.Common.{◌∙◌, sym, arith}
use Rattle.plan.proofs.MoveLaws.{step_sum, into_shut, into_closed, into_open, sum_long, entered_in}
use Rattle.plan.proofs.Floor.move_into.Goals as goal

pub returns-in_err-u : goal.returns-in_err-u
returns-in_err-u c =
    let a = c.args in rw c.from_residual.ensures
    (into_shut _ a.self.obeys _ _ c.requires.0 c.requires.1 (λ m. absurd
    (c.in_err-u.ensures (omega (arith, step_sum a.self.width a.s a.d c.shift_of-shift.ensures, sum_long _ a.self.obeys _ _ c.requires.0 c.requires.1 m)))))

pub returns-in_err-cost : goal.returns-in_err-cost
returns-in_err-cost c =
    let a = c.args in rw c.from_residual-in_err-cost.ensures
    (into_shut _ a.self.obeys _ _ c.requires.0 c.requires.1 (λ m. absurd
    (omega (
      arith,
      c.in_ok-u.ensures,
      c.in_err-cost.ensures.lookup.3,
      step_sum a.self.width a.s a.d c.shift_of-shift.ensures,
      c.back-toward.ensures,
      a.self.obeys.sized,
      entered_in _ a.self.obeys _ _ c.requires.0 c.requires.1 m,
    ))))

pub returns-then-cost : goal.returns-then-cost
returns-then-cost c =
    let a = c.args in
    into_closed _ a.self.obeys _ _ c.requires.0 c.requires.1 (omega (arith, c.in_ok-u.ensures, step_sum a.self.width a.s a.d c.shift_of-shift.ensures)) c.back-toward.ensures
    (sym (c.in_ok-cost.ensures.lookup.3.1 0) ∙ c.if-cost.true)

pub returns : goal.returns
returns c =
    let a = c.args in
    rw (c.in_ok-cost.ensures.lookup.3.1 0)
    (into_open _ a.self.obeys _ _ c.requires.0 c.requires.1 (omega (arith, c.in_ok-u.ensures, step_sum a.self.width a.s a.d c.shift_of-shift.ensures)) c.back-toward.ensures
    (omega (arith, c.in_ok-u.ensures, step_sum a.self.width a.s a.d c.shift_of-shift.ensures))
    (omega (arith, c.in_ok-cost.ensures.lookup.3.0, a.self.obeys.sized))
    (λ e. c.if-cost.false (c.in_ok-cost.ensures.lookup.3.1 0 ∙ e)))
