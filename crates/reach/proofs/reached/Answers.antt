-- Refused as the check does; else `report` is asked, of a plan that obeys and a cell of it.
use Rattle.std.proofs.Common.{refl}
use Rattle.std.proofs.lemmas.Result.{err_from_is_err_and}
use Rattle.reach.proofs.ReportLaws.{reports_refused, plan_granted}
use Rattle.reach.proofs.reached.Goals as goal

pub returns-in_err-check : goal.returns-in_err-check
returns-in_err-check c =
    let p = err_from_is_err_and c.from_residual.result c.from_residual.ensures.1 in
    rw (p.1, p.2) (reports_refused _ _ _ _ _ _ _ c.in_err-check.ensures)

pub invariant_of-floor : goal.invariant_of-floor
invariant_of-floor c = record { obeys = (plan_granted c.in_ok-check.ensures refl).0.0 }

pub report-requires : goal.report-requires
report-requires c = (plan_granted c.in_ok-check.ensures refl).0.1
