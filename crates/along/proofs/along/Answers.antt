-- Refused as the check does, and nothing is written; else the costs are put.
use Rattle.std.proofs.Common.{refl}
use Rattle.std.proofs.lemmas.Result.{err_from_is_err_and}
use Rattle.along.proofs.AlongLaws.{along_granted, costable_obeys, costed_refused}
use Rattle.along.proofs.along.Goals as goal

pub returns-in_err-check : goal.returns-in_err-check
returns-in_err-check c =
    let p = err_from_is_err_and c.from_residual.result c.from_residual.ensures.1 in
    rw (p.1, p.2) (costed_refused _ _ _ _ _ _ c.in_err-check.ensures)

pub invariant_of-floor : goal.invariant_of-floor
invariant_of-floor c = record { obeys = costable_obeys c.args.plan.now c.args.cells.now c.in_ok-check.ensures refl }

pub put_costs-requires : goal.put_costs-requires
put_costs-requires c = along_granted _ _ c.in_ok-check.ensures refl

pub returns : goal.returns
returns c = record {
  number = 0;
  rules = c.in_ok-check.ensures;
  answer = refl;
  refused = λ n. absurd (n refl);
  done = λ _. c.put_costs.ensures.runs;
  long = c.put_costs.auto.costs;
  rest = c.put_costs.ensures.costs_unchanged;
}
