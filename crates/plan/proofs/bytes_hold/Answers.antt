-- Each byte of the list is that of some cell and direction.
use Rattle.std.proofs.Common.{rules, tests}
use Rattle.std.proofs.lemmas.Iterator.{YieldsList-from_slice, cases_from_all}
use Rattle.decide.proofs.DecideLaws.{refuted}
use Rattle.plan.specs.Costs.{IsByte, plan_of}
use Rattle.plan.proofs.MoveLaws.{bytes_by}
use Rattle.plan.proofs.bytes_hold.Goals as goal

pub returns : goal.returns
returns c =
    bytes_by (plan_of c.args.width c.args.height c.args.plan.now) c.all.result c.requires
    (cases_from_all _ _ _ (λ b. IsByte b) (λ b. IsByte b → ⊥) c.all.ensures.ran (YieldsList-from_slice c.args.plan.now cc) (λ x q k. search (rules, tests)) (λ x q k. search (rules, tests, refuted)))
