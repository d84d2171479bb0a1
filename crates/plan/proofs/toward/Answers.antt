-- The first direction that leads to b, if one of the four does.
use Rattle.std.proofs.Common.{rules, tests}
use Rattle.std.proofs.lemmas.Iterator.{first_from_Range}
use Rattle.decide.proofs.DecideLaws.{refuted}
use Rattle.plan.specs.Toward.{Leads}
use Rattle.plan.proofs.TowardLaws.{toward_by}
use Rattle.plan.proofs.toward.Goals as goal

pub returns : goal.returns
returns c =
    let a = c.args in
    toward_by c.find.result
    (first_from_Range _ _ _ _ (λ d. Leads a.width a.height a.a d a.b) (λ d. Leads a.width a.height a.a d a.b → ⊥) c.find.ensures.ran (λ x q k. search (rules, tests)) (λ x q k. search (rules, tests, refuted)))
