-- After d directions the tables are the method's with the children of those directions found anew.
use mathlib.Core.Path.{refl, sym}
use mathlib.Core.Logic.{inl}
use native.Mathlib.Omega.{arith}
use Rattle.std.proofs.Common.{rules}
use Rattle.method.proofs.Stepping.{renewed_all_sized}
use Rattle.entries.proofs.FoundLaws.{became_as}
use Rattle.steps.proofs.StepLaws.{ready_after, g_set, renewed_first, renewed_more, raise_is}
use Rattle.steps.proofs.raise.Goals as goal

pub loop-d-init : goal.loop-d-init
loop-d-init c = (record { few = omega arith; is = renewed_first _ _ _; ready = (g_set _ c.requires (inl refl)).ready }, search rules)

pub loop-d-preserved : goal.loop-d-preserved
loop-d-preserved c = let i = c.loop-d.invariant.0 in
    let e = c.obey-n.ensures.obeyed in
    let B = became_as (e.became _) (sym (c.finding_anew-asked.ensures.is _ refl refl)) in (
      record {
        few = omega (arith, c.loop-d-test.true);
        is = renewed_more _ _ _ _ i.is B.is;
        ready = ready_after i.ready (renewed_all_sized i.ready.held.sized _ _) B e.small_rhs;
      },
      search rules,
    )

pub returns-clause-became : goal.returns-clause-became
returns-clause-became c = let i = c.loop-d.invariant.0 in
    raise_is _ _ _ _ _ _ _ _ _
    c.args.ahead.now.list.now
    (omega (arith, i.few, c.loop-d-test.false))
    i.is
    (c.set_right_ahead.ensures.entered.became _)
