-- After d directions the tables are the method's with the moves of those directions relaxed.
use mathlib.Core.Path.{refl, sym, subst}
use mathlib.Core.Logic.{inr}
use native.Mathlib.Omega.{arith}
use Rattle.std.proofs.Common.{rules}
use Rattle.method.proofs.Entries.{set_right_sized}
use Rattle.method.proofs.Stepping.{relaxed_all_sized}
use Rattle.entries.specs.Aims.{Small, most_rhs}
use Rattle.entries.proofs.FoundLaws.{became_as}
use Rattle.steps.proofs.StepLaws.{ready_after, g_set, lower_finite, relaxed_first, relaxed_more, lower_is}
use Rattle.steps.proofs.lower.Goals as goal

pub loop-d-init : goal.loop-d-init
loop-d-init c = let R = (g_set _ c.requires.here (inr (lower_finite c.requires))).ready in
    let e = c.set_right_ahead-n.ensures.entered in (
      record {
        few = omega arith;
        is = relaxed_first _ _ _ _;
        ready = ready_after R (set_right_sized R.held.sized _ _) (e.became _) (subst (Small most_rhs) (sym e.rhs_is) R.small_rhs);
      },
      search rules,
    )

pub loop-d-preserved : goal.loop-d-preserved
loop-d-preserved c = let i = c.loop-d.invariant.0 in
    let e = c.obey-n.ensures.obeyed in
    let B = became_as (e.became _) (sym (c.relaxation-asked.ensures.is _ refl)) in (
      record {
        few = omega (arith, c.loop-d-test.true);
        is = relaxed_more _ _ _ _ _ i.is B.is;
        ready = ready_after i.ready (relaxed_all_sized i.ready.held.sized _ _ _) B e.small_rhs;
      },
      search rules,
    )

pub returns-clause-became : goal.returns-clause-became
returns-clause-became c = let p = c.requires.here in
    let i = c.loop-d.invariant.0 in
    lower_is _ _ _ _ _ _ _ _ _
    c.args.ahead.now.list.now
    (omega (arith, p.ready.held.sized.g, p.inside))
    (omega (arith, i.few, c.loop-d-test.false))
    (c.set_right_ahead-n.ensures.entered.became _).is
    i.is
    i.ready.held
