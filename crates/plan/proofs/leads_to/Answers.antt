-- A move that leaves the plan leads nowhere; of one that stays in it the cell entered is compared.
use mathlib.Core.Path.{sym, ◌∙◌}
use native.Mathlib.Omega.{arith}
use Rattle.decide.proofs.DecideLaws.{decides_no, decides_eq, refuted}
use Rattle.plan.proofs.CellLaws.{entered_sum}
use Rattle.plan.proofs.MoveLaws.{area}
use Rattle.plan.proofs.leads_to.Goals as goal

pub entered-requires-clause-width_bound : goal.entered-requires-clause-width_bound
entered-requires-clause-width_bound c = let z = c.requires.size in
    let m = ((c.stays_in.ensures _ c.requires.a_bound.1 c.requires.a_bound.0).so c.if-stays_in.true) in
    (z.narrow, omega (arith, c.requires.a_bound.0, area z), omega (arith, entered_sum c.args.width c.args.a c.args.d z.wide m.north m.west))

pub returns-then-stays_in : goal.returns-then-stays_in
returns-then-stays_in c =
    decides_eq _ _ (λ e. record {
      direction = c.requires.a_bound.2;
      stays_in = ((c.stays_in.ensures _ c.requires.a_bound.1 c.requires.a_bound.0).so c.if-stays_in.true);
      enters = sym
          c.entered.ensures ∙ e;
    }) (λ l. c.entered.ensures ∙ l.enters)

pub returns-else-stays_in : goal.returns-else-stays_in
returns-else-stays_in c = rw c.if-stays_in.false (decides_no (λ l. refuted (c.stays_in.ensures _ c.requires.a_bound.1 c.requires.a_bound.0) c.if-stays_in.false l.stays_in))
