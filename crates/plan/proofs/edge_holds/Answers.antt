-- A move that stays in the plan may have any byte; of one that would leave it the byte is compared.
use Rattle.decide.proofs.DecideLaws.{decides_yes, decides_eq, refuted}
use Rattle.plan.proofs.edge_holds.Goals as goal

pub returns-then-stays_in : goal.returns-then-stays_in
returns-then-stays_in c = rw c.if-stays_in.true (decides_yes (λ n. absurd (n ((c.stays_in.ensures _ c.requires.here c.requires.inside).so c.if-stays_in.true))))

pub returns-else-stays_in : goal.returns-else-stays_in
returns-else-stays_in c = let n = refuted (c.stays_in.ensures _ c.requires.here c.requires.inside) c.if-stays_in.false in
    decides_eq _ _ (λ e m. e) (λ e. e n)
