-- The last rule is of two parts: the plan's bytes, and the named move's own.
use mathlib.Core.Logic.{◌≢◌}
use Prim.Native.Nat.{ℕ}
use Rattle.decide.specs.Ruled.{Ruled, fails, holds, Passed, passed}
use Rattle.decide.proofs.DecideLaws.{refuted}
use Rattle.plan.specs.Costs.{plan_of, byte, shut, Bytes}
use Rattle.through.specs.Through.{ThroughRules}
use Rattle.through.proofs.ThroughLaws.{last_rule}
use Rattle.through.proofs.check.Goals as goal
use Rattle.through.proofs.check.Goals.{After-bytes_hold}

-- Once the bytes are asked about, the rules before them hold.
at_last : {k : ℕ} (c : After-bytes_hold)
    → Ruled (Bytes (plan_of c.args.width c.args.height c.args.plan.now) × (byte (plan_of c.args.width c.args.height c.args.plan.now) c.args.cell c.args.direction ≢ shut)) 5 Passed k
    → ThroughRules c.args.width c.args.height c.args.hunter c.args.target c.args.plan.now c.args.cell c.args.direction k
at_last c =
    last_rule _ (c.is_size.ensures.so c.if-not-is_size.false) c.if-plan-cells.false (c.if-cells-hunter.false, c.if-cells-target.false, c.if-cells-cell.false)
    (c.is_move.ensures.so c.if-not-is_move.false) (c.edges_hold.ensures.so c.if-not-edges_hold.false)

pub returns-then-not-bytes_hold : goal.returns-then-not-bytes_hold
returns-then-not-bytes_hold c = at_last (goal.at.returns-then-not-bytes_hold c).After-bytes_hold (fails (λ h. refuted c.bytes_hold.ensures c.if-not-bytes_hold.true h.0))

pub returns-then-plan-cell : goal.returns-then-plan-cell
returns-then-plan-cell c = at_last (goal.at.returns-then-plan-cell c).After-bytes_hold (fails (λ h. h.1 c.if-plan-cell.true))

pub returns : goal.returns
returns c = at_last (goal.at.returns c).After-bytes_hold (holds (c.bytes_hold.ensures.so c.if-not-bytes_hold.false, c.if-plan-cell.false) passed)
