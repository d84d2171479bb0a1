-- The walk carries the spot of the cell; every cell and direction passed obeys the rule.
use Rattle.std.proofs.Common.{◌≡◌, ℕ, ◌<◌, true}
use Rattle.plan.specs.Costs.{plan_of, Edge}
use Rattle.plan.specs.Reached.{At}
use Rattle.plan.proofs.edges_hold.Given as goal

abbrev pub invariant-loop-d : goal.invariant-loop-d
invariant-loop-d l = (l.ok ≡ true) × ((e : ℕ) → e < l.d → Edge (plan_of l.width l.height l.plan) l.u e)

abbrev pub invariant-cells : goal.invariant-cells
invariant-cells l = (l.ok ≡ true) × At l.width l.u l.at × ((v : ℕ) → v < l.u → (e : ℕ) → e < 4 → Edge (plan_of l.width l.height l.plan) v e)
