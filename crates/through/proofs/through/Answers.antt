-- A question that `check` does not refuse can be asked, on a plan that obeys.
use mathlib.Core.Path.{refl}
use Rattle.through.proofs.ThroughLaws.{through_granted}
use Rattle.through.proofs.through.Goals as goal

pub invariant_of-floor : goal.invariant_of-floor
invariant_of-floor c = record { obeys = (through_granted _ c.in_ok-check.ensures refl).obeys }

pub cost_through-requires : goal.cost_through-requires
cost_through-requires c = through_granted _ c.in_ok-check.ensures refl
