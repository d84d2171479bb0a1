-- The costs that are told stand in their room, one for each listed cell (`costed_within`).
use Rattle.explain.proofs.ExplainLaws.{costed_within}
use Rattle.explain.proofs.tell_along.Goals as goal

pub slice_bounds-print_costs-end : goal.slice_bounds-print_costs-end
slice_bounds-print_costs-end g c = (costed_within c.along.ensures c.in-Ok.is).1
