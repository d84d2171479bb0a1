-- The plan of a well-formed file ends within it (`plan_within`).
use mathlib.Core.Path.{sym}
use Rattle.explain.proofs.ExplainLaws.{plan_within}
use Rattle.explain.proofs.explain.Goals as goal

pub slice_bounds-answer-end : goal.slice_bounds-answer-end
slice_bounds-answer-end g c = plan_within _ c.trailer_in-t.ensures (sym c.in-Ok.ensures)
