-- The rows and the moves that are told stand in their rooms (`reached_within`).
use Rattle.explain.proofs.ExplainLaws.{reached_within}
use Rattle.explain.proofs.tell_reached.Goals as goal

pub slice_bounds-print_rows-end : goal.slice_bounds-print_rows-end
slice_bounds-print_rows-end g c = (reached_within c.reached.ensures c.in-Ok.is).0

pub slice_bounds-print_moves-end : goal.slice_bounds-print_moves-end
slice_bounds-print_moves-end g c = (reached_within c.reached.ensures c.in-Ok.is).1
