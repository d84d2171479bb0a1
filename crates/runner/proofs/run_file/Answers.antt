-- What was read is run on the parts of the tables that its trailer, read once, asks for (`running`).
use native.Mathlib.Omega.{arith}
use Rattle.runner.proofs.RunLaws.{parts_room, running}
use Rattle.runner.proofs.run_file.Goals as goal

pub overflow_mul-m : goal.overflow_mul-m
overflow_mul-m g c = omega (arith, parts_room _ c.cells_told-n.ensures)

pub slice_bounds-run-end : goal.slice_bounds-run-end
slice_bounds-run-end g c = omega (arith, parts_room _ c.cells_told-n.ensures, c.requires.own.plan_room)

pub run-requires-clause-running : goal.run-requires-clause-running
run-requires-clause-running g c =
    running c.requires.got_in_bounds c.file_in-file.ensures c.requires.unwritten c.requires.own c.trailer_in-t.ensures c.cells_told-n.ensures

pub slice_bounds-ahead-end : goal.slice_bounds-ahead-end
slice_bounds-ahead-end g c = omega (arith, parts_room _ c.cells_told-n.ensures, c.requires.own.rhs_room)
