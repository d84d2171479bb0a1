-- The count has room for the bytes of the piece (`sum_fits`).
use Rattle.printing.proofs.PrintLaws.{sum_fits}
use Rattle.printing.proofs.write_piece.Goals as goal

pub overflow_add-written : goal.overflow_add-written
overflow_add-written g c = record { fits = sum_fits c.requires c.in-Some.is }
