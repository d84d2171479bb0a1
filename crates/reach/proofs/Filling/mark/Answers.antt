-- The bit is 0, so the sum sets it and fits (`set_narrow`).
use Rattle.std.proofs.Common.{arith}
use Rattle.reach.proofs.BitLaws.{one_shifted, set_narrow}
use Rattle.reach.proofs.Filling.mark.Goals as goal

pub overflow_add-self : goal.overflow_add-self
overflow_add-self c =
    let l = c.requires.placed.column in
    record { fits = rw (one_shifted c.args.at.column l) (set_narrow _ _ 64 c.requires.clear l (omega arith)) }
