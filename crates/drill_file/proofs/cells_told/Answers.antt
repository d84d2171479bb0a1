-- The number of cells that a trailer tells, `cells_told`, by the promise of `plan::is_size`.
use mathlib.Core.Path.{refl}
use Rattle.decide.proofs.DecideLaws.{refuted}
use Rattle.drill_file.specs.File.{cells_told}
use Rattle.drill_file.proofs.FileLaws.{chosen, passed_by}
use Rattle.drill_file.proofs.cells_told.Goals as goal

pub returns-then-is_size : goal.returns-then-is_size
unfolding cells_told
returns-then-is_size c = chosen _ _ (c.is_size.ensures.so c.if-is_size.true) refl

pub returns-else-is_size : goal.returns-else-is_size
unfolding cells_told
returns-else-is_size c = passed_by _ _ (refuted c.is_size.ensures c.if-is_size.false) refl
