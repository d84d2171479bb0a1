-- The entry above is that of a cell: the two compare as their entries in hand do.
use mathlib.Core.Path.{refl}
use Rattle.std.proofs.Common.{rules}
use Rattle.queue.proofs.KeyLaws.{compared}
use Rattle.queue.proofs.above_holds.Goals as goal

pub returns-then-d-list : goal.returns-then-d-list
returns-then-d-list c = let compares = compared _ c.of.ensures c.of-then-d-list.ensures refl refl c.comes_before.ensures in search rules
