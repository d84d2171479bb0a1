-- The row shifted down by the column, and of that the lowest bit: the bit of the cell that stands there.
use Rattle.decide.proofs.DecideLaws.{decides_eq}
use Rattle.plan.proofs.CellLaws.{stands_row, stands_column}
use Rattle.reach.specs.Bits.{bit, bit_of}
use Rattle.reach.proofs.is_marked.Goals as goal

pub returns : goal.returns
unfolding bit_of bit
returns c width s a = rw (stands_row a, stands_column a) (decides_eq _ 1 (λ e. e) (λ e. e))
