-- A space and the next cell are put behind the cells before it; they take at most six bytes each (`cells_few`).
use Rattle.std.proofs.Common.{refl, ap, ◌∙◌, arith}
use Rattle.text.specs.Text.{bytes, decimal}
use Rattle.text.proofs.PutLaws.{put_nothing, put_as}
use Rattle.lines.specs.Lines.{spaced}
use Rattle.lines.proofs.CellLaws.{cell_few, cells_few, put_cell}
use Rattle.lines.proofs.put_cells.Goals as goal

pub loop-cell-init : goal.loop-cell-init
unfolding spaced
loop-cell-init c = record { put = put_nothing _ _; same_room = refl }

pub put_word-requires : goal.put_word-requires
put_word-requires c = omega (arith, cells_few c.args.cells.now c.loop-cell.cell-index (λ j. (c.type_inv.cells j).fits))

pub put_decimal-requires : goal.put_decimal-requires
put_decimal-requires c =
    omega (arith, cells_few c.args.cells.now c.loop-cell.cell-index (λ j. (c.type_inv.cells j).fits), cell_few c.from.result (omega (arith, (c.type_inv.cells c.loop-cell.cell-index).fits)))

pub loop-cell-preserved : goal.loop-cell-preserved
unfolding bytes
loop-cell-preserved c = record {
  put = put_cell c.args.cells.now c.loop-cell.cell-index (omega arith) c.loop-cell.invariant.put c.put_word.ensures.put (put_as (ap decimal c.from.ensures) refl c.put_decimal.ensures.put);
  same_room = c.put_decimal.ensures.same_room ∙ c.put_word.ensures.same_room ∙ c.loop-cell.invariant.same_room;
}
