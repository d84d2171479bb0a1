-- The cells before this one are put.
use Rattle.std.proofs.Common.{◌≡◌, take}
use Rattle.text.specs.Put.{PutIn}
use Rattle.lines.specs.Lines.{spaced}
use Rattle.lines.proofs.put_cells.Given as goal

abbrev pub invariant-loop-cell : goal.invariant-loop-cell
invariant-loop-cell l = record {
  put : PutIn l.initial.text (spaced (take l.cell-index l.cells)) l.text;
  same_room : l.text.room.ghost_name ≡ l.initial.text.room.ghost_name;
}
