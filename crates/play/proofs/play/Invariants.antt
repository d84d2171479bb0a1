-- Between two actions: the reader stands in the same file, tables and text are the caller's own, the actions played so far are those up to where it stands,
-- and record, tables, way list and text are what the definitions give for them (`Going`).
use mathlib.Core.Path.{◌≡◌}
use Rattle.tables.specs.Lent.{lent, SameTables}
use Rattle.drill.proofs.PlayLaws.{Going}
use Rattle.play.proofs.play.Given as goal

abbrev pub invariant-loop-reader : goal.invariant-loop-reader
invariant-loop-reader l =
    Going l.fn.r.file.now l.fn.s (lent l.fn.plan l.fn.g l.fn.ahead) l.fn.way l.fn.r.at l.fn.actions l.fn.text.room.now
    l.session (lent l.plan l.g l.ahead) l.way l.text.room.now l.reader.at l.left l.text.used
    × (l.reader.file ≡ l.fn.r.file)
    × SameTables l.fn.ahead l.ahead
    × (l.text.room.ghost_name ≡ l.fn.text.room.ghost_name)

abbrev pub decreases-loop-reader : goal.decreases-loop-reader
decreases-loop-reader l = l.left
