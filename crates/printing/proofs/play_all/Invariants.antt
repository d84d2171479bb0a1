-- Before a turn, what is left over of the file can be played and printed, or a write has failed and nothing is left over (`SoFar`); tables and text are the caller's own. The measure is how many actions are left over.
use Rattle.std.specs.Prelude.{◌≡◌}
use Rattle.tables.specs.Lent.{lent, SameTables}
use Rattle.printing.proofs.PrintLaws.{SoFar}
use Rattle.printing.proofs.play_all.Given as goal

abbrev pub invariant-loop-left : goal.invariant-loop-left
invariant-loop-left g l =
    (l.r.file ≡ l.initial.r.file)
    × SoFar l.input l.got l.r.file.now l.session (lent l.plan l.g l.ahead) l.way l.text.room.now l.r.at l.left l.count
    × SameTables l.initial.ahead l.ahead
    × (l.text.room.ghost_name ≡ l.initial.text.room.ghost_name)

abbrev pub decreases-loop-left : goal.decreases-loop-left
decreases-loop-left g l = l.left
