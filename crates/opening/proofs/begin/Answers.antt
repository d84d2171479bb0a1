-- `opening::begin` refuses a file by its number, or opens it (`begins_opened`); a fresh start on the copied plan leaves what the definition says (`starts`). The trailer is the one passed along.
use mathlib.Core.Path.{sym}
use Rattle.entries.proofs.BeginLaws.{openable_on, opened_on}
use Rattle.drill_file.proofs.NumberLaws.{file_formed}
use Rattle.opening.proofs.BeginLaws.{plan_there, openable, starts, begins_opened}
use Rattle.opening.proofs.begin.Goals as goal

pub slice_bounds-copy_from_slice-end : goal.slice_bounds-copy_from_slice-end
slice_bounds-copy_from_slice-end c = plan_there _ c.requires.opening.fits (file_formed _ (sym c.in_default.ensures))

pub copy_from_slice-requires : goal.copy_from_slice-requires
copy_from_slice-requires c = plan_there _ c.requires.opening.fits (file_formed _ (sym c.in_default.ensures))

pub begin-session-requires : goal.begin-session-requires
begin-session-requires c =
    let z = sym c.in_default.ensures in
    openable_on c.placed_on-placed.ensures (openable _ c.requires.opening.fits (file_formed _ z) c.copy_from_slice.ensures.after c.requires.t_value z)

pub returns-clause-begins : goal.returns-clause-begins
returns-clause-begins c =
    let z = sym c.in_default.ensures in
    begins_opened z
    (starts _ c.requires.opening.fits (file_formed _ z) c.copy_from_slice.ensures.after c.requires.t_value z (opened_on c.placed_on-placed.ensures c.begin-session.ensures.opened) c.opened.ensures)
