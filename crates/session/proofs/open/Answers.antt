-- Refused by `check_open` and nothing changed; else a fresh start can be made (`open_granted` in RefusalLaws), which `begin` makes.
use mathlib.Core.Path.{refl}
use Rattle.entries.proofs.BeginLaws.{openable_on}
use Rattle.session.proofs.RefusalLaws.{open_granted}
use Rattle.session.proofs.open.Goals as goal

pub begin-begun-requires : goal.begin-begun-requires
begin-begun-requires c = openable_on c.placed_on-placed.ensures (open_granted c.in-Ok.ensures refl)
