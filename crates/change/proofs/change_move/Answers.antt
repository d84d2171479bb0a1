-- Tables that `check_tables` does not refuse are sound.
use Rattle.session.proofs.RefusalLaws.{tables_granted}
use Rattle.change.proofs.change_move.Goals as goal

pub change_sound-requires : goal.change_sound-requires
change_sound-requires c = tables_granted c.in-Ok.ensures
