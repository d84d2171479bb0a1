-- A move that `check_move` does not refuse can be worked in, and is.
use Rattle.session.proofs.RefusalLaws.{sound_rules}
use Rattle.change.proofs.RefusalLaws.{workable, done_reply}
use Rattle.change.proofs.change_sound.Goals as goal

pub work_in-count-requires : goal.work_in-count-requires
work_in-count-requires c = workable c.requires c.in-Ok.ensures

pub returns-in-Ok-clause-changes : goal.returns-in-Ok-clause-changes
returns-in-Ok-clause-changes c = done_reply (sound_rules c.requires c.in-Ok.ensures) c.work_in-count.ensures.worked_in
