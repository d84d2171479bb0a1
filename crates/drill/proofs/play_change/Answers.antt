-- `drill::play_change` leaves what the definition says of a change, and puts the line of its reply (`change_replied`, `turns_of`).
use Rattle.drill.proofs.PlayLaws.{change_replied, turns_of}
use Rattle.drill.proofs.play_change.Goals as goal

pub returns-clause-turns : goal.returns-clause-turns
returns-clause-turns c = turns_of (change_replied c.requires.sound c.change_sound-reply.ensures.changes) c.put_reply.ensures.session c.put_reply.ensures.put
