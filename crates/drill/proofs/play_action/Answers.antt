-- `drill::play_action` leaves what the definition says of each action and puts its line.
use Rattle.drill.proofs.PlayLaws.{hunter_replied, target_replied, turns_of, no_turn, turns_at}
use Rattle.drill.proofs.play_action.Goals as goal

pub returns-in_default-clause-turns : goal.returns-in_default-clause-turns
returns-in_default-clause-turns c = no_turn c.in_default.not-Some c.requires.sound

pub returns-in-Hunter-clause-turns : goal.returns-in-Hunter-clause-turns
returns-in-Hunter-clause-turns c = turns_at c.in-Some.is c.in-Hunter.is (turns_of (hunter_replied c.requires.sound c.place_hunter.ensures) c.put_reply.ensures.session c.put_reply.ensures.put)

pub returns-in-Target-clause-turns : goal.returns-in-Target-clause-turns
returns-in-Target-clause-turns c =
    turns_at c.in-Some.is c.in-Target.is (turns_of (target_replied c.requires.sound c.place_target.ensures) c.put_reply-in-Target.ensures.session c.put_reply-in-Target.ensures.put)
