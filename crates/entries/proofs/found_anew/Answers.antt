-- What `anew` finds, taken by `take`: the method's `found_anew` (FoundLaws).
use Rattle.entries.proofs.FoundLaws.{findable, taking, found_small, became_as, anew_is}
use Rattle.entries.proofs.found_anew.Goals as goal

pub take-requires : goal.take-requires
take-requires c = taking c.requires (found_small c.args.a (findable c.requires.ready c.requires.inside) c.anew-f.ensures)

pub returns-clause-became : goal.returns-clause-became
returns-clause-became c = became_as (c.take.ensures.taken.became _) (anew_is c.args.a _ _ _ c.anew-f.ensures)
