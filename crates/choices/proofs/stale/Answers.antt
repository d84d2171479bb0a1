-- The stored key against the key that `first_key` calculates (`stale_is` in KeyLaws).
use Rattle.entries.proofs.EntryLaws.{key_room}
use Rattle.choices.proofs.KeyLaws.{stale_is}
use Rattle.choices.proofs.stale.Goals as goal

pub first_key-first-requires-clause-km_bound : goal.first_key-first-requires-clause-km_bound
first_key-first-requires-clause-km_bound c = key_room c.requires.sited c.requires.fits c.min-m.ensures

pub returns : goal.returns
returns c = stale_is
    c.requires
    c.min-m.ensures
    c.first_key-first.ensures
    c.key.ensures
    c.key-2.ensures
