-- Yes or no is read off the first place at fault.
use Rattle.tables.specs.Asked.{Words}
use Rattle.tables.proofs.FaultLaws.{sound_if_none}
use Rattle.tables.proofs.is_sound.Goals as goal

pub returns : goal.returns
returns c =
    let rhs_words : Words c.args.rhs.now = λ u. (c.type_inv.rhs u).fits in
    let k2_words : Words c.args.k2.now = λ u. (c.type_inv.k2 u).fits in
    sound_if_none _ _ c.requires.size c.requires.fits rhs_words k2_words c.first_fault.ensures c.is_none.ensures
