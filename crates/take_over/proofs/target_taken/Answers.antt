-- km grows by the estimate between the two spots, and has room for it (`km_room`, `taken_is` in TakeOverLaws).
use Rattle.take_over.proofs.TakeOverLaws.{taken_is}
use Rattle.take_over.proofs.target_taken.Goals as goal

pub returns : goal.returns
returns c = taken_is
    c.requires
    c.spot_of-old.ensures
    c.spot_of-new.ensures
    c.estimate.ensures
