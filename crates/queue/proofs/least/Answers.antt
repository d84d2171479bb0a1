-- The first cell of the list is the least (`first_least`).
use Rattle.queue.proofs.CallLaws.{first_least}
use Rattle.queue.proofs.least.Goals as goal

pub returns : goal.returns
returns c = rw c.from.ensures (first_least _ c.requires)
