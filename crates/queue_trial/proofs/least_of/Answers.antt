-- The first cell of the list is the least, which has a place.
use Rattle.queue.proofs.QueueLaws.{least_place}
use Rattle.queue_trial.proofs.least_of.Goals as goal

pub returns : goal.returns
returns c = let place = least_place c.requires.heap c.requires.count_nonzero c.least.ensures in record { in_bounds = place.0; queued = place.1 }
