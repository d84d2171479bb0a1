-- The loop's invariant: a true heap. The measure is its count.
use Rattle.queue.specs.Lent.{HeapIn}
use Rattle.queue_trial.proofs.drain.Given as goal

abbrev pub invariant-loop-queue : goal.invariant-loop-queue
invariant-loop-queue l = HeapIn l.queue

abbrev pub decreases-loop-queue : goal.decreases-loop-queue
decreases-loop-queue l = l.queue.count
