-- The loop's invariant: a true heap in tables of the same size.
use Rattle.std.specs.Prelude.{◌≡◌, length}
use Rattle.queue.specs.Lent.{HeapIn}
use Rattle.queue_trial.proofs.exercise.Given as goal

abbrev pub invariant-loop-turn : goal.invariant-loop-turn
invariant-loop-turn g l = record { heap : HeapIn l.queue; size : length l.queue.list.now ≡ l.size }
