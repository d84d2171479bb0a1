-- Each trial that is listed can be made.
use native.Mathlib.Omega.{arith}
use Rattle.queue_trial.proofs.TrialLaws.{trial_fits}
use Rattle.queue_trial.proofs.main.Goals as goal

pub slice_bounds-k1-end : goal.slice_bounds-k1-end
slice_bounds-k1-end c = omega (arith, trial_fits c.loop-width.width-index (0, 0) c.loop-width-test.true)

pub slice_bounds-k2-end : goal.slice_bounds-k2-end
slice_bounds-k2-end c = omega (arith, trial_fits c.loop-width.width-index (0, 0) c.loop-width-test.true)

pub slice_bounds-place-end : goal.slice_bounds-place-end
slice_bounds-place-end c = omega (arith, trial_fits c.loop-width.width-index (0, 0) c.loop-width-test.true)

pub slice_bounds-list-end : goal.slice_bounds-list-end
slice_bounds-list-end c = omega (arith, trial_fits c.loop-width.width-index (0, 0) c.loop-width-test.true)

pub clear-requires-clause-width_nonzero : goal.clear-requires-clause-width_nonzero
clear-requires-clause-width_nonzero c = (trial_fits c.loop-width.width-index (0, 0) c.loop-width-test.true).0
