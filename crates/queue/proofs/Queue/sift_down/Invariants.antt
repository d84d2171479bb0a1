-- The loop's invariant: what carrying the cell leaves (Sifted), where it can stand too high only, at i, not above `start`. The measure is the places from i on.
use Prim.Native.Nat.{◌-◌, ◌≤◌}
use Rattle.queue.specs.Sift.{Low, Sifted}
use Rattle.queue.proofs.Queue.sift_down.Given as goal

abbrev pub invariant-loop-i : goal.invariant-loop-i
invariant-loop-i v = Sifted v.width v.count v.cell v.start v.i v.k1 v.k2 v.initial.place v.initial.list v.place v.list (λ lt l. (Low lt v.count v.i l) × (v.start ≤ v.i))

abbrev pub decreases-loop-i : goal.decreases-loop-i
decreases-loop-i l = l.count - l.i
