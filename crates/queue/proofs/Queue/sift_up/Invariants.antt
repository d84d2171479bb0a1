-- The loop's invariant: what carrying the cell leaves (Sifted), where it has come up to i (Rising). The measure is i.
use Rattle.queue.specs.Sift.{Sifted}
use Rattle.queue.proofs.HoleLaws.{Rising}
use Rattle.queue.proofs.Queue.sift_up.Given as goal

abbrev pub invariant-loop-i : goal.invariant-loop-i
invariant-loop-i v = Sifted v.width v.fn.self.count v.cell v.start v.i v.k1 v.k2 v.initial.place v.initial.list v.place v.list (λ lt l. Rising lt v.fn.self.count v.start v.i l)

abbrev pub decreases-loop-i : goal.decreases-loop-i
decreases-loop-i l = l.i
