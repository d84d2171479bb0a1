-- The invariant: n cells up to s, and the parents lead on from it. The measure is how many cells of the plan are left.
use Prim.Native.Nat.{◌-◌}
use Rattle.entries.specs.Aims.{area}
use Rattle.answer.proofs.WayLaws.{Passing}
use Rattle.answer.proofs.passed.Given as goal

abbrev pub invariant-loop-s : goal.invariant-loop-s
invariant-loop-s l = Passing l.a l.parent l.n l.s

abbrev pub decreases-loop-s : goal.decreases-loop-s
decreases-loop-s l = area l.a - l.n
