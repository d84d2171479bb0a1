-- The invariant: the cells behind s are written, and s goes to the place before i.
use Prim.Native.Nat.{◌-◌}
use Rattle.answer.proofs.WayLaws.{Writing}
use Rattle.answer.proofs.write_way.Given as goal

abbrev pub invariant-loop-i : goal.invariant-loop-i
invariant-loop-i l = Writing l.a l.parent l.initial.way l.count (l.i - 1) l.s l.way
