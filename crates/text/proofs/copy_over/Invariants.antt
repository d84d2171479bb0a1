-- The bytes before the i-th are copied, and neither slice changes its length.
use Rattle.std.proofs.Common.{◌≡◌, length, take}
use Rattle.text.proofs.copy_over.Given as goal

abbrev pub invariant-loop-i : goal.invariant-loop-i
invariant-loop-i l = (length l.to ≡ length l.from) × (take l.i l.to ≡ take l.i l.from)
