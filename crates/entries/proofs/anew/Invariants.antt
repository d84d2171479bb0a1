-- After d directions the best is the method's least over their moves; after four it is over all (`looked_more`, `looked_all` in AnewLaws).
use mathlib.Core.Path.{◌≡◌}
use Prim.Native.Nat.{◌≤◌, ◌-◌}
use Rattle.method.specs.Numbers.{infinite}
use Rattle.method.specs.Tables.{found, least_over}
use Rattle.plan.specs.Grid.{into_by, up_to}
use Rattle.entries.specs.Aims.{floor}
use Rattle.entries.specs.Became.{found_of}
use Rattle.entries.proofs.anew.Given as goal

abbrev pub invariant-loop-d : goal.invariant-loop-d
invariant-loop-d l = (l.d ≤ 4) × (found_of l.best ≡ least_over l.g (found infinite 0) (up_to (into_by (floor l.fn.a l.plan) l.s) l.d))

abbrev pub decreases-loop-d : goal.decreases-loop-d
decreases-loop-d l = 4 - l.d
