-- The walk carries the spot of the cell and goes on only while there is no fault: every cell passed obeys its rules, and so does every direction passed of the one at hand.
use mathlib.Core.Path.{◌≡◌}
use Prim.Native.Nat.{ℕ, ◌≤◌, ◌<◌}
use Rattle.std.proofs.Common.{None}
use Rattle.plan.specs.Reached.{At}
use Rattle.tables.specs.Lent.{tables}
use Rattle.tables.specs.Rules.{WayIn, CellRules}
use Rattle.tables.proofs.first_fault.Given as goal

abbrev pub invariant-loop-d : goal.invariant-loop-d
invariant-loop-d l = (l.d ≤ 4) × (l.fault ≡ None) × ((e : ℕ) → e < l.d → WayIn l.s (tables l.plan l.g l.rhs l.parent l.k1 l.k2 l.place l.list) l.u e)

abbrev pub invariant-cells : goal.invariant-cells
invariant-cells l = (l.u ≤ l.cells) × (l.fault ≡ None) × At l.s.width l.u l.at × ((v : ℕ) → v < l.u → CellRules l.s (tables l.plan l.g l.rhs l.parent l.k1 l.k2 l.place l.list) v)
