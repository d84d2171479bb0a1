-- After d directions the tables are the method's with the moves of those directions relaxed.
use Rattle.method.specs.Steps.{relaxed_all}
use Rattle.plan.specs.Grid.{out_by, up_to}
use Rattle.tables.specs.Lent.{lent, core, SameTables}
use Rattle.entries.specs.Aims.{floor, hunt}
use Rattle.steps.proofs.StepLaws.{Looked}
use Rattle.steps.proofs.lower.Given as goal

abbrev pub invariant-loop-d : goal.invariant-loop-d
invariant-loop-d l = Looked l.a l.n l.d (lent l.plan l.g l.ahead) (relaxed_all (hunt l.a l.plan) l.v (core (lent l.plan l.g l.initial.ahead)) (up_to (out_by (floor l.a l.plan) l.u) l.d))
    × SameTables l.initial.ahead l.ahead
