-- After d directions the tables are the method's with the children of those directions found anew.
use Rattle.method.specs.Steps.{renewed_all}
use Rattle.plan.specs.Grid.{out_by, up_to}
use Rattle.tables.specs.Lent.{lent, core, SameTables}
use Rattle.entries.specs.Aims.{floor, hunt}
use Rattle.steps.proofs.StepLaws.{Looked}
use Rattle.steps.proofs.raise.Given as goal

abbrev pub invariant-loop-d : goal.invariant-loop-d
invariant-loop-d l = Looked l.a l.n l.d (lent l.plan l.g l.ahead) (renewed_all (hunt l.a l.plan) (core (lent l.plan l.g l.initial.ahead)) (up_to (out_by (floor l.a l.plan) l.u) l.d))
    × SameTables l.initial.ahead l.ahead
