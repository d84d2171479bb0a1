-- A fresh start (`begin`), the loop (`run`) and the rhs that it leaves give the least cost (FreshLaws).
use mathlib.Core.Path.{sym, subst}
use Rattle.through.specs.Through.{LeastCost}
use Rattle.through.proofs.FreshLaws.{run_started, readable, least_in}
use Rattle.through.proofs.searched.Goals as goal

pub run-requires-clause-started : goal.run-requires-clause-started
run-requires-clause-started c =
    run_started c.args.floor.obeys c.requires.from_bound.0 c.requires.from_bound.1 c.placed_on-placed.ensures c.begin-begun.ensures.opened c.aim_of-a.ensures

pub cost_in-requires : goal.cost_in-requires
cost_in-requires c =
    readable c.args.floor.obeys c.requires.from_bound.0 c.requires.from_bound.1 c.placed_on-placed.ensures c.begin-begun.ensures.opened c.aim_of-a.ensures c.run.ensures.finished

pub returns : goal.returns
returns c =
    subst (LeastCost _ _ _) (sym c.cost_in.ensures)
    (least_in c.args.floor.obeys c.requires.from_bound.0 c.requires.from_bound.1 c.placed_on-placed.ensures c.begin-begun.ensures.opened c.aim_of-a.ensures c.run.ensures.finished)
