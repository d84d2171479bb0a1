-- Two least costs with the move between them, or no walk where one of them is none (ThroughLaws).
use native.Mathlib.Omega.{arith}
use Rattle.plan.proofs.CellLaws.{enters}
use Rattle.through.proofs.ThroughLaws.{least_through, none_to, none_on, cost_from}
use Rattle.through.proofs.cost_through.Goals as goal

pub returns-in_err-there : goal.returns-in_err-there
returns-in_err-there c = rw c.from_residual.ensures (none_to c.in_err-there.ensures)

pub least_cost-requires-2 : goal.least_cost-requires-2
least_cost-requires-2 c = (omega (arith, c.entered-next.ensures, (enters c.args.floor.obeys.size.wide c.requires.stays_in).inside), c.requires.target_in)

pub returns-in_err-onward : goal.returns-in_err-onward
returns-in_err-onward c = rw c.from_residual-in_err-onward.ensures (none_on (cost_from c.entered-next.ensures c.in_err-onward.ensures))

pub returns : goal.returns
returns c =
    least_through c.args.floor.obeys c.requires.small c.requires.stays_in c.requires.opens c.in_ok-there.ensures (cost_from c.entered-next.ensures c.in_ok-onward.ensures)
