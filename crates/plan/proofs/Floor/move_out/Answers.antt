-- A move of an obedient plan that is not shut stays in it, so its byte alone tells (`out_shut`, `out_open` in MoveLaws).
use native.Mathlib.Omega.{arith}
use Rattle.plan.proofs.MoveLaws.{area, out_shut, out_open, open_stays, sum_long}
use Rattle.plan.proofs.Floor.move_out.Goals as goal

pub returns-then-cost : goal.returns-then-cost
returns-then-cost c = out_shut _ c.args.self.obeys _ _ c.requires.0 c.requires.1 c.if-cost.true

pub entered-requires-clause-width_bound : goal.entered-requires-clause-width_bound
entered-requires-clause-width_bound c = let m = open_stays _ c.args.self.obeys _ _ c.requires.0 c.requires.1 c.if-cost.false in
    (c.args.self.obeys.size.narrow, omega (arith, c.requires.0, area c.args.self.obeys.size), sum_long _ c.args.self.obeys _ _ c.requires.0 c.requires.1 m)

pub returns : goal.returns
returns c = rw (c.entered.ensures, c.back_code.ensures) (out_open _ c.args.self.obeys _ _ c.requires.0 c.requires.1 c.if-cost.false)
