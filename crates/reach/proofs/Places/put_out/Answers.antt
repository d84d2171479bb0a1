-- The place is put at the end where its move leads out (`outs_put`).
use native.Mathlib.Omega.{arith}
use Rattle.plan.proofs.MoveLaws.{area}
use Rattle.reach.proofs.OutLaws.{outs_put}
use Rattle.reach.proofs.Places.put_out.Goals as goal

pub returns-then-leads_out : goal.returns-then-leads_out
returns-then-leads_out c = outs_put c.requires.outs (omega (arith, c.requires.outs.few, c.requires.height_in_bounds.1, area c.args.floor.obeys.size)) (c.leads_out.ensures.so c.if-leads_out.true)
