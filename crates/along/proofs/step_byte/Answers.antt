-- The direction told leads from the one cell to the next (`toward_leads`), and no other does (`one_direction`).
use Rattle.std.proofs.Common.{ap, refl, arith}
use Rattle.plan.specs.Costs.{byte}
use Rattle.plan.specs.Floors.{floor_plan}
use Rattle.plan.proofs.MoveLaws.{area}
use Rattle.plan.proofs.TowardLaws.{one_direction}
use Rattle.along.proofs.AlongLaws.{toward_leads, told_leads}
use Rattle.along.proofs.step_byte.Goals as goal

pub unwrap-d-requires : goal.unwrap-d-requires
unwrap-d-requires c = let t = toward_leads c.toward.result c.toward.ensures c.requires.1 in rw t.1 refl

pub overflow_add-at : goal.overflow_add-at
overflow_add-at c =
    let l = told_leads c.unwrap-d.ensures c.toward.ensures in
    omega (arith, l.direction, c.requires.0, area c.args.floor.obeys.size)

pub bounds-floor-at : goal.bounds-floor-at
bounds-floor-at c =
    let l = told_leads c.unwrap-d.ensures c.toward.ensures in
    omega (arith, l.direction, c.requires.0, c.args.floor.obeys.sized)

pub returns : goal.returns
returns c d l =
    let m = told_leads c.unwrap-d.ensures c.toward.ensures in
    ap (byte (floor_plan c.args.floor) c.args.a) (one_direction c.args.floor.obeys.size.wide m l)
