-- The hunter's cell is marked first; each cell looked at keeps `Going` (`going_on`), and with none left the part is whole.
use Rattle.std.proofs.Common.{arith}
use Rattle.plan.proofs.MoveLaws.{area}
use Rattle.reach.proofs.FillLaws.{clean_at_first, first_asks, going_first, going_le, going_on, whole}
use Rattle.reach.proofs.fill.Goals as goal

pub mark-requires : goal.mark-requires
mark-requires c = first_asks c.args.floor.obeys c.requires (clean_at_first c.args.floor.obeys) c.spot_of-at.ensures

pub loop-looked-init : goal.loop-looked-init
loop-looked-init c = going_first c.args.floor.obeys c.requires (clean_at_first c.args.floor.obeys) c.spot_of-at.ensures c.mark.ensures

-- No more cells are listed than the plan has.
pub offset_bounds-filling-looked : goal.offset_bounds-filling-looked
offset_bounds-filling-looked c = omega (arith, going_le c.loop-looked.invariant, area c.args.floor.obeys.size)

pub bounds-filling-looked : goal.bounds-filling-looked
bounds-filling-looked c = omega (arith, going_le c.loop-looked.invariant, area c.args.floor.obeys.size)

pub loop-looked-smaller : goal.loop-looked-smaller
loop-looked-smaller c = omega (arith, going_le c.loop-looked.invariant)

pub loop-looked-preserved : goal.loop-looked-preserved
loop-looked-preserved c = going_on c.loop-looked.invariant (omega arith) c.around.ensures.grown c.around.ensures.looked

pub returns : goal.returns
returns c = whole c.loop-looked.invariant c.args.floor.obeys (omega arith)

pub overflow_add-looked : goal.overflow_add-looked
overflow_add-looked c = record { fits = omega (arith, going_le c.loop-looked.invariant, area c.args.floor.obeys.size) }
