-- The hunter's cell is marked first; each cell looked at keeps `Going` (`going_on`), and with none left the part is whole.
use Prim.Native.Nat.{◌-◌, ◌*◌}
use Rattle.plan.specs.Floors.{floor_plan}
use Rattle.reach.specs.Filling.{Going}
use Rattle.reach.proofs.fill.Given as goal

abbrev pub invariant-loop-looked : goal.invariant-loop-looked
invariant-loop-looked l = Going (floor_plan l.floor) l.hunter l.filling.rows l.filling.list l.filling.count l.looked

abbrev pub decreases-loop-looked : goal.decreases-loop-looked
decreases-loop-looked l = l.floor.height * l.floor.width - l.looked
