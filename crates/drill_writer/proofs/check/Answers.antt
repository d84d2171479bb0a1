-- Past the rules of the plan, those of the actions and the room are asked by the file's length (`by_length`).
use Rattle.decide.specs.Ruled.{holds}
use Rattle.decide.proofs.RuledLaws.{kept}
use Rattle.drill_writer.proofs.WriteLaws.{by_length}
use Rattle.drill_writer.proofs.check.Goals as goal

pub returns : goal.returns
returns c =
    let s = c.args in
    kept c.is_size.ensures c.if-not-is_size.false
    (holds c.if-plan-cells.false
    (holds (c.if-cells-hunter.false, c.if-cells-target.false)
    (kept c.edges_hold.ensures c.if-not-edges_hold.false
    (kept c.bytes_hold.ensures c.if-not-bytes_hold.false
    (by_length s.width s.height s.hunter s.target s.plan.now s.actions.now c.check_actions.ensures)))))
