-- Refused by what `check` found and nothing written; else plan, actions and trailer are put one behind the other, from the first byte on.
use Rattle.std.proofs.Common.{refl, ap, length, arith}
use Rattle.drill_writer.proofs.WriteLaws.{room_for, refuses, write_granted}
use Rattle.drill_writer.proofs.write.Goals as goal

pub returns-in_err-check : goal.returns-in_err-check
returns-in_err-check c = refuses c.from_residual.result _ c.from_residual.ensures.1 c.in_err-check.ensures

pub trailer_bytes-trailer-requires : goal.trailer_bytes-trailer-requires
trailer_bytes-trailer-requires c = let z = (write_granted _ _ c.in_ok-check.ensures refl).size in (omega (arith, z.narrow), omega (arith, z.low))

pub put_word-requires : goal.put_word-requires
put_word-requires c = omega (arith, room_for (write_granted _ _ c.in_ok-check.ensures refl))

pub put_word-requires-2 : goal.put_word-requires-2
put_word-requires-2 c = omega (arith, room_for (write_granted _ _ c.in_ok-check.ensures refl))

pub put_word-requires-3 : goal.put_word-requires-3
put_word-requires-3 c = omega (arith, room_for (write_granted _ _ c.in_ok-check.ensures refl), ap length c.trailer_bytes-trailer.ensures)
