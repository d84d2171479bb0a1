-- The seven texts are put one behind the other; a number has at most twenty digits (`decimal_few`), and a cell takes at most six bytes (`way_few`).
use Rattle.std.proofs.Common.{refl, ap, arith}
use Rattle.text.specs.Text.{bytes, decimal}
use Rattle.text.proofs.PutLaws.{put_then, put_as}
use Rattle.text.proofs.DecimalLaws.{decimal_few}
use Rattle.lines.proofs.CellLaws.{way_few}
use Rattle.lines.proofs.put_way.Goals as goal

pub put_word-requires-4 : goal.put_word-requires-4
put_word-requires-4 c = omega (arith, decimal_few c.from.result, decimal_few c.args.steps, way_few c.args.cells.now (λ i. (c.type_inv.cells i).fits))

pub returns-clause-put : goal.returns-clause-put
unfolding bytes
returns-clause-put c =
    let cost = put_then c.put_word.ensures.put (put_as (ap decimal c.from.ensures) refl c.put_decimal.ensures.put) in
    let numbers = put_then (put_then cost c.put_word-2.ensures.put) c.put_decimal-2.ensures.put in
    put_then (put_then (put_then numbers c.put_word-3.ensures.put) c.put_cells.ensures.put) c.put_word-4.ensures.put
