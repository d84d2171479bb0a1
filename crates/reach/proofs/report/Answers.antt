-- Too little room is found before anything is written; else rows and moves are copied (`few_rows`, `few_moves`, `written`).
use Rattle.std.proofs.Common.{arith}
use Rattle.reach.proofs.ReportLaws.{few_rows, few_moves, written}
use Rattle.reach.proofs.report.Goals as goal

pub returns-then-rows-floor : goal.returns-then-rows-floor
returns-then-rows-floor c = few_rows _ _ c.args.floor.obeys c.requires c.if-rows-floor.true

pub returns-then-moves-count : goal.returns-then-moves-count
returns-then-moves-count c = few_moves _ _ c.args.floor.obeys c.requires c.fill-bits.ensures c.put_all.ensures c.if-moves-count.true

pub returns : goal.returns
returns c =
    let z = c.args.floor.obeys.size in
    written _ _ c.args.floor.obeys c.requires c.fill-bits.ensures c.put_all.ensures (omega (arith, c.if-rows-floor.false)) (omega (arith, c.if-moves-count.false))
    (omega (arith, z.low)) c.put_all.new.self.within c.copy_from_slice.ensures.after c.copy_from_slice-2.ensures.after c.count_of.ensures
