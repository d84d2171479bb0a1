-- The walk carries the spot of the cell and goes on only while there is no fault: every cell passed obeys its rules, and so does every direction passed of the one at hand.
use borrow.Author.Count.{below_more}
use native.Mathlib.Omega.{arith}
use Rattle.decide.proofs.DecideLaws.{refuted}
use Rattle.tables.specs.Lent.{tables}
use Rattle.tables.specs.Rules.{RulesBefore, nowhere, in_record, in_cell, in_move}
use Rattle.tables.proofs.first_fault.Goals as goal

pub returns-then-not-numbers_hold : goal.returns-then-not-numbers_hold
returns-then-not-numbers_hold c = in_record (refuted c.numbers_hold.ensures c.if-not-numbers_hold.true)

pub loop-d-preserved : goal.loop-d-preserved
loop-d-preserved c = let i = c.loop-d.invariant in
    (omega arith, i.1, below_more _ _ i.2 (c.way_holds.ensures.so c.if-not-way_holds.false))

pub cells-preserved : goal.cells-preserved
cells-preserved c =
    let alone = c.alone_holds.ensures.so c.if-not-alone_holds.false in
    let i = c.cells.invariant in
    let j = c.loop-d.invariant in (
      omega (arith, c.cells-test.true),
      j.1,
      c.onward-at.ensures _ i.2,
      below_more _ _ i.3 (record { alone = alone; ways = λ d q. j.2 d (omega (arith, c.loop-d-test.false)) }),
    )

pub returns-after-cells : goal.returns-after-cells
returns-after-cells c = let numbers = c.numbers_hold.ensures.so c.if-not-numbers_hold.false in
    let i = c.cells.invariant in
    rw i.1 (nowhere (record { numbers = numbers; each_cell = λ v l. i.3 v (omega (arith, l, c.cells-test.false)) }))

pub returns-then-not-alone_holds : goal.returns-then-not-alone_holds
returns-then-not-alone_holds c = let numbers = c.numbers_hold.ensures.so c.if-not-numbers_hold.false in
    let rules_before : RulesBefore c.args.s (tables c.args.plan.now c.args.g.now c.args.rhs.now c.args.parent.now c.args.k1.now c.args.k2.now c.args.place.now c.args.list.now) c.cells.u =
    record { numbers = numbers; each_cell = c.cells.invariant.3 } in
    in_cell c.cells-test.true rules_before (refuted c.alone_holds.ensures c.if-not-alone_holds.true)

pub returns-then-not-way_holds : goal.returns-then-not-way_holds
returns-then-not-way_holds c =
    let alone = c.alone_holds.ensures.so c.if-not-alone_holds.false in
    let numbers = c.numbers_hold.ensures.so c.if-not-numbers_hold.false in
    let rules_before : RulesBefore c.args.s (tables c.args.plan.now c.args.g.now c.args.rhs.now c.args.parent.now c.args.k1.now c.args.k2.now c.args.place.now c.args.list.now) c.cells.u =
    record { numbers = numbers; each_cell = c.cells.invariant.3 } in
    in_move c.cells-test.true c.loop-d-test.true rules_before alone c.loop-d.invariant.2
    (refuted c.way_holds.ensures c.if-not-way_holds.true)
