-- Each return is a case of the method's `next_cell`: the queue is empty, rhs of the target is above its g, the least key is below the target's, or neither (ChoiceLaws).
use native.Mathlib.Omega.{arith}
use Rattle.std.proofs.Common.{rules}
use Rattle.plan.proofs.MoveLaws.{area}
use Rattle.tables.specs.Asked.{Words}
use Rattle.choices.proofs.ChoiceLaws.{leading, goal_key, chosen_empty, chosen_in, chosen_over, chosen_short, chosen_done}
use Rattle.choices.proofs.chosen.Goals as goal
use Rattle.choices.proofs.chosen.Goals.{then-x-y-via-then-x-y, then-x-y-via-else-x-y+then-least-key}

pub returns-then-count-eq0 : goal.returns-then-count-eq0
returns-then-count-eq0 c = chosen_empty c.requires c.if-count-eq0.true

pub offset_bounds-k1-u : goal.offset_bounds-k1-u
offset_bounds-k1-u c = omega (arith, chosen_in (leading c.requires c.if-count-eq0.false c.least-u.ensures), area c.requires.size)

pub bounds-k1-u : goal.bounds-k1-u
bounds-k1-u c = omega (arith, chosen_in (leading c.requires c.if-count-eq0.false c.least-u.ensures), c.requires.heap.tables.length1)

pub offset_bounds-k2-u : goal.offset_bounds-k2-u
offset_bounds-k2-u c = omega (arith, chosen_in (leading c.requires c.if-count-eq0.false c.least-u.ensures), area c.requires.size)

pub bounds-k2-u : goal.bounds-k2-u
bounds-k2-u c = omega (arith, chosen_in (leading c.requires c.if-count-eq0.false c.least-u.ensures), c.requires.heap.tables.length2)

pub returns-then-x-y : goal.returns-then-x-y
returns-then-x-y c = let L = leading c.requires c.if-count-eq0.false c.least-u.ensures in
    let words : Words c.args.k2.now = search rules in
    elim c.then-x-y.branch [
      | then-x-y-via-then-x-y w ↦ chosen_over L words w.if-x-y.true
      | then-x-y-via-else-x-y+then-least-key w ↦
          chosen_short L words w.if-x-y.false c.key-least.ensures (goal_key c.args.a c.requires.goal w.saturating_add.ensures w.key.ensures) w.if-least-key.true
    ]

pub returns : goal.returns
returns c = let L = leading c.requires c.if-count-eq0.false c.least-u.ensures in
    let words : Words c.args.k2.now = search rules in
    chosen_done L words c.if-x-y.false c.key-least.ensures (goal_key c.args.a c.requires.goal c.saturating_add.ensures c.key.ensures) c.if-least-key.false
