-- The loop's invariant: what carrying the cell leaves (Sifted), where it can stand too high only, at i, not above `start`. The measure is the places from i on.
use mathlib.Core.Path.{◌∙◌}
use native.Mathlib.Omega.{arith}
use Rattle.queue.proofs.OrderLaws.{before_order}
use Rattle.queue.proofs.HeapLaws.{keep_more, sink, stay_over}
use Rattle.queue.proofs.SiftLaws.{reshaped}
use Rattle.queue.proofs.HoleLaws.{second_before, may_pass, passed, lesser_meant}
use Rattle.queue.proofs.Queue.sift_down.Goals as goal

pub returns-then-not-comes_before-clause-sifted : goal.returns-then-not-comes_before-clause-sifted
returns-then-not-comes_before-clause-sifted c = let l = c.loop-i.invariant in
    let n = c.lesser_under-under.ensures in
    let other_first = second_before l.held n.inside (λ e. omega (arith, n.under.low)) c.from.ensures c.of-own.ensures c.of-lesser.ensures c.comes_before.ensures in
    reshaped l (stay_over (before_order _ _ _) l.shape.0 (lesser_meant _ n) (other_first ∙ c.if-not-comes_before.true))

pub stand-requires : goal.stand-requires
stand-requires c = let n = c.lesser_under-under.ensures in
    may_pass c.loop-i.invariant.held n.inside (λ e. omega (arith, n.under.low)) (c.of-lesser.ensures.cell ∙ c.from.ensures)

pub loop-i-preserved : goal.loop-i-preserved
loop-i-preserved c = let l = c.loop-i.invariant in
    let n = c.lesser_under-under.ensures in
    let s = passed l.held n.inside (λ e. omega (arith, n.under.low)) (c.of-lesser.ensures.cell ∙ c.from.ensures) c.stand.ensures.place_after c.stand.ensures.list_after in
    let moves = second_before l.held n.inside (λ e. omega (arith, n.under.low)) c.from.ensures c.of-own.ensures c.of-lesser.ensures c.comes_before.ensures ∙ c.if-not-comes_before.false in
    record {
      held = s.0;
      membership = s.1 ∙ l.membership;
      shape = (sink (before_order _ _ _) l.shape.0 (lesser_meant _ n) moves s.2, omega (arith, l.shape.1, n.under.low));
      keeps = keep_more l.keeps n.under n.inside moves;
      unmoved = λ q. absurd (omega (arith, l.shape.1, n.under.low));
    }
