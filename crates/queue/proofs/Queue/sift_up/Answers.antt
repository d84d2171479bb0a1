-- The loop's invariant: what carrying the cell leaves (Sifted), where it has come up to i (Rising). The measure is i.
use mathlib.Core.Path.{◌∙◌}
use native.Mathlib.Omega.{arith}
use Rattle.queue.proofs.OrderLaws.{before_order}
use Rattle.queue.proofs.HeapLaws.{keep_more, above, above_inside, stay_first, stay_under}
use Rattle.queue.proofs.SiftLaws.{reshaped}
use Rattle.queue.proofs.HoleLaws.{own_key, other_key, first_before, may_pass, passed, rises, risen}
use Rattle.queue.proofs.Queue.sift_up.Goals as goal

pub of-own-requires : goal.of-own-requires
of-own-requires c = own_key c.requires.held

pub of-upper-requires : goal.of-upper-requires
of-upper-requires c = let l = c.loop-i.invariant in
    let u = above c.loop-i-test.true in
    other_key l.held (above_inside u l.held.inside) (λ e. omega (arith, u.low)) c.from.ensures

pub returns-then-not-comes_before-clause-sifted : goal.returns-then-not-comes_before-clause-sifted
returns-then-not-comes_before-clause-sifted c = let l = c.loop-i.invariant in
    let u = above c.loop-i-test.true in
    let own_first = first_before l.held (above_inside u l.held.inside) (λ e. omega (arith, u.low)) c.from.ensures c.of-own.ensures c.of-upper.ensures c.comes_before.ensures in
    reshaped l (risen (before_order _ _ _) l.shape (stay_under (before_order _ _ _) l.shape.loose u (own_first ∙ c.if-not-comes_before.true)))

pub stand-requires : goal.stand-requires
stand-requires c = let l = c.loop-i.invariant in
    let u = above c.loop-i-test.true in
    may_pass l.held (above_inside u l.held.inside) (λ e. omega (arith, u.low)) (c.of-upper.ensures.cell ∙ c.from.ensures)

pub loop-i-preserved : goal.loop-i-preserved
loop-i-preserved c = let l = c.loop-i.invariant in
    let u = above c.loop-i-test.true in
    let b = above_inside u l.held.inside in
    let s = passed l.held b (λ e. omega (arith, u.low)) (c.of-upper.ensures.cell ∙ c.from.ensures) c.stand.ensures.place_after c.stand.ensures.list_after in
    let moves = first_before l.held b (λ e. omega (arith, u.low)) c.from.ensures c.of-own.ensures c.of-upper.ensures c.comes_before.ensures ∙ c.if-not-comes_before.false in
    record {
      held = s.0;
      membership = s.1 ∙ l.membership;
      shape = rises (before_order _ _ _) l.shape u moves s.2;
      keeps = keep_more l.keeps u l.held.inside moves;
      unmoved = λ q. absurd (omega (arith, u.low, l.shape.higher));
    }

pub returns-clause-sifted : goal.returns-clause-sifted
returns-clause-sifted c = let l = c.loop-i.invariant in
    reshaped l (risen (before_order _ _ _) l.shape (stay_first (before_order _ _ _) (omega arith) l.shape.loose))
