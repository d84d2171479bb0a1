-- One entry under place i, or the lesser of two.
use mathlib.Core.Path.{sym, ◌∙◌}
use native.Mathlib.Omega.{arith}
use Rattle.queue.proofs.OrderLaws.{before_order}
use Rattle.queue.proofs.KeyLaws.{compared}
use Rattle.queue.proofs.HeapLaws.{lesser_left, lesser_right}
use Rattle.queue.proofs.lesser_under.Goals as goal

pub returns-then-comes_before : goal.returns-then-comes_before
returns-then-comes_before c =
    lesser_right (before_order _ _ _) c.if-right-count.true ((compared _ c.of-a.ensures c.of-b.ensures (sym c.from.ensures) (sym c.from-then-right-count.ensures) c.comes_before.ensures) ∙
    c.if-comes_before.true)

pub returns-else-comes_before : goal.returns-else-comes_before
returns-else-comes_before c =
    lesser_left (before_order _ _ _) c.requires.i_bound (λ b. (compared _ c.of-a.ensures c.of-b.ensures (sym c.from.ensures) (sym c.from-then-right-count.ensures) c.comes_before.ensures) ∙
    c.if-comes_before.false)

pub returns-else-right-count : goal.returns-else-right-count
returns-else-right-count c = lesser_left (before_order _ _ _) c.requires.i_bound (λ b. absurd (omega arith))
