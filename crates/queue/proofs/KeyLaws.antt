-- Cells compare as their keys do, taken as one number, and by column where these are equal.
use mathlib.Core.Path.{◌≡◌, sym, ◌∙◌}
use mathlib.Core.Logic.{⊎_elim}
use mathlib.Core.Bool.{Bool}
use mathlib.Core.List.{List}
use Prim.Native.Nat.{ℕ, ◌+◌, ◌*◌, ◌≤◌, ◌<◌}
use native.Mathlib.Omega.{arith}
use lib.Dec.{ltb}
use borrow.Author.Tests.{lt-ltb, le-ltb}
use Rattle.decide.specs.Order.{less_or, column_first}
use Rattle.decide.proofs.OrderLaws.{split, side, less_eq, less_ne}
use Rattle.queue.specs.Order.{before}
use Rattle.queue.specs.Sift.{EntryOf}
use Rattle.queue.specs.declared.Entry.{Entry}

-- Two tests of numbers that are below or not together.
one_test : (x y x' y' : ℕ) → (x < y → x' < y') → (y ≤ x → y' ≤ x') → ltb x y ≡ ltb x' y'
one_test x y x' y' f g = ⊎_elim (λ l. lt-ltb x y l ∙ sym (lt-ltb x' y' (f l))) (λ l. le-ltb x y l ∙ sym (le-ltb x' y' (g l))) (side x y)

-- The upper half first.
halves : (a b c d : ℕ) (t : Bool) → b < 4294967296 → d < 4294967296 → less_or (a * 4294967296 + b) (c * 4294967296 + d) t ≡ less_or a c (less_or b d t)
halves a b c d t lb ld =
    let x = a * 4294967296 + b in
    let y = c * 4294967296 + d in
    split a c
    (λ e. split b d
    (λ f. less_eq x y t (omega arith) ∙ sym (less_eq a c (less_or b d t) e ∙ less_eq b d t f))
    (λ f. less_ne x y t (λ z. f (omega arith)) ∙ one_test x y b d (λ l. omega arith) (λ l. omega arith) ∙ sym (less_eq a c (less_or b d t) e ∙ less_ne b d t f)))
    (λ e. less_ne x y t (λ z. e (omega arith)) ∙ one_test x y a c (λ l. omega arith) (λ l. omega arith) ∙ sym (less_ne a c (less_or b d t) e))

by_keys : (width : ℕ) {k1 k2 : List ℕ} {a b : ℕ} {p q : Entry} → EntryOf k1 k2 a p → EntryOf k1 k2 b q
    → less_or p.key q.key (column_first width p.cell q.cell) ≡ before width k1 k2 a b
unfolding before
by_keys width {a = a} {b = b} m n = rw (m.number, n.number, m.cell, n.cell) (halves _ _ _ _ (column_first width a b) m.half n.half)

-- A comparison of entries in hand is one of cells x and y, whose entries they are.
pub compared : (width : ℕ) {k1 k2 : List ℕ} {a b x y : ℕ} {p q : Entry} {r : Bool} → EntryOf k1 k2 a p → EntryOf k1 k2 b q → x ≡ a → y ≡ b
    → r ≡ less_or p.key q.key (column_first width p.cell q.cell) → before width k1 k2 x y ≡ r
compared width m n ex ey e = rw (ex, ey) (sym (e ∙ by_keys width m n))
