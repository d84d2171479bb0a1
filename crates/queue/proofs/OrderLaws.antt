-- The queue's order has the laws of an order (`before_order`), and a cell's new key does not touch the order of two others (`before_set`).
-- The heap's proofs know no more of `before` than this, and `before_order` knows no more of the tie than `column_order`.
use mathlib.Core.Path.{◌≡◌}
use mathlib.Core.Bool.{Bool, true, false}
use mathlib.Core.List.{List}
use Prim.Native.Nat.{ℕ}
use lib.ListN.{get_or, set}
use lib.Seq.{get_or-set_other}
use Rattle.decide.specs.Order.{Order}
use Rattle.decide.proofs.OrderLaws.{first_order, column_order}
use Rattle.queue.specs.Order.{before}
use Rattle.queue.proofs.CaseLaws.{never, is_true, is_false}

-- ---- what follows from the laws of an order

module _ {lt : ℕ → ℕ → Bool} (order : Order lt) where
  pub one_way : {a b : ℕ} → lt a b ≡ true → lt b a ≡ false
  one_way {a} {b} h = is_false (lt b a) (λ e. never (order.transitive a b a h e) (order.irreflexive a))

  pub not_before : {a b c : ℕ} → lt b a ≡ false → lt c b ≡ false → lt c a ≡ false
  not_before {a} {b} {c} h l =
      is_false (lt c a) λ e.
      let ab : lt a b ≡ true = is_true (lt a b) (λ f. let q : b ≡ a = order.total b a h f in never e (cc)) in
      never (order.transitive c a b e ab) l

-- ---- the queue's order

pub before_order : (width : ℕ) (k1 k2 : List ℕ) → Order (before width k1 k2)
unfolding before
before_order width k1 k2 = first_order (λ a. get_or k1 a 0) (first_order (λ a. get_or k2 a 0) (column_order width))

-- A cell's new key does not touch the order of two others.
pub before_set : (width : ℕ) (k1 k2 : List ℕ) (c first second x y : ℕ) → (x ≡ c → ⊥) → (y ≡ c → ⊥)
    → before width (set k1 c first) (set k2 c second) x y ≡ before width k1 k2 x y
unfolding before
before_set width k1 k2 c first second x y nx ny =
    cc (get_or-set_other k1 c x first 0 nx, get_or-set_other k1 c y first 0 ny, get_or-set_other k2 c x second 0 nx, get_or-set_other k2 c y second 0 ny)
