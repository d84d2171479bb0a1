-- The next cell as the code chooses it.
use mathlib.Core.Path.{◌≡◌, sym, ap, ◌∙◌}
use mathlib.Core.Bool.{true, true≢false}
use mathlib.Core.Logic.{inl, inr, ◌≢◌}
use mathlib.Core.List.{List}
use Rattle.std.proofs.Common.{Some, None}
use Prim.Native.Nat.{ℕ, ◌+◌, ◌≤◌, ◌<◌, min}
use native.Mathlib.Omega.{arith}
use native.Mathlib.Decide.{ℕ_discrete, dec_lt}
use lib.ListN.{get_or}
use borrow.Author.Tests.{lt-ltb}
use Rattle.decide.proofs.OrderLaws.{less_eq, less_ne}
use Rattle.method.specs.Numbers.{infinite}
use Rattle.method.specs.Graph.{GraphLaws}
use Rattle.method.specs.Tables as method
use Rattle.method.specs.Course.{Before, LeastCell, Continues}
use Rattle.method.proofs.Entries.{first_finite, first_infinite}
use Rattle.method.proofs.Taking.{least_one, least_cell, next_some, next_none}
use Rattle.queue.specs.Order.{before}
use Rattle.queue.specs.Queue.{LeastOf}
use Rattle.queue.proofs.MemberLaws.{member_place}
use Rattle.queue.proofs.QueueLaws.{least_of, least_place}
use Rattle.plan.proofs.EstimateLaws.{estimate_self}
use Rattle.tables.specs.Lent.{tables, graph_in, core}
use Rattle.tables.proofs.FrameLaws.{graph_in_laws}
use Rattle.tables.specs.Asked.{Words}
use Rattle.entries.specs.declared.Aim.{Aim}
use Rattle.entries.specs.Aims.{area, frame_of, hunt}
use Rattle.choices.specs.Next.{Goal, Choosing, Chosen}

-- ---- the target's calculated key

-- Its first number stays at infinite where the target's lesser number y is infinite.
pub goal_key : (a : Aim) {y first key : ℕ} → Goal a y → first ≡ min (y + a.km) infinite → key ≡ method.key_number first y
    → (plan : List ℕ) → key ≡ method.key_number (method.first_key (hunt a plan) a.target y) y
goal_key a {y} {first} {key} g f k plan = at (ℕ_discrete y infinite)
  where
    at : Dec (y ≡ infinite) → key ≡ method.key_number (method.first_key (hunt a plan) a.target y) y
    at (yes e) = omega (arith, k, f, first_infinite (hunt a plan) a.target y e)
    at (no n) = omega (arith, k, f, g n, first_finite (hunt a plan) a.target y (omega (arith, g n)), estimate_self a.width a.target)

-- ---- the queue's least cell is the method's

-- a cell that the method has before another, the queue has before it
queue_before : (a : Aim) (plan g rhs parent k1 k2 place list : List ℕ) → Words k2
    → (s u : ℕ) → Before (graph_in (frame_of a) plan) (core (tables plan g rhs parent k1 k2 place list)) s u → before a.width k1 k2 s u ≡ true
unfolding before
queue_before a plan g rhs parent k1 k2 place list w s u (inl x) = at (dec_lt (get_or k1 s 0) (get_or k1 u 0))
  where
    at : Dec (get_or k1 s 0 < get_or k1 u 0) → before a.width k1 k2 s u ≡ true
    at (yes l) = less_ne (get_or k1 s 0) (get_or k1 u 0) _ (λ e. omega arith) ∙ lt-ltb (get_or k1 s 0) (get_or k1 u 0) l
    at (no n) =
        less_eq (get_or k1 s 0) (get_or k1 u 0) _ (omega (arith, w s, w u))
        ∙ less_ne (get_or k2 s 0) (get_or k2 u 0) _ (λ e. omega (arith, w s, w u))
        ∙ lt-ltb (get_or k2 s 0) (get_or k2 u 0) (omega (arith, w s, w u))
queue_before a plan g rhs parent k1 k2 place list w s u (inr x) =
    less_eq (get_or k1 s 0) (get_or k1 u 0) _ (omega (arith, x.0, w s, w u)) ∙ less_eq (get_or k2 s 0) (get_or k2 u 0) _ (omega (arith, x.0, w s, w u)) ∙ x.1

-- The queue is not empty, and u is its least cell.
pub record Leading (a : Aim) (count : ℕ) (g rhs k1 k2 place list : List ℕ) (u : ℕ) : Type 0 where
  pub choosing : Choosing a count g rhs k1 k2 place list
  pub some : 0 < count
  pub least : LeastOf list u

module _ {a : Aim} {count : ℕ} {g rhs k1 k2 place list : List ℕ} (C : Choosing a count g rhs k1 k2 place list) where
  laws : (plan : List ℕ) → GraphLaws (graph_in (frame_of a) plan)
  laws plan = graph_in_laws (frame_of a) plan C.size

  -- an empty queue
  pub chosen_empty : count ≡ 0 → Chosen a g rhs k1 k2 place None
  chosen_empty e plan parent list' =
      sym (next_none (hunt a plan) (laws plan) (core (tables plan g rhs parent k1 k2 place list'))
      (λ u F c. let m = member_place place u F.queued in m.1 (C.heap.tables.agree.gone u F.u_in (omega arith))))

  pub leading : {u : ℕ} → count ≢ 0 → LeastOf list u → Leading a count g rhs k1 k2 place list u
  leading n l = record { choosing = C; some = omega (arith, n); least = l }

module _ {a : Aim} {count u : ℕ} {g rhs k1 k2 place list : List ℕ} (L : Leading a count g rhs k1 k2 place list u) where
  pub chosen_in : u < area a
  chosen_in = (least_place L.choosing.heap L.some L.least).0

  module _ (words : Words k2) where
    least_here : (plan parent list' : List ℕ) → LeastCell (graph_in (frame_of a) plan) (core (tables plan g rhs parent k1 k2 place list')) (area a) u
    least_here plan parent list' =
        least_cell (laws L.choosing plan) (core (tables plan g rhs parent k1 k2 place list')) (area a) u chosen_in (least_of L.choosing.heap L.some L.least).member
        (λ s m q b. true≢false (sym (queue_before a plan g rhs parent k1 k2 place list' words s u b) ∙ (least_of L.choosing.heap L.some L.least).first s q))

    goes : ((plan parent list' : List ℕ) → Continues (hunt a plan) (core (tables plan g rhs parent k1 k2 place list')) u) → Chosen a g rhs k1 k2 place (Some u)
    goes f plan parent list' =
        sym (next_some (hunt a plan) (laws L.choosing plan) (core (tables plan g rhs parent k1 k2 place list')) u (least_here plan parent list') (f plan parent list'))

    -- rhs of the target is above its g
    pub chosen_over : get_or g a.target 0 < get_or rhs a.target 0 → Chosen a g rhs k1 k2 place (Some u)
    chosen_over h = goes (λ plan parent list'. inr h)

    module _ {least key : ℕ} (level : get_or rhs a.target 0 ≤ get_or g a.target 0) (stored : least ≡ method.key_number (get_or k1 u 0) (get_or k2 u 0))
        (calculated : (plan : List ℕ) → key ≡ method.key_number (method.first_key (hunt a plan) a.target (get_or rhs a.target 0)) (get_or rhs a.target 0)) where
      goal_is : (plan parent list' : List ℕ) → method.calculated_key (hunt a plan) (core (tables plan g rhs parent k1 k2 place list')) a.target ≡ key
      goal_is plan parent list' =
          let e : min (get_or g a.target 0) (get_or rhs a.target 0) ≡ get_or rhs a.target 0 = omega arith in
          rw e (sym (calculated plan))

      -- the least stored key is below the target's calculated key
      pub chosen_short : least < key → Chosen a g rhs k1 k2 place (Some u)
      chosen_short l = goes (λ plan parent list'. inl (rw (goal_is plan parent list', ← stored) l))

      -- neither: the search has ended
      pub chosen_done : key ≤ least → Chosen a g rhs k1 k2 place None
      chosen_done l plan parent list' = sym (next_none (hunt a plan) (laws L.choosing plan) T (λ v F c. not_on (same v F) c))
        where
          T : method.Tables
          T = core (tables plan g rhs parent k1 k2 place list')

          same : (v : ℕ) → LeastCell (graph_in (frame_of a) plan) (core (tables plan g rhs parent k1 k2 place list')) (area a) v → v ≡ u
          same v F =
              let p = least_one (laws L.choosing plan) (core (tables plan g rhs parent k1 k2 place list')) (area a) v F in
              let q = least_one (laws L.choosing plan) (core (tables plan g rhs parent k1 k2 place list')) (area a) u (least_here plan parent list') in
              cc

          not_on : {v : ℕ} → v ≡ u → Continues (hunt a plan) (core (tables plan g rhs parent k1 k2 place list')) v → ⊥
          not_on q (inl x) = omega (arith, goal_is plan parent list', ap (λ x. method.stored_key (core (tables plan g rhs parent k1 k2 place list')) x) q, x)
          not_on q (inr x) = omega arith
