-- The check's rules as the code tests them, return by return.
use mathlib.Core.Path.{◌≡◌, sym, ◌∙◌}
use mathlib.Core.Bool.{Bool, not}
use mathlib.Core.Logic.{◌≢◌}
use mathlib.Core.List.{List}
use Prim.Native.Nat.{ℕ, ◌+◌, ◌*◌, ◌≤◌, ◌<◌, min}
use native.Mathlib.Omega.{arith}
use lib.Dec.{eqb}
use lib.ListN.{get_or}
use Rattle.decide.specs.Decides.{Decides}
use Rattle.decide.proofs.DecideLaws.{decides_eq, decides_ne, decides_as}
use Rattle.method.specs.Tables.{NotAbove}
use Rattle.queue.specs.Rules.{QueuedRule}
use Rattle.method.specs.Numbers.{most_cells}
use Rattle.plan.specs.Directions.{opposite, row_step, column_step}
use Rattle.plan.specs.Cells.{Stays, entered, estimate}
use Rattle.plan.specs.Costs.{plan_of, shut}
use Rattle.plan.specs.Reached.{At, between}
use Rattle.plan.specs.declared.Spot.{Spot}
use Rattle.plan.proofs.CellLaws.{stands_row, stands_column, entered_sum, enters}
use Rattle.plan.proofs.MoveLaws.{area}
use Rattle.tables.specs.declared.Session.{Session}
use Rattle.tables.specs.Asked.{WayAsked}
use Rattle.tables.specs.Rules.{MoveRule, WayRule, WaitingRule}

-- a cell and direction
module _ {width height u d : ℕ} (bytes rhs parent : List ℕ) (hunter x : ℕ) {b : ℕ} (eb : b ≡ get_or bytes (4 * u + d) 0) where
  pub way_open_outward : (Stays width height u d → ⊥) → b ≢ shut → Decides (eqb b shut) (WayRule (plan_of width height bytes) rhs parent hunter x u d)
  way_open_outward off n = decides_eq b shut (λ e. absurd (n e)) (λ W. eb ∙ (W.leaves off).0)

  pub way_outward : (Stays width height u d → ⊥) → b ≡ shut → Decides (not (eqb (get_or parent u 0) (d + 1))) (WayRule (plan_of width height bytes) rhs parent hunter x u d)
  way_outward off e =
      decides_ne (get_or parent u 0) (d + 1)
      (λ z. record { leaves = λ _. (sym eb ∙ e, z); stays_in = λ m. absurd (off m) })
      (λ W. (W.leaves off).1)

  pub way_inside : Stays width height u d → {v : ℕ} → v ≡ entered width u d
      → {a : Bool} → Decides a (MoveRule hunter b x v (get_or rhs v 0) (get_or parent v 0) (opposite d + 1)) → Decides a (WayRule (plan_of width height bytes) rhs parent hunter x u d)
  way_inside m ev D =
      decides_as D
      (λ M. record { leaves = λ off. absurd (off m); stays_in = λ _. rw (← ev, ← eb) M })
      (λ W. rw (← ev, ← eb) at (W.stays_in m))

-- the cell that a move enters can be computed, and is in the plan
module _ {width height u d : ℕ} {plan rhs parent : List ℕ} {at : Spot} (W : WayAsked width height plan rhs parent u at d) (stays : Stays width height u d) where
  pub entered_asks : (width ≤ 64) × (u < most_cells) × (width + 1 ≤ u + row_step d * width + column_step d)
  entered_asks = (W.size.narrow, omega (arith, W.inside, area W.size), omega (arith, entered_sum width u d W.size.wide stays.north stays.west))

  pub entered_in : {v : ℕ} → v ≡ entered width u d → v < height * width
  entered_in e = omega (arith, e, (enters W.size.wide stays).inside)

-- the estimate of two cells is that of their spots
pub estimate_at : {width s t : ℕ} {a b : Spot} → At width s a → At width t b → between a b ≡ estimate width s t
unfolding estimate
estimate_at x y = simp (stands_row x, stands_column x, stands_row y, stands_column y)

-- a cell that has its place in the queue
pub waiting_by_key : {s : Session} {k1 k2 place list : List ℕ} {x y u e : ℕ} {r : Bool} → e ≡ estimate s.width u s.goal → QueuedRule s.count place list u
    → Decides r (NotAbove (get_or k1 u 0) (get_or k2 u 0) (min x y + e + s.km) (min x y))
    → Decides r (WaitingRule s k1 k2 place list x y u)
waiting_by_key q w D = decides_as D (λ E. record { queued = w; key = rw q at E }) (λ W. rw q W.key)
