-- The steps over the tables are the method's.
use mathlib.Core.Path.{◌≡◌, refl, sym, ap, subst, ◌∙◌}
use mathlib.Core.Bool.{Bool, true, false}
use mathlib.Core.Logic.{◌⊎◌, ⊎_elim, ◌≢◌}
use mathlib.Core.List.{List}
use Rattle.std.proofs.Common.{Option, Some}
use Prim.Native.Nat.{ℕ, ◌+◌, ◌≤◌, ◌<◌}
use native.Mathlib.Numerals.{add-one}
use native.Mathlib.Omega.{arith}
use native.Mathlib.Decide.{ℕ_discrete, dec_lt}
use lib.Dec.{ltb}
use lib.ListN.{get_or, set, length, length-set}
use lib.Seq.{get_or-set_same}
use borrow.Author.Tests.{ltb-true, ltb-false}
use Rattle.decide.proofs.ChooseLaws.{choose_yes, choose_no}
use Rattle.method.specs.Numbers.{infinite}
use Rattle.method.specs.Graph.{Move, Hunt}
use Rattle.method.specs.Tables as method
use Rattle.method.specs.Steps.{relaxed_all, lowered, renewed_all, raised, put_back, lower, raise, kind_of, stepped_by, stepped}
use Rattle.method.proofs.Appending.{relaxed_all_append, renewed_all_append}
use Rattle.plan.specs.Directions.{row_step, column_step}
use Rattle.plan.specs.Grid.{out_by, up_to}
use Rattle.plan.specs.Reached.{At, Placed}
use Rattle.plan.specs.declared.Spot.{Spot}
use Rattle.plan.proofs.CellLaws.{stands_row, stands_column}
use Rattle.plan.proofs.MoveLaws.{placed, moved_at}
use Rattle.tables.specs.declared.Ahead.{Ahead}
use Rattle.tables.specs.Lent.{Tables, tables, core}
use Rattle.entries.specs.declared.Aim.{Aim}
use Rattle.entries.specs.Aims.{area, floor, hunt, most_g, most_rhs, Held, Small, Ready, ReadyAt}
use Rattle.entries.specs.Became.{Became, Taking}
use Rattle.entries.proofs.FoundLaws.{small_set, small_more, taking, became_as}
use Rattle.entries.specs.declared.Asked.{Asked}
use Rattle.choices.specs.Moves.{Enters, Fair}
use Rattle.steps.specs.Ready.{Facing, Obeying, Lowering}

-- ---- what holds of the tables after an inner function

pub became_held : {a : Aim} {count : ℕ} {t : Tables} {m : method.Tables} → method.Sized (area a) m → Became a count t m → Held a count t
became_held {a} z B = record { sized = subst (method.Sized (area a)) (sym B.is) z; heap = B.heap }

-- what holds after d directions of a step, where the method has m
pub record Looked (a : Aim) (n d : ℕ) (t : Tables) (m : method.Tables) : Type 0 where
  pub few : d ≤ 4
  pub is : core t ≡ m
  pub ready : Ready a most_rhs n t

-- tables of an inner function which kept plan and g, and left rhs that leave room for a sum
pub ready_after : {a : Aim} {count n : ℕ} {plan g rhs parent k1 k2 place list rhs' parent' k1' k2' place' list' : List ℕ} {m : method.Tables}
    → Ready a most_rhs count (tables plan g rhs parent k1 k2 place list) → method.Sized (area a) m → Became a n (tables plan g rhs' parent' k1' k2' place' list') m → Small most_rhs rhs'
    → Ready a most_rhs n (tables plan g rhs' parent' k1' k2' place' list')
ready_after R z B S = record { aimed = R.aimed; held = became_held z B; small_g = R.small_g; small_rhs = S }

-- g of u set, as lower and raise do first: from now on rhs may grow by a cost
pub g_set : {a : Aim} {count u : ℕ} {at : Spot} {plan g rhs parent k1 k2 place list : List ℕ} (v : ℕ) → ReadyAt a most_g count u at (tables plan g rhs parent k1 k2 place list)
    → (v ≡ infinite) ⊎ (v ≤ most_g) → ReadyAt a most_rhs count u at (tables plan (set g u v) rhs parent k1 k2 place list)
g_set {u = u} {g = g} {rhs = rhs} v S h =
    let R = S.ready in
    let z = R.held.sized in
    record {
      ready = record {
        aimed = R.aimed;
        held = record { sized = record { g = length-set g u v ∙ z.g; rhs = z.rhs; parent = z.parent; k1 = z.k1; k2 = z.k2; queued = z.queued }; heap = R.held.heap };
        small_g = small_set g u v (omega (arith, z.g, S.inside)) h R.small_g;
        small_rhs = small_more rhs (omega arith) R.small_rhs;
      };
      inside = S.inside;
      stands = S.stands;
    }

-- ---- the cell entered

-- the spot moved to can be computed, and is the cell's
module _ {a : Aim} {count u d s : ℕ} {at : Spot} {t : Tables} (F : Facing a count u at d t) (E : Enters a u d s) where
  pub move_asks : ((d < 4) × Placed at) × ((1 ≤ at.row + row_step d) × (1 ≤ at.column + column_step d))
  move_asks =
      let w = F.here.stands in
      let q = placed F.here.ready.aimed.obeys.size w F.here.inside in
      ((F.direction, record { row = q.0; column = q.1 }), (omega (arith, E.stays_in.north, stands_row w), omega (arith, E.stays_in.west, stands_column w)))

  pub entered_ready : {to : Spot} → (to.row + 1 ≡ at.row + row_step d) × (to.column + 1 ≡ at.column + column_step d) → ReadyAt a most_rhs count s to t
  entered_ready {to} e = record {
    ready = F.here.ready;
    inside = E.inside;
    stands = subst (λ x. At a.width x to) (sym E.cell) (moved_at {to = to} F.here.ready.aimed.obeys.size.wide F.here.stands E.stays_in e);
  }

-- ---- what is asked of it is done

module _ {a : Aim} {count : ℕ} {at : Spot} {d : ℕ} {r : Option Asked} {g : List ℕ} {t : Ahead} {x : Asked} (O : Obeying a count at d r g t) (e : r ≡ Some x) where
  fair : Fair a O.u d (Some x)
  fair = subst (Fair a O.u d) e O.fair

  pub obeying_move : ((d < 4) × Placed at) × ((1 ≤ at.row + row_step d) × (1 ≤ at.column + column_step d))
  obeying_move = move_asks O.facing fair.0

  pub obeying_take : {to : Spot} → (to.row + 1 ≡ at.row + row_step d) × (to.column + 1 ≡ at.column + column_step d) → Taking a count x.cell to x.found g t
  obeying_take w = taking (entered_ready O.facing fair.0 w) fair.1

-- ---- the directions of a step, one after the other

pub relaxed_more : (H : Hunt) (v : ℕ) (T : method.Tables) (m : ℕ → List Move) (d : ℕ) {U E : method.Tables}
    → U ≡ relaxed_all H v T (up_to m d) → E ≡ relaxed_all H v U (m d) → E ≡ relaxed_all H v T (up_to m (d + 1))
unfolding up_to
relaxed_more H v T m d e q = q ∙ rw (e, add-one, relaxed_all_append) refl

pub renewed_more : (H : Hunt) (T : method.Tables) (m : ℕ → List Move) (d : ℕ) {U E : method.Tables}
    → U ≡ renewed_all H T (up_to m d) → E ≡ renewed_all H U (m d) → E ≡ renewed_all H T (up_to m (d + 1))
unfolding up_to
renewed_more H T m d e q = q ∙ rw (e, add-one, renewed_all_append) refl

pub relaxed_first : (H : Hunt) (v : ℕ) (T : method.Tables) (m : ℕ → List Move) → T ≡ relaxed_all H v T (up_to m 0)
unfolding up_to relaxed_all
relaxed_first H v T m = refl

pub renewed_first : (H : Hunt) (T : method.Tables) (m : ℕ → List Move) → T ≡ renewed_all H T (up_to m 0)
unfolding up_to renewed_all
renewed_first H T m = refl

-- ---- lower

-- rhs below g: it is finite
pub lower_finite : {a : Aim} {count u : ℕ} {at : Spot} {plan g rhs parent k1 k2 place list : List ℕ} → Lowering a count u at (tables plan g rhs parent k1 k2 place list) → get_or rhs u 0 ≤ most_g
lower_finite {u = u} {g = g} {rhs = rhs} L =
    let R = L.here.ready in
    ⊎_elim
    (λ (e : get_or rhs u 0 ≡ infinite). absurd (⊎_elim (λ (f : get_or g u 0 ≡ infinite). omega (arith, L.over)) (λ (f : get_or g u 0 ≤ most_g). omega (arith, L.over)) (R.small_g u)))
    (λ (h : get_or rhs u 0 ≤ most_g). h)
    (R.small_rhs u)

module _ (a : Aim) (u : ℕ) (plan g rhs parent k1 k2 place list : List ℕ) where
  -- u's g is its rhs, so it leaves the queue
  left_queue : u < length g → method.set_right (hunt a plan) (core (tables plan (set g u (get_or rhs u 0)) rhs parent k1 k2 place list)) u
      ≡ method.leave (method.with_g (core (tables plan g rhs parent k1 k2 place list)) u (get_or rhs u 0)) u
  unfolding method.set_right
  left_queue l = choose_yes (ℕ_discrete (get_or (set g u (get_or rhs u 0)) u 0) (get_or rhs u 0)) _ _ (get_or-set_same g u (get_or rhs u 0) 0 l)

  pub lower_is : {count d : ℕ} {T : method.Tables} {t : Tables} → u < length g → d ≡ 4
      → T ≡ method.set_right (hunt a plan) (core (tables plan (set g u (get_or rhs u 0)) rhs parent k1 k2 place list)) u
      → core t ≡ relaxed_all (hunt a plan) (get_or rhs u 0) T (up_to (out_by (floor a plan) u) d)
      → Held a count t → Became a count t (lowered (hunt a plan) (core (tables plan g rhs parent k1 k2 place list)) u)
  unfolding lowered
  lower_is {d = d} l four e q H = record { is = q ∙ rw (four, e, left_queue l) refl; heap = H.heap }

-- ---- raise

pub raise_is : (a : Aim) (u : ℕ) {count d : ℕ} (plan g rhs parent k1 k2 place list : List ℕ) {U : method.Tables} {t : Tables} → d ≡ 4
    → U ≡ renewed_all (hunt a plan) (core (tables plan (set g u infinite) rhs parent k1 k2 place list)) (up_to (out_by (floor a plan) u) d)
    → Became a count t (method.set_right (hunt a plan) U u) → Became a count t (raised (hunt a plan) (core (tables plan g rhs parent k1 k2 place list)) u)
unfolding raised
raise_is a u plan g rhs parent k1 k2 place list four e B = became_as B (rw (e, four) refl)

-- ---- one step

module _ (H : Hunt) (T : method.Tables) (u : ℕ) where
  -- the entry of a queued cell set right is the cell put back
  pub put_back_is : {r : Bool} → r ≡ ltb (method.stored_key T u) (method.calculated_key H T u) → r ≡ true → method.g_at T u ≢ method.rhs_at T u → method.set_right H T u ≡ stepped H T u
  unfolding stepped stepped_by kind_of method.set_right
  put_back_is e t n =
      let kind : kind_of H T u ≡ put_back = choose_yes (dec_lt (method.stored_key T u) (method.calculated_key H T u)) _ _ (ltb-true _ _ (sym e ∙ t)) in
      choose_no (ℕ_discrete (method.g_at T u) (method.rhs_at T u)) _ _ n ∙ sym (ap (λ k. stepped_by k H T u) kind)

  pub lowered_is : {r : Bool} → r ≡ ltb (method.stored_key T u) (method.calculated_key H T u) → r ≡ false → method.rhs_at T u < method.g_at T u → lowered H T u ≡ stepped H T u
  unfolding stepped stepped_by kind_of
  lowered_is e f l =
      let kind : kind_of H T u ≡ lower =
      choose_no (dec_lt (method.stored_key T u) (method.calculated_key H T u)) _ _ (λ x. omega (arith, x, ltb-false (method.stored_key T u) (method.calculated_key H T u) (sym e ∙ f)))
      ∙ choose_yes (dec_lt (method.rhs_at T u) (method.g_at T u)) _ _ l in
      sym (ap (λ k. stepped_by k H T u) kind)

  pub raised_is : {r : Bool} → r ≡ ltb (method.stored_key T u) (method.calculated_key H T u) → r ≡ false → method.g_at T u ≤ method.rhs_at T u → raised H T u ≡ stepped H T u
  unfolding stepped stepped_by kind_of
  raised_is e f l =
      let kind : kind_of H T u ≡ raise =
      choose_no (dec_lt (method.stored_key T u) (method.calculated_key H T u)) _ _ (λ x. omega (arith, x, ltb-false (method.stored_key T u) (method.calculated_key H T u) (sym e ∙ f)))
      ∙ choose_no (dec_lt (method.rhs_at T u) (method.g_at T u)) _ _ (λ x. omega arith) in
      sym (ap (λ k. stepped_by k H T u) kind)
