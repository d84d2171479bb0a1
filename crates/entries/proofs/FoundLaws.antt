-- Tables that a number was set in, and a cell found anew.
use mathlib.Core.Path.{◌≡◌, sym, ap, subst, ◌∙◌}
use mathlib.Core.Logic.{◌⊎◌, inl, inr, ⊎_elim, ◌≢◌}
use mathlib.Core.List.{List}
use Rattle.std.proofs.Common.{Some}
use Prim.Native.Nat.{ℕ, ◌+◌, ◌≤◌, ◌<◌, min}
use native.Mathlib.Omega.{arith}
use native.Mathlib.Decide.{ℕ_discrete}
use lib.ListN.{get_or, set, length, length-set}
use lib.Seq.{get_or-set_same, get_or-set_other}
use Rattle.method.specs.Numbers.{infinite, most_estimate}
use Rattle.method.specs.Graph.{GraphLaws}
use Rattle.method.specs.Tables as method
use Rattle.method.proofs.LeastSums.{anew_least}
use Rattle.plan.specs.Costs.{Obeys}
use Rattle.plan.specs.declared.Spot.{Spot}
use Rattle.tables.specs.declared.Ahead.{Ahead}
use Rattle.tables.specs.Lent.{Tables, Frame, tables, lent, floor_in, graph_in}
use Rattle.tables.proofs.FrameLaws.{graph_in_laws}
use Rattle.entries.specs.declared.Aim.{Aim}
use Rattle.entries.specs.declared.Found.{Found}
use Rattle.entries.specs.Aims.{area, frame_of, hunt, most_g, most_rhs, most_km, Small, Findable, Ready, ReadyAt}
use Rattle.entries.specs.Became.{Became, Sited, Entering, obeyed, Taking, found_of}

-- A number set in a table of small numbers.
pub small_set : (l : List ℕ) (i x : ℕ) {bound : ℕ} → i < length l → (x ≡ infinite) ⊎ (x ≤ bound) → Small bound l → Small bound (set l i x)
small_set l i x {bound} li h S k = at (ℕ_discrete k i)
  where
    at : Dec (k ≡ i) → (get_or (set l i x) k 0 ≡ infinite) ⊎ (get_or (set l i x) k 0 ≤ bound)
    at (yes e) = rw (e, get_or-set_same l i x 0 li) h
    at (no n) = rw (get_or-set_other l i k x 0 n) (S k)

-- A smaller bound is a bound.
pub small_more : (l : List ℕ) {bound more : ℕ} → bound ≤ more → Small bound l → Small more l
small_more l {bound} {more} h S k = ⊎_elim (λ (e : get_or l k 0 ≡ infinite). inl e) (λ (x : get_or l k 0 ≤ bound). inr (omega arith)) (S k)

-- A sum found anew is infinite or a g and a cost.
pub anew_small : (f : Frame) (plan : List ℕ) → Obeys (floor_in f plan) → (g : List ℕ) → Small most_g g → (s : ℕ) → ((method.anew (graph_in f plan) g s).sum ≡ infinite) ⊎
    ((method.anew (graph_in f plan) g s).sum ≤ most_rhs)
anew_small f plan O g S s = at (anew_least (graph_in f plan) g s).reached
  where
    L : GraphLaws (graph_in f plan)
    L = graph_in_laws f plan O.size

    by : method.Via (graph_in f plan) (λ w. get_or g w 0) s (method.anew (graph_in f plan) g s).sum (method.anew (graph_in f plan) g s).code → (method.anew (graph_in f plan) g s).sum < infinite
        → ((method.anew (graph_in f plan) g s).sum ≡ infinite) ⊎ ((method.anew (graph_in f plan) g s).sum ≤ most_rhs)
    by v l =
        let c = L.cost_le s (method.anew (graph_in f plan) g s).code v.from v.cost v.comes in
        ⊎_elim (λ (e : get_or g v.from 0 ≡ infinite). absurd (omega (arith, v.sum))) (λ (h : get_or g v.from 0 ≤ most_g). inr (omega (arith, v.sum, c))) (S v.from)

    at : method.Reached (graph_in f plan) (λ w. get_or g w 0) s (method.anew (graph_in f plan) g s).sum (method.anew (graph_in f plan) g s).code
        → ((method.anew (graph_in f plan) g s).sum ≡ infinite) ⊎ ((method.anew (graph_in f plan) g s).sum ≤ most_rhs)
    at (inl e) = inl e.0
    at (inr x) = by x.1 x.0

-- The key of a cell with small numbers fits.
pub key_fits : (a : Aim) (x y : ℕ) → (x ≡ infinite) ⊎ (x ≤ most_g) → (y ≡ infinite) ⊎ (y ≤ most_rhs) → a.km ≤ most_km → x ≢ y → min x y + most_estimate + a.km < infinite
key_fits a x y (inl e) (inl f) l n = absurd (n (e ∙ sym f))
key_fits a x y (inl e) (inr f) l n = omega arith
key_fits a x y (inr e) (inl f) l n = omega arith
key_fits a x y (inr e) (inr f) l n = omega arith

-- The sums of a cell can be looked at.
pub findable : {a : Aim} {most count cell : ℕ} {plan g rhs parent k1 k2 place list : List ℕ} → Ready a most count (tables plan g rhs parent k1 k2 place list) → cell < area a
    → Findable a.width a.height plan g cell
findable R l = record { obeys = R.aimed.obeys; long_g = R.held.sized.g; small_g = R.small_g; inside = l }

-- The key of the cell can be calculated.
pub sited : {a : Aim} {most count cell : ℕ} {at : Spot} {plan g rhs parent k1 k2 place list : List ℕ} → ReadyAt a most count cell at (tables plan g rhs parent k1 k2 place list) → Sited a cell at g rhs
sited S =
    let R = S.ready in
    record {
      size = R.aimed.obeys.size;
      target_in = R.aimed.target_in;
      target_at = R.aimed.target_at;
      inside = S.inside;
      stands = S.stands;
      long_g = R.held.sized.g;
      long_rhs = R.held.sized.rhs;
    }

-- Its entry can be set right.
pub entering : {a : Aim} {count cell : ℕ} {at : Spot} {plan g rhs parent k1 k2 place list : List ℕ} → ReadyAt a most_rhs count cell at (tables plan g rhs parent k1 k2 place list)
    → Entering a count cell at g rhs k1 k2 place list
entering {a} {cell = cell} S =
    let R = S.ready in
    record { sited = sited S; heap = R.held.heap; fits = key_fits a _ _ (R.small_g cell) (R.small_rhs cell) R.aimed.km_le }

-- The tables with one cell's rhs and parent set, to a number that leaves room for a sum.
pub ready_set : {a : Aim} {count cell : ℕ} {at : Spot} {plan g rhs parent k1 k2 place list : List ℕ} (r p : ℕ) → ReadyAt a most_rhs count cell at (tables plan g rhs parent k1 k2 place list)
    → (r ≡ infinite) ⊎ (r ≤ most_rhs) → ReadyAt a most_rhs count cell at (tables plan g (set rhs cell r) (set parent cell p) k1 k2 place list)
ready_set {cell = cell} {rhs = rhs} {parent = parent} r p S h =
    let R = S.ready in
    let z = R.held.sized in
    record {
      ready = record {
        aimed = R.aimed;
        held = record {
          sized = record { g = z.g; rhs = length-set rhs cell r ∙ z.rhs; parent = length-set parent cell p ∙ z.parent; k1 = z.k1; k2 = z.k2; queued = z.queued };
          heap = R.held.heap;
        };
        small_g = R.small_g;
        small_rhs = small_set rhs cell r (omega (arith, z.rhs, S.inside)) h R.small_rhs;
      };
      inside = S.inside;
      stands = S.stands;
    }

-- .. so the cell can take it.
pub taking : {a : Aim} {count cell : ℕ} {at : Spot} {f : Found} {plan g : List ℕ} {t : Ahead} → ReadyAt a most_rhs count cell at (lent plan g t)
    → (f.rhs ≡ infinite) ⊎ (f.rhs ≤ most_rhs) → Taking a count cell at f g t
taking {f = f} S h = record { entering = entering (ready_set f.rhs f.parent S h); long_parent = S.ready.held.sized.parent }

pub became_as : {a : Aim} {count : ℕ} {t : Tables} {m m' : method.Tables} → Became a count t m → m ≡ m' → Became a count t m'
became_as B e = record { is = B.is ∙ e; heap = B.heap }

-- A cell found anew takes what `anew` answered.
pub anew_is : (a : Aim) {f : Found} (plan : List ℕ) (T : method.Tables) (cell : ℕ) → found_of f ≡ method.anew (graph_in (frame_of a) plan) T.g cell
    → obeyed (hunt a plan) T (Some (record { cell = cell; found = f })) ≡ method.found_anew (hunt a plan) T cell
unfolding method.found_anew
anew_is a plan T cell e = ap (λ x. method.set_right (hunt a plan) (method.with_rhs T cell x.sum x.code) cell) e

pub found_small : (a : Aim) {cell : ℕ} {f : Found} {plan g : List ℕ} → Findable a.width a.height plan g cell → found_of f ≡ method.anew (graph_in (frame_of a) plan) g cell
    → (f.rhs ≡ infinite) ⊎ (f.rhs ≤ most_rhs)
found_small a {cell} {plan = plan} {g = g} F e =
    subst (λ x. (x ≡ infinite) ⊎ (x ≤ most_rhs)) (sym (ap (λ x. x.sum) e)) (anew_small (frame_of a) plan F.obeys g F.small_g cell)
