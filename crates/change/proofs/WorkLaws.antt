-- What working a changed move in leaves.
use mathlib.Core.Path.{◌≡◌, refl, sym, ap, subst, ◌∙◌}
use mathlib.Core.Logic.{◌⊎◌, inl, inr, ◌≢◌}
use mathlib.Core.List.{List}
use Prim.{Unit, tt}
use Prim.Native.Nat.{ℕ, ◌+◌, ◌≤◌, ◌<◌}
use native.Mathlib.Omega.{arith}
use native.Mathlib.Decide.{ℕ_discrete, dec_lt}
use lib.ListN.{get_or}
use Rattle.method.specs.Numbers.{infinite}
use Rattle.method.specs.Graph.{Hunt}
use Rattle.method.specs.Tables as method
use Rattle.method.specs.Session.{move_changed}
use Rattle.decide.proofs.ChooseLaws.{choose_is, choose_yes, choose_no}
use Rattle.plan.specs.Costs.{shut, IsByte, IsCost, with_byte, Obeys}
use Rattle.plan.specs.Reached.{At}
use Rattle.plan.specs.declared.Spot.{Spot}
use Rattle.plan.proofs.CellLaws.{enters}
use Rattle.plan.proofs.MoveLaws.{cost_of}
use Rattle.plan.proofs.ChangeLaws.{changed_obeys}
use Rattle.tables.specs.declared.Session.{Session}
use Rattle.tables.specs.declared.Ahead.{Ahead}
use Rattle.tables.specs.Lent.{Tables, lent, frame, cells, floor, graph, core}
use Rattle.entries.specs.declared.Aim.{Aim}
use Rattle.entries.specs.declared.Asked.{Asked}
use Rattle.std.specs.Prelude.{Option, Some, None}
use Rattle.entries.specs.Aims.{AimOf, hunt, most_g, most_rhs}
use Rattle.entries.specs.Became.{obeyed, Taking, Taken, KeptIn}
use Rattle.entries.proofs.AimLaws.{ready_of, became_of}
use Rattle.entries.proofs.SmallLaws.{sound_small_g, sound_small_rhs, sound_held}
use Rattle.entries.proofs.FoundLaws.{taking, anew_small}
use Rattle.change.specs.Refusals.{Workable}
use Rattle.change.specs.Effects.{Touches, Deciding, Asks, keeps, falls, rises}
use Rattle.change.specs.Promise.{with_plan, replanned, entered_cell, back_code, old_cost, method_change, WorkedIn}

-- what takes nothing keeps
pub none_unless : {r : Option Asked} → ((x : Asked) → r ≡ Some x → ⊥) → r ≡ None
none_unless {r = None} n = refl
none_unless {r = Some x} n = absurd (n x refl)

-- ---- the method's change, case by case

module _ (H : Hunt) (T : method.Tables) (v k u old new : ℕ) where
  change_kept : (Touches H.hunter T.g T.rhs T.parent v k u old new → ⊥) → move_changed H T v k u old new ≡ T
  unfolding move_changed
  change_kept n =
      choose_is Q _ (λ _. refl)
      (λ nv. choose_is Q _ (λ f. choose_is Q _ (λ l. absurd (n (nv, inl (f, l)))) (λ _. refl))
      (λ _. choose_is Q _ (λ r. choose_is Q _ (λ e. absurd (n (nv, inr (r, e)))) (λ _. refl)) (λ _. refl)))
    where
      Q : method.Tables → Type 0
      Q E = E ≡ T

  module _ (n : v ≢ H.hunter) where
    change_falls : new < old → method.g_at T u + new < method.rhs_at T v → move_changed H T v k u old new ≡ method.set_right H (method.with_rhs T v (method.g_at T u + new) k) v
    unfolding move_changed
    change_falls f l =
        choose_no (ℕ_discrete v H.hunter) _ _ n ∙ choose_yes (dec_lt new old) _ _ f ∙ choose_yes (dec_lt (method.g_at T u + new) (method.rhs_at T v)) _ _ l

    change_rises : old < new → method.parent_at T v ≡ k
        → move_changed H T v k u old new ≡ method.set_right H (method.with_rhs T v (method.anew H.graph T.g v).sum (method.anew H.graph T.g v).code) v
    unfolding move_changed method.found_anew
    change_rises r e =
        choose_no (ℕ_discrete v H.hunter) _ _ n ∙ choose_no (dec_lt new old) _ _ (λ f. omega arith) ∙ choose_yes (dec_lt old new) _ _ r
        ∙ choose_yes (ℕ_discrete (method.parent_at T v) k) _ _ e

byte_le : {c : ℕ} → IsByte c → c ≤ shut
byte_le (inl o) = omega (arith, o.1)
byte_le (inr e) = omega arith

-- The plan's hunt after the change, and what the change asks, where v is the cell entered.
abbrev hunt_after : Session → Tables → ℕ → ℕ → ℕ → Hunt
hunt_after s t u d cost = record { graph = graph s (with_plan t (replanned s t u d cost)); hunter = s.origin; target = s.goal; km = s.km }

abbrev Asking : Session → Tables → ℕ → ℕ → ℕ → ℕ → Option Asked → Type 0
Asking s t u d cost v r = Asks s (replanned s t u d cost) t.g t.rhs t.parent v (back_code d) u (old_cost s t u d) cost r

-- What is asked concerns v, leaves room for a sum, and is asked only of a cell that is touched.
abbrev Settled : Session → Tables → ℕ → ℕ → ℕ → ℕ → Option Asked → Type 0
Settled s t u d cost v None = Unit {0}
Settled s t u d cost v (Some x) = (x.cell ≡ v) × ((x.found.rhs ≡ infinite) ⊎ (x.found.rhs ≤ most_rhs)) × Touches s.origin t.g t.rhs t.parent v (back_code d) u (old_cost s t u d) cost

module _ {s : Session} {t : Tables} {u d cost : ℕ} (W : Workable s t u d cost) where
  -- ---- before the change

  pub entered_in : {v : ℕ} → v ≡ entered_cell s u d → v < cells s
  entered_in e = omega (arith, e, (enters W.sound.plan.size.wide W.stays_in).inside)

  obeys_after : Obeys (with_byte (floor s t.plan) u d cost)
  obeys_after = changed_obeys (floor s t.plan) W.sound.plan u d cost W.cell_in W.direction W.stays_in W.byte

  pub deciding : {v : ℕ} → v ≡ entered_cell s u d → Deciding s (replanned s t u d cost) t.g t.rhs t.parent v u
  deciding e = record {
    findable = record { obeys = obeys_after; long_g = W.sound.numbers.sized.g; small_g = sound_small_g W.sound; inside = entered_in e };
    long_rhs = W.sound.numbers.sized.rhs;
    long_parent = W.sound.numbers.sized.parent;
    cell_in = W.cell_in;
  }

  -- ---- after it

  module _ {v : ℕ} (ev : v ≡ entered_cell s u d) where
    touches_at : Touches s.origin t.g t.rhs t.parent v (back_code d) u (old_cost s t u d) cost
        → Touches s.origin t.g t.rhs t.parent (entered_cell s u d) (back_code d) u (old_cost s t u d) cost
    touches_at = subst (λ x. Touches s.origin t.g t.rhs t.parent x (back_code d) u (old_cost s t u d) cost) ev

    -- the method does what is asked
    asked_is : {r : Option Asked} → Asking s t u d cost v r → obeyed (hunt_after s t u d cost) (core t) r ≡ method_change s t u d cost
    asked_is A = sym (at A) ∙ ap (λ x. move_changed (hunt_after s t u d cost) (core t) x (back_code d) u (old_cost s t u d) cost) ev
      where
        at : {r : Option Asked} → Asking s t u d cost v r → move_changed (hunt_after s t u d cost) (core t) v (back_code d) u (old_cost s t u d) cost ≡ obeyed (hunt_after s t u d cost) (core t) r
        at (keeps n) = change_kept (hunt_after s t u d cost) (core t) v (back_code d) u (old_cost s t u d) cost n
        at (falls n f l) = change_falls (hunt_after s t u d cost) (core t) v (back_code d) u (old_cost s t u d) cost n f l
        at (rises n f l) = change_rises (hunt_after s t u d cost) (core t) v (back_code d) u (old_cost s t u d) cost n f l

    sum_small : get_or t.g u 0 + cost < get_or t.rhs v 0 → IsCost cost → (get_or t.g u 0 ≡ infinite) ⊎ (get_or t.g u 0 ≤ most_g) → (get_or t.rhs v 0 ≡ infinite) ⊎ (get_or t.rhs v 0 ≤ most_rhs)
        → (get_or t.g u 0 + cost ≡ infinite) ⊎ (get_or t.g u 0 + cost ≤ most_rhs)
    sum_small l o (inl x) (inl y) = absurd (omega arith)
    sum_small l o (inl x) (inr y) = absurd (omega arith)
    sum_small l o (inr x) y = inr (omega (arith, o.1))

    settled : {r : Option Asked} → Asking s t u d cost v r → Settled s t u d cost v r
    settled (keeps n) = tt
    settled (falls n f l) =
        let c = cost_of W.byte (λ x. omega (arith, f, byte_le (W.sound.plan.bytes u d W.cell_in W.direction))) in
        (refl, sum_small l c (sound_small_g W.sound u) (sound_small_rhs W.sound v), (n, inl (f, l)))
    settled (rises n f l) = (refl, anew_small (frame s) (replanned s t u d cost) obeys_after t.g (sound_small_g W.sound) v, (n, inr (f, l)))

-- A change that is worked in: no rule refuses it, v is the cell entered, k the move's code there, and r what it asks.
module _ {s : Session} (plan g : List ℕ) (t : Ahead) {u d cost v k : ℕ} {r : Option Asked} (W : Workable s (lent plan g t) u d cost) (ev : v ≡ entered_cell s u d) (ek : k ≡ back_code d)
    (A : Asks s (replanned s (lent plan g t) u d cost) g t.rhs.now t.parent.now v k u (old_cost s (lent plan g t) u d) cost r) where
  asks : Asking s (lent plan g t) u d cost v r
  asks = subst (λ x. Asks s (replanned s (lent plan g t) u d cost) g t.rhs.now t.parent.now v x u (old_cost s (lent plan g t) u d) cost r) ek A

  as_method : obeyed (hunt_after s (lent plan g t) u d cost) (core (lent plan g t)) r ≡ method_change s (lent plan g t) u d cost
  as_method = asked_is W ev asks

  -- the cell keeps its numbers: only the byte changed
  pub kept_worked : r ≡ None → WorkedIn s (lent plan g t) u d cost s.count (lent (replanned s (lent plan g t) u d cost) g t)
  kept_worked q = record {
    plan = refl;
    is = ap (obeyed (hunt_after s (lent plan g t) u d cost) (core (lent plan g t))) (sym q) ∙ as_method;
    heap = W.sound.heap;
    untouched = λ _. (refl, refl);
    kept = λ _ _ _. (refl, refl, refl);
  }

  module _ {x : Asked} (q : r ≡ Some x) where
    here : Settled s (lent plan g t) u d cost v (Some x)
    here = subst (Settled s (lent plan g t) u d cost v) q (settled W ev asks)

    -- it can take what is asked
    pub asked_taking : {a : Aim} {at : Spot} → AimOf s a → At s.width x.cell at → Taking a s.count x.cell at x.found g t
    asked_taking {a} O stands =
        taking
        (ready_of O
        (record {
          ready = record {
            aimed = record {
              obeys = obeys_after W;
              hunter_in = W.sound.numbers.origin_in;
              target_in = W.sound.numbers.goal_in;
              target_at = O.target_at;
              km_le = omega (arith, W.sound.numbers.km_le, W.sound.numbers.searches_le);
            };
            held = sound_held W.sound (replanned s (lent plan g t) u d cost) a.target_at;
            small_g = sound_small_g W.sound;
            small_rhs = sound_small_rhs W.sound;
          };
          inside = entered_in W (here.0 ∙ ev);
          stands = stands;
        }))
        here.1

    -- and took it
    pub taken_worked : {a : Aim} {count : ℕ} {t' : Ahead} → AimOf s a → Taken a x.cell x.found g t count t' → KeptIn s.count t count t'
        → WorkedIn s (lent plan g t) u d cost count (lent (replanned s (lent plan g t) u d cost) g t')
    taken_worked {a} {count} {t'} O T K =
        let p = replanned s (lent plan g t) u d cost in
        let B = became_of {t = lent p g t'} (λ y. obeyed (hunt y p) (core (lent plan g t)) (Some x)) O (T.became p) in
        record {
          plan = refl;
          is = B.is ∙ ap (obeyed (hunt_after s (lent plan g t) u d cost) (core (lent plan g t))) (sym q) ∙ as_method;
          heap = B.heap;
          untouched = λ n. absurd (n (touches_at W ev here.2));
          kept = K;
        }
