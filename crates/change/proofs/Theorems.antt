-- What a change's statement settles: two results that it allows are equal, the order inside the heap apart; a change that no rule refuses is done; sound tables stay sound.
use mathlib.Core.Path.{◌≡◌, sym, ap, subst, ◌∙◌}
use mathlib.Core.Logic.{⊎_elim, ◌≢◌}
use Prim.Native.Nat.{ℕ, ◌+◌, ◌*◌, ◌≤◌, ◌<◌}
use native.Mathlib.Omega.{arith}
use native.Mathlib.Decide.{ℕ_discrete}
use lib.ListN.{get_or, set}
use lib.Seq.{set-get_or}
use Rattle.std.specs.Prelude.{Ok}
use Rattle.method.specs.Sound as method_sound
use Rattle.method.proofs.Theorems as method_theorems
use Rattle.plan.specs.Costs.{Obeys}
use Rattle.plan.proofs.CellLaws.{enters}
use Rattle.plan.proofs.ChangeLaws.{changed_obeys}
use Rattle.tables.specs.declared.Session.{Session}
use Rattle.tables.specs.Lent.{Tables, frame, cells, graph_in, floor, graph, session, core, Fits}
use Rattle.tables.specs.Sound.{Sound}
use Rattle.tables.proofs.FrameLaws.{altered_in}
use Rattle.change.specs.Effects.{Touches}
use Rattle.session.specs.declared.Reply.{Reply}
use Rattle.session.specs.Promises.{Alike}
use Rattle.session.proofs.RefusalLaws.{answered, answer_is}
use Rattle.session.proofs.Theorems.{done_zero, same_reply, alike, alike_same}
use Rattle.change.specs.Refusals.{Workable}
use Rattle.change.specs.Promise.{counted, with_plan, replanned, entered_cell, back_code, old_cost, WorkedIn, Changes}
use Rattle.change.proofs.RefusalLaws.{change_number, change_granted, change_passes}

-- The answer as the code returns it.
pub change_answer : {s : Session} {t t' : Tables} {u d cost : ℕ} {r : Reply} (P : Changes s t u d cost r t') → r.answer ≡ answered P.number
change_answer {r = r} P = answer_is r.answer P.number P.answer

-- ---- a change that no rule refuses is done

pub change_done : {s : Session} {t t' : Tables} {u d cost : ℕ} {r : Reply} → Changes s t u d cost r t' → Fits (cells s) t → Workable s t u d cost → r.answer ≡ Ok tt
change_done P f w = change_answer P ∙ ap answered (change_passes P.rules f w)

-- ---- two results of one change: equal but for the order inside the heap

pub one_change : {s : Session} {t a a' : Tables} {u d cost : ℕ} {r r' : Reply} → Changes s t u d cost r a → Changes s t u d cost r' a' → (r ≡ r') × Alike r.session.count a a'
one_change {s} {a = a} {a' = a'} {r = r} {r' = r'} P Q = let x = at (ℕ_discrete P.number 0) in (same_reply x.0 (change_answer P ∙ ap answered e ∙ sym (change_answer Q)), x.1)
  where
    e : P.number ≡ Q.number
    e = change_number P.rules Q.rules

    at : Dec (P.number ≡ 0) → (r.session ≡ r'.session) × Alike r.session.count a a'
    at (yes z) =
        let p = P.done z in
        let q = Q.done (sym e ∙ z) in
        let c : core a ≡ core a' = p.1.is ∙ sym q.1.is in
        let x = alike a a' (p.1.plan ∙ sym q.1.plan) c p.1.heap q.1.heap in
        (p.0 ∙ ap (counted s) x.0 ∙ sym q.0, x.1)
    at (no n) =
        let p = P.refused n in
        let q = Q.refused (λ z. n (e ∙ z)) in
        (p.0 ∙ sym q.0, alike_same (p.1 ∙ sym q.1))

-- ---- where a change writes the byte alone

module _ {s : Session} {t t' : Tables} {u d cost : ℕ} {r : Reply} (P : Changes s t u d cost r t') where
  -- The cell entered is not written: record and tables are as they were, but for the byte.
  pub change_byte_alone : r.answer ≡ Ok tt → (Touches s.origin t.g t.rhs t.parent (entered_cell s u d) (back_code d) u (old_cost s t u d) cost → ⊥)
      → (r.session ≡ s) × (t' ≡ with_plan t (replanned s t u d cost))
  change_byte_alone e n =
      let p = P.done (done_zero P.number P.answer e) in
      let q = p.1.untouched n in
      (p.0 ∙ ap (counted s) q.0, q.1)

  -- A move into the search's hunter.
  pub change_into_hunter : r.answer ≡ Ok tt → entered_cell s u d ≡ s.origin → (r.session ≡ s) × (t' ≡ with_plan t (replanned s t u d cost))
  change_into_hunter e h = change_byte_alone e (λ x. x.0 h)

  -- A fall that gives no smaller sum.
  pub change_no_smaller_sum : r.answer ≡ Ok tt → cost < old_cost s t u d → get_or t.rhs (entered_cell s u d) 0 ≤ get_or t.g u 0 + cost → (r.session ≡ s) × (t' ≡ with_plan t (replanned s t u d cost))
  change_no_smaller_sum e f l =
      change_byte_alone e (λ x. ⊎_elim (λ (h : (cost < old_cost s t u d) × (get_or t.g u 0 + cost < get_or t.rhs (entered_cell s u d) 0)). omega (arith, h.1, l))
      (λ (h : (old_cost s t u d < cost) × (get_or t.parent (entered_cell s u d) 0 ≡ back_code d)). omega (arith, h.0, f)) x.1)

  -- A rise where u is not the parent.
  pub change_not_the_parent : r.answer ≡ Ok tt → old_cost s t u d < cost → get_or t.parent (entered_cell s u d) 0 ≢ back_code d → (r.session ≡ s) × (t' ≡ with_plan t (replanned s t u d cost))
  change_not_the_parent e f n =
      change_byte_alone e (λ x. ⊎_elim (λ (h : (cost < old_cost s t u d) × (get_or t.g u 0 + cost < get_or t.rhs (entered_cell s u d) 0)). omega (arith, h.0, f))
      (λ (h : (old_cost s t u d < cost) × (get_or t.parent (entered_cell s u d) 0 ≡ back_code d)). n h.1) x.1)

  -- "An equal cost changes nothing."
  pub change_equal_cost : cost ≡ old_cost s t u d → (r.session ≡ s) × (t' ≡ t)
  change_equal_cost e = at (ℕ_discrete P.number 0)
    where
      at : Dec (P.number ≡ 0) → (r.session ≡ s) × (t' ≡ t)
      at (yes z) =
          let q = change_byte_alone (change_answer P ∙ ap answered z)
          (λ x. ⊎_elim (λ (h : (cost < old_cost s t u d) × (get_or t.g u 0 + cost < get_or t.rhs (entered_cell s u d) 0)). omega (arith, h.0, e))
          (λ (h : (old_cost s t u d < cost) × (get_or t.parent (entered_cell s u d) 0 ≡ back_code d)). omega (arith, h.0, e)) x.1) in
          (q.0, q.1 ∙ ap (with_plan t) (ap (set t.plan (4 * u + d)) e ∙ set-get_or t.plan (4 * u + d) 0))
      at (no n) = P.refused n

-- ---- sound tables

-- A change that is done leaves sound tables.
pub changed_sound : {s : Session} {t t' : Tables} {u d cost : ℕ} {r : Reply} → Changes s t u d cost r t' → r.answer ≡ Ok tt → Sound r.session t'
changed_sound {s} {t} {t'} {u} {d} {cost} {r} P e =
    let z = done_zero P.number P.answer e in
    let p = P.done z in
    subst (λ x. Sound x t') (sym p.0) (at (change_granted P.rules z) p.1)
  where
    at : {n : ℕ} → Workable s t u d cost → WorkedIn s t u d cost n t' → Sound (counted s n) t'
    at w p = record {
      plan =
          subst (λ x. Obeys (floor s x)) (sym p.plan)
          (changed_obeys (floor s t.plan) w.sound.plan u d cost w.cell_in w.direction w.stays_in w.byte);
      numbers =
          subst (λ x. method_sound.Sound (graph_in (frame s) x) (session s) (core t')) (sym p.plan)
          (subst (λ T. method_sound.Sound (graph s (with_plan t (replanned s t u d cost))) (session s) T) (sym p.is)
          (method_theorems.move_changed_sound (altered_in (frame s) t.plan w.sound.plan u d cost w.cell_in w.direction w.stays_in w.byte) w.sound.numbers
          (enters w.sound.plan.size.wide w.stays_in).inside));
      heap = p.heap;
    }

-- A change keeps sound tables sound, done or refused.
pub change_keeps_sound : {s : Session} {t t' : Tables} {u d cost : ℕ} {r : Reply} → Sound s t → Changes s t u d cost r t' → Sound r.session t'
change_keeps_sound {s} {t} {t'} {r = r} S P = at (ℕ_discrete P.number 0)
  where
    at : Dec (P.number ≡ 0) → Sound r.session t'
    at (yes z) = changed_sound P (change_answer P ∙ ap answered z)
    at (no n) = let p = P.refused n in subst (λ x. Sound x t') (sym p.0) (subst (Sound s) (sym p.1) S)
