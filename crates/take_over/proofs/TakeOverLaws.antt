-- Target and hunter taken over, or a fresh start: the code's ways are the method's.
use mathlib.Core.Path.{◌≡◌, refl, sym, ap, subst, ◌∙◌}
use mathlib.Core.Logic.{◌≢◌}
use Prim.Native.Nat.{ℕ, ◌+◌, ◌*◌, ◌≤◌, ◌<◌}
use native.Mathlib.Omega.{arith}
use native.Mathlib.Decide.{ℕ_discrete, dec_le}
use lib.ListN.{get_or, set}
use Rattle.decide.proofs.ChooseLaws.{choose_yes, choose_no}
use Rattle.method.specs.Numbers.{infinite, renewal}
use Rattle.method.specs.Tables as method
use Rattle.method.specs.Session as calls
use Rattle.plan.specs.Cells.{Size, estimate}
use Rattle.plan.specs.Reached.{At, Placed, between}
use Rattle.plan.specs.declared.Spot.{Spot}
use Rattle.plan.proofs.EstimateLaws.{estimate_le}
use Rattle.plan.proofs.MoveLaws.{placed}
use Rattle.tables.specs.declared.Session.{Session}
use Rattle.queue.specs.Queue.{EntryKept}
use Rattle.tables.specs.Lent.{Tables, tables, frame, framed, graph, session, core}
use Rattle.tables.specs.Sound.{Sound}
use Rattle.tables.proofs.SoundLaws.{sound_fits}
use Rattle.tables.proofs.WalkLaws.{estimate_at}
use Rattle.entries.specs.declared.Aim.{Aim}
use Rattle.entries.specs.Aims.{AimOf, hunt}
use Rattle.entries.specs.Became.{Became}
use Rattle.entries.specs.Begin.{Openable, begun, Opened}
use Rattle.entries.proofs.AimLaws.{became_of}
use Rattle.entries.proofs.SmallLaws.{sound_small_g, sound_small_rhs}
use Rattle.take_over.specs.TakeOver.{aimed_anew, hand_over, Aiming, Handing, Holds, Takes}

pub spot_placed : {width height cell : ℕ} {at : Spot} → Size width height → At width cell at → cell < height * width → Placed at
spot_placed z a l = let q = placed z a l in record { row = q.0; column = q.1 }

-- ---- a fresh start

-- The state of a fresh start at the placed cells is the method's.
pub begun_holds : {s r : Session} {t t' : Tables} → (r ≡ begun (frame s) s.hunter s.target) × Opened (frame s) s.hunter s.target t t'
    → Holds s (calls.fresh_start (graph s t) s.hunter s.target) r t'
begun_holds {s} {r} {t} {t'} (e, O) =
    subst (λ x. Holds s (calls.fresh_start (graph s t) s.hunter s.target) x t') (sym e) (record { frame_is = refl; record_is = refl; tables_are = O.is; heap = O.heap })

-- ---- the target taken over

abbrev km_at : Session → ℕ → Session
km_at s km = framed (frame s) s.hunter s.target s.origin s.target km s.count s.searches

module _ {s : Session} (A : Aiming s) {old new : Spot} (o : At s.width s.goal old) (n : At s.width s.target new) where
  estimate_is : between old new ≡ estimate s.width s.goal s.target
  estimate_is = estimate_at o n

  pub km_room : {e : ℕ} → e ≡ between old new → s.km + e < 4294967296
  km_room e = omega (arith, e, estimate_is, estimate_le A.size s.goal s.target A.old_in A.new_in, A.km_le)

  pub taken_is : {e : ℕ} → e ≡ between old new → km_at s (s.km + e) ≡ aimed_anew s
  taken_is e = ap (λ x. km_at s (s.km + x)) (e ∙ estimate_is)

-- ---- the hunter taken over

-- The record with the hunter taken over, and so many cells queued.
abbrev pub handed : Session → ℕ → Session
handed s count = framed (frame s) s.hunter s.target s.hunter s.goal s.km count s.searches

abbrev pub orphaned : Session → Tables → Tables
orphaned s t = tables t.plan t.g t.rhs (set t.parent s.hunter 0) t.k1 t.k2 t.place t.list

module _ {s : Session} {t : Tables} {a : Aim} (R : Handing s t) (O : AimOf (handed s s.count) a) where
  pub hand_holds : {count : ℕ} {t' : Tables} → Became a count t' (method.found_anew (hunt a t.plan) (core (orphaned s t)) s.origin) → Holds s (hand_over s t) (handed s count) t'
  unfolding calls.handed_over
  hand_holds B =
      let b = became_of (λ x. method.found_anew (hunt x t.plan) (core (orphaned s t)) s.origin) O B in
      record { frame_is = refl; record_is = refl; tables_are = b.is; heap = b.heap }

-- ---- the whole

-- Before the renewal nothing starts fresh for the search number.
in_time : {n : ℕ} → n < renewal → renewal ≤ n → ⊥
in_time l m = omega arith

module _ {s : Session} {t : Tables} (S : Sound s t) where
  pub openable : Openable (frame s) s.hunter s.target t
  openable = record { fits = sound_fits S; hunter_in = S.numbers.hunter_in; target_in = S.numbers.target_in; obeys = S.plan }

  pub handing : {r : Session} → r ≡ aimed_anew s → Handing r t
  handing e =
      subst (λ x. Handing x t) (sym e)
      (record {
        obeys = S.plan;
        new_in = S.numbers.hunter_in;
        old_in = S.numbers.origin_in;
        goal_in = S.numbers.target_in;
        km_le = omega (arith, S.numbers.km_le, S.numbers.searches_le, estimate_le S.plan.size s.goal s.target S.numbers.goal_in S.numbers.target_in);
        sized = S.numbers.sized;
        heap = S.heap;
        small_g = sound_small_g S;
        small_rhs = sound_small_rhs S;
      })

  module _ {r : Session} {t' : Tables} where
    pub taken_late : renewal ≤ s.searches → (r ≡ begun (frame s) s.hunter s.target) × Opened (frame s) s.hunter s.target t t' → Takes s t r t'
    unfolding calls.taken_over
    taken_late e B = record {
      holds = subst (λ m. Holds s m r t') (sym (choose_yes (dec_le renewal s.searches) _ _ e)) (begun_holds B);
      untouched = λ _ l. absurd (in_time l e);
      kept = λ l _. absurd (in_time l e);
    }

    module _ (early : s.searches < renewal) where
      pub taken_same : s.hunter ≡ s.origin → r ≡ aimed_anew s → t' ≡ t → Takes s t r t'
      unfolding calls.taken_over
      taken_same e er et = record {
        holds =
            subst (λ m. Holds s m r t') (sym (choose_no (dec_le renewal s.searches) _ _ (in_time early) ∙ choose_yes (ℕ_discrete s.hunter s.origin) _ _ e))
            (subst (λ x. Holds s (record { session = calls.target_taken (graph s t) (session s); tables = core t }) x t') (sym er)
            (subst (λ x. Holds s (record { session = calls.target_taken (graph s t) (session s); tables = core t }) (aimed_anew s) x) (sym et)
            (record { frame_is = refl; record_is = refl; tables_are = refl; heap = S.heap })));
        untouched = λ _ _. (ap (λ (x : Session). x.count) er, et);
        kept = λ _ _ _ _ _. (ap (λ (x : Session). x.count) er, ap (λ (x : Tables). x.place) et, ap (λ (x : Tables). x.list) et);
      }

      pub taken_far : s.hunter ≢ s.origin → get_or t.rhs s.hunter 0 ≡ infinite → (r ≡ begun (frame s) s.hunter s.target) × Opened (frame s) s.hunter s.target t t'
          → Takes s t r t'
      unfolding calls.taken_over
      taken_far n e B = record {
        holds =
            subst (λ m. Holds s m r t')
            (sym (choose_no (dec_le renewal s.searches) _ _ (in_time early) ∙ choose_no (ℕ_discrete s.hunter s.origin) _ _ n ∙ choose_yes (ℕ_discrete (get_or t.rhs s.hunter 0) infinite) _ _ e))
            (begun_holds B);
        untouched = λ h _. absurd (n h);
        kept = λ _ f. absurd (f e);
      }

      pub taken_new : {m : Session} → s.hunter ≢ s.origin → get_or t.rhs s.hunter 0 ≢ infinite → m ≡ aimed_anew s → Holds m (hand_over m t) r t'
          → EntryKept m.count t.k1 t.k2 t.place t.list r.count t'.k1 t'.k2 t'.place t'.list → Takes s t r t'
      unfolding calls.taken_over
      taken_new n f e H K = record {
        holds =
            let h = subst (λ x. Holds x (hand_over x t) r t') e H in
            subst (λ m. Holds s m r t')
            (sym (choose_no (dec_le renewal s.searches) _ _ (in_time early) ∙ choose_no (ℕ_discrete s.hunter s.origin) _ _ n ∙ choose_no (ℕ_discrete (get_or t.rhs s.hunter 0) infinite) _ _ f))
            (record { frame_is = h.frame_is; record_is = h.record_is; tables_are = h.tables_are; heap = h.heap });
        untouched = λ h _. absurd (n h);
        kept = λ _ _. subst (λ (x : Session). EntryKept x.count t.k1 t.k2 t.place t.list r.count t'.k1 t'.k2 t'.place t'.list) e K;
      }
