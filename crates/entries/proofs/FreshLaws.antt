-- Tables filled with one number, and the tables as at a fresh start.
use mathlib.Core.Path.{◌≡◌, refl, sym, ap, ◌∙◌}
use mathlib.Core.Bool.{Bool, true, false}
use mathlib.Core.List.{List, ◌∷◌}
use Prim.Native.Nat.{ℕ, zero, suc, ◌<◌}
use native.Mathlib.Omega.{arith}
use native.Mathlib.Decide.{ℕ_discrete}
use lib.ListN.{length, get_or, set, replicate, length-replicate, get_or-replicate, length-set}
use lib.Seq.{get_or-set_same, get_or-set_other}
use Rattle.decide.proofs.ChooseLaws.{choose_no}
use Rattle.method.specs.Numbers.{infinite}
use Rattle.method.specs.Tables as method
use Rattle.method.specs.Session.{blank, fresh}
use Rattle.queue.specs.Queue.{absent, is_place, members}
use Rattle.queue.proofs.MemberLaws.{tally, tally_none, tally_less}
use Rattle.queue.proofs.PlaceLaws.{counted}
use Rattle.tables.specs.Lent.{Tables, tables, Fits, graph_in, core}
use Rattle.entries.specs.declared.Aim.{Aim}
use Rattle.entries.specs.Aims.{area, frame_of, hunt, Aimed}
use Rattle.entries.specs.Became.{Became}

-- ---- a table of one number

-- It was as long as there are cells.
filled_as : {n : ℕ} {xs : List ℕ} (v : ℕ) (old : List ℕ) → length old ≡ n → xs ≡ replicate (length old) v → xs ≡ replicate n v
filled_as v old e q = q ∙ ap (λ k. replicate k v) e

set_replicate : (n s v : ℕ) → set (replicate n v) s v ≡ replicate n v
set_replicate zero s v = refl
set_replicate (suc n) zero v = refl
set_replicate (suc n) (suc s) v = ap (λ (l : List ℕ). v ∷ l) (set_replicate n s v)

members_none : (n : ℕ) → members (replicate n absent) ≡ replicate n false
unfolding members is_place
members_none zero = refl
members_none (suc n) = ap (λ (l : List Bool). false ∷ l) (members_none n)

-- One cell alone is queued.
tally_one : (n s : ℕ) → s < n → tally (set (replicate n false) s true) ≡ 1
tally_one n s l =
    sym (tally_less (set (replicate n false) s true) s (omega (arith, long)) (get_or-set_same (replicate n false) s true false (omega (arith, length-replicate {A = Bool} n false))))
    ∙ ap suc (tally_none (set (set (replicate n false) s true) s false) (λ c h. none c (omega (arith, h, length-set (set (replicate n false) s true) s false, long)) (ℕ_discrete c s)))
  where
    long : length (set (replicate n false) s true) ≡ n
    long = length-set (replicate n false) s true ∙ length-replicate {A = Bool} n false

    none : (c : ℕ) → c < n → Dec (c ≡ s) → get_or (set (set (replicate n false) s true) s false) c false ≡ false
    none c h (yes e) = rw e (get_or-set_same (set (replicate n false) s true) s false false (omega (arith, long)))
    none c h (no d) =
        get_or-set_other (set (replicate n false) s true) s c false false d ∙ get_or-set_other (replicate n false) s c true false d ∙ get_or-replicate n c false false h

-- ---- a fresh start

-- The tables as the fills left them.
pub record Blank (a : Aim) (g rhs parent k1 k2 place list : List ℕ) : Type 0 where
  pub g_is : g ≡ replicate (area a) infinite
  pub rhs_is : rhs ≡ replicate (area a) infinite
  pub parent_is : parent ≡ replicate (area a) 0
  pub k1_is : k1 ≡ replicate (area a) 0
  pub k2_is : k2 ≡ replicate (area a) 0
  pub place_is : place ≡ replicate (area a) absent
  pub list_is : list ≡ replicate (area a) absent

pub blank_filled : {a : Aim} {plan g₀ rhs₀ parent₀ k1₀ k2₀ place₀ list₀ g rhs parent k1 k2 place list : List ℕ} → Fits (area a) (tables plan g₀ rhs₀ parent₀ k1₀ k2₀ place₀ list₀)
    → g ≡ replicate (length g₀) infinite → rhs ≡ replicate (length rhs₀) infinite → parent ≡ replicate (length parent₀) 0 → k1 ≡ replicate (length k1₀) 0 → k2 ≡ replicate (length k2₀) 0
    → place ≡ replicate (length place₀) absent → list ≡ replicate (length list₀) absent → Blank a g rhs parent k1 k2 place list
blank_filled {a} {plan} {g₀} {rhs₀} {parent₀} {k1₀} {k2₀} {place₀} {list₀} f eg er ep e1 e2 el em = record {
  g_is = filled_as infinite g₀ f.g eg;
  rhs_is = filled_as infinite rhs₀ f.rhs er;
  parent_is = filled_as 0 parent₀ f.parent ep;
  k1_is = filled_as 0 k1₀ f.k1 e1;
  k2_is = filled_as 0 k2₀ f.k2 e2;
  place_is = filled_as absent place₀ f.place el;
  list_is = filled_as absent list₀ f.list em;
}

module _ {a : Aim} {plan : List ℕ} (A : Aimed a plan) where
  module _ {g rhs parent k1 k2 place list : List ℕ} (B : Blank a g rhs parent k1 k2 place list) where
    blank_core : core (tables plan g (set rhs a.hunter 0) parent k1 k2 place list) ≡ method.with_rhs (blank (area a)) a.hunter 0 0
    unfolding blank
    blank_core = rw (B.g_is, B.rhs_is, B.parent_is, B.k1_is, B.k2_is, B.place_is, members_none (area a), set_replicate (area a) a.hunter 0) refl

    module _ (zero_km : a.km ≡ 0) {count : ℕ} {t : Tables} (E : Became a count t (method.set_right (hunt a plan) (core (tables plan g (set rhs a.hunter 0) parent k1 k2 place list)) a.hunter)) where
      pub fresh_became : Became a count t (fresh (graph_in (frame_of a) plan) a.hunter a.target)
      unfolding fresh
      fresh_became =
          record {
            is =
                E.is ∙ ap (λ T. method.set_right (hunt a plan) T a.hunter) blank_core
                ∙ ap (λ k. method.set_right (record { graph = graph_in (frame_of a) plan; hunter = a.hunter; target = a.target; km = k }) (method.with_rhs (blank (area a)) a.hunter 0 0) a.hunter) zero_km;
            heap = E.heap;
          }

      -- the hunter alone is queued
      queued_is : members t.place ≡ set (replicate (area a) false) a.hunter true
      unfolding fresh blank method.set_right method.enter
      queued_is =
          ap (λ (T : method.Tables). T.queued) fresh_became.is
          ∙ ap (λ (T : method.Tables). T.queued) (choose_no (ℕ_discrete (get_or (replicate (area a) infinite) a.hunter 0) (get_or (set (replicate (area a) infinite) a.hunter 0) a.hunter 0)) _ _
          (λ e. omega (
            arith,
            get_or-replicate {A = ℕ} (area a) a.hunter infinite 0 A.hunter_in,
            get_or-set_same (replicate (area a) infinite) a.hunter 0 0 (omega (arith, A.hunter_in, length-replicate {A = ℕ} (area a) infinite)),
          )))

      pub fresh_count : count ≡ 1
      fresh_count = sym (counted (area a) count t.place t.list fresh_became.heap.tables.agree) ∙ ap tally queued_is ∙ tally_one (area a) a.hunter A.hunter_in
