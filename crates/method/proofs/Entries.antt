-- The writers of the tables: what setting a cell's entry right does, and that every table keeps its length.
use mathlib.Core.Path.{◌≡◌, refl, ap, ◌∙◌}
use mathlib.Core.Bool.{Bool, true, false}
use mathlib.Core.Logic.{◌≢◌}
use Prim.Native.Nat.{ℕ, ◌+◌, ◌≤◌, ◌<◌}
use native.Mathlib.Omega.{arith}
use native.Mathlib.Decide.{ℕ_discrete}
use lib.ListN.{get_or, set, length-set}
use lib.Seq.{get_or-set_same, get_or-set_other}
use Rattle.decide.proofs.ChooseLaws.{choose_yes, choose_no, choose_is}
use Rattle.method.specs.Numbers.{infinite}
use Rattle.method.specs.Graph.{Hunt}
use Rattle.method.specs.Tables.{Tables, Sized, g_at, rhs_at, parent_at, with_g, with_rhs, with_entry, lesser, first_key, calculated_key, enter, leave, set_right, anew, found_anew}
use Rattle.method.specs.During.{key, Inconsistent}
use Rattle.method.proofs.Notions.{EntryRight, SameEntry, Same}
use Rattle.method.proofs.LeastSums.{anew_least}

module _ {n : ℕ} {T : Tables} (z : Sized n T) where
  pub with_g_sized : (s v : ℕ) → Sized n (with_g T s v)
  with_g_sized s v = record { g = length-set T.g s v ∙ z.g; rhs = z.rhs; parent = z.parent; k1 = z.k1; k2 = z.k2; queued = z.queued }

  pub with_rhs_sized : (s r p : ℕ) → Sized n (with_rhs T s r p)
  with_rhs_sized s r p = record {
    g = z.g;
    rhs = length-set T.rhs s r ∙ z.rhs;
    parent = length-set T.parent s p ∙ z.parent;
    k1 = z.k1;
    k2 = z.k2;
    queued = z.queued;
  }

  pub with_entry_sized : (s a b : ℕ) (q : Bool) → Sized n (with_entry T s a b q)
  with_entry_sized s a b q = record {
    g = z.g;
    rhs = z.rhs;
    parent = z.parent;
    k1 = length-set T.k1 s a ∙ z.k1;
    k2 = length-set T.k2 s b ∙ z.k2;
    queued = length-set T.queued s q ∙ z.queued;
  }

  pub enter_sized : (H : Hunt) (s : ℕ) → Sized n (enter H T s)
  unfolding enter
  enter_sized H s = with_entry_sized s (first_key H s (lesser T s)) (lesser T s) true

  pub set_right_sized : (H : Hunt) (s : ℕ) → Sized n (set_right H T s)
  unfolding set_right
  set_right_sized H s = choose_is (λ x. Sized n x) _ (λ _. with_entry_sized s 0 0 false) (λ _. enter_sized H s)

pub found_anew_sized : {n : ℕ} {T : Tables} → Sized n T → (H : Hunt) (s : ℕ) → Sized n (found_anew H T s)
unfolding found_anew
found_anew_sized {T = T} z H s = set_right_sized (with_rhs_sized z s (anew H.graph T.g s).sum (anew H.graph T.g s).code) H s

-- where m is finite the first key number is the plain sum
pub first_finite : (H : Hunt) (s m : ℕ) → m < infinite → first_key H s m ≡ m + H.graph.estimate s H.target + H.km
unfolding first_key
first_finite H s m l = choose_no (ℕ_discrete m infinite) infinite (m + H.graph.estimate s H.target + H.km) (λ e. omega arith)

pub first_infinite : (H : Hunt) (s m : ℕ) → m ≡ infinite → first_key H s m ≡ infinite
unfolding first_key
first_infinite H s m e = choose_yes (ℕ_discrete m infinite) infinite (m + H.graph.estimate s H.target + H.km) e

-- so for an inconsistent cell, whose lesser number is finite, the calculated key is the plain one
pub key_finite : (H : Hunt) (T : Tables) (s : ℕ) → g_at T s ≤ infinite → rhs_at T s ≤ infinite → Inconsistent T s → calculated_key H T s ≡ key H T s
key_finite H T s lg lr n = omega (arith, first_finite H s (lesser T s) (omega (arith, n)))

-- What writing the entry of s does elsewhere.
pub other_entry : (T : Tables) (s a b : ℕ) (q : Bool) (t : ℕ) → t ≢ s → SameEntry T (with_entry T s a b q) t
other_entry T s a b q t m = record {
  stored = rw (get_or-set_other T.k1 s t a 0 m, get_or-set_other T.k2 s t b 0 m) refl;
  queued = get_or-set_other T.queued s t q false m;
}

-- What setting the entry of s right does, where s is a cell whose numbers are at most infinite.
pub record Righted (H : Hunt) (T T' : Tables) (s : ℕ) : Type 0 where
  pub g : T'.g ≡ T.g
  pub rhs : T'.rhs ≡ T.rhs
  pub parent : T'.parent ≡ T.parent
  pub entry : EntryRight H T' s
  pub other : (t : ℕ) → t ≢ s → SameEntry T T' t

module _ (H : Hunt) (T : Tables) (s : ℕ) {n : ℕ} (z : Sized n T) (l : s < n) where
  pub leave_righted : g_at T s ≡ rhs_at T s → Righted H T (leave T s) s
  leave_righted e = record {
    g = refl;
    rhs = refl;
    parent = refl;
    entry = record {
      queue = record {
        in_queue = λ m. absurd (m e);
        not_in_queue = λ _. get_or-set_same T.queued s false false (omega (arith, z.queued));
        idle = λ _. omega (arith, get_or-set_same T.k1 s 0 0 (omega (arith, z.k1)), get_or-set_same T.k2 s 0 0 (omega (arith, z.k2)));
      };
      full = λ m. absurd (m e);
    };
    other = other_entry T s 0 0 false;
  }

  pub enter_righted : g_at T s ≤ infinite → rhs_at T s ≤ infinite → Inconsistent T s → Righted H T (enter H T s) s
  unfolding enter
  enter_righted lg lr m = record {
    g = refl;
    rhs = refl;
    parent = refl;
    entry = record {
      queue = record { in_queue = λ _. get_or-set_same T.queued s true false (omega (arith, z.queued)); not_in_queue = λ e. absurd (m e); idle = λ e. absurd (m e) };
      full = λ _.
          omega (
            arith,
            get_or-set_same T.k1 s (first_key H s (lesser T s)) 0 (omega (arith, z.k1)),
            get_or-set_same T.k2 s (lesser T s) 0 (omega (arith, z.k2)),
            key_finite H T s lg lr m,
          );
    };
    other = other_entry T s (first_key H s (lesser T s)) (lesser T s) true;
  }

  pub righted : g_at T s ≤ infinite → rhs_at T s ≤ infinite → Righted H T (set_right H T s) s
  unfolding set_right
  righted lg lr = choose_is (λ x. Righted H T x s) _ leave_righted (enter_righted lg lr)

-- rhs and parent of s written, and its entry set right: only s has changed.
pub record Reset (H : Hunt) (T T' : Tables) (s r p : ℕ) : Type 0 where
  pub g : T'.g ≡ T.g
  pub rhs : rhs_at T' s ≡ r
  pub parent : parent_at T' s ≡ p
  pub entry : EntryRight H T' s
  pub other : (t : ℕ) → t ≢ s → Same T T' t

pub reset : (H : Hunt) (T : Tables) (s r p : ℕ) {n : ℕ} → Sized n T → s < n → g_at T s ≤ infinite → r ≤ infinite → Reset H T (set_right H (with_rhs T s r p) s) s r p
reset H T s r p z l lg lr = record {
  g = R.g;
  rhs = ap (λ x. get_or x s 0) R.rhs ∙ at_s;
  parent = ap (λ x. get_or x s 0) R.parent ∙ get_or-set_same T.parent s p 0 (omega (arith, z.parent));
  entry = R.entry;
  other = λ t m. record {
    rhs = ap (λ x. get_or x t 0) R.rhs ∙ get_or-set_other T.rhs s t r 0 m;
    parent = ap (λ x. get_or x t 0) R.parent ∙ get_or-set_other T.parent s t p 0 m;
    entry = record { stored = (R.other t m).stored; queued = (R.other t m).queued };
  };
}
  where
    at_s : get_or (set T.rhs s r) s 0 ≡ r
    at_s = get_or-set_same T.rhs s r 0 (omega (arith, z.rhs))

    R : Righted H (with_rhs T s r p) (set_right H (with_rhs T s r p) s) s
    R = righted H (with_rhs T s r p) s (with_rhs_sized z s r p) l lg (omega (arith, at_s))

-- found anew
pub anew_reset : (H : Hunt) (T : Tables) (s : ℕ) {n : ℕ} → Sized n T → s < n → g_at T s ≤ infinite
    → Reset H T (found_anew H T s) s (anew H.graph T.g s).sum (anew H.graph T.g s).code
unfolding found_anew
anew_reset H T s z l lg = reset H T s (anew H.graph T.g s).sum (anew H.graph T.g s).code z l lg (anew_least H.graph T.g s).le_inf
