-- Before the loop: a fresh start, a new target and a new hunter leave tables that are right for the search.
use mathlib.Core.Path.{◌≡◌, refl, sym, ap, ◌∙◌}
use mathlib.Core.Bool.{false}
use mathlib.Core.Logic.{inl, ◌≢◌}
use Prim.Native.Nat.{ℕ, suc, ◌+◌, ◌*◌, ◌≤◌, ◌<◌}
use native.Mathlib.Omega.{arith}
use lib.ListN.{get_or, set, length-set, length-replicate, get_or-replicate}
use lib.Seq.{get_or-set_same, get_or-set_other}
use Rattle.decide.proofs.ChooseLaws.{choose_is}
use Rattle.method.specs.Numbers.{infinite, most_cost, most_estimate, most_searches, renewal, growth}
use Rattle.method.specs.Graph.{Graph, GraphLaws, Hunt}
use Rattle.method.specs.Tables.{Tables, Sized, g_at, rhs_at, parent_at, queued_at, stored_key, anew, LeastAt}
use Rattle.method.specs.Session.{Session, hunt_of, State, opened, blank, fresh, fresh_start, target_taken, hunter_taken, handed_over, taken_over}
use Rattle.method.specs.Sound.{Sound}
use Rattle.method.specs.Growth.{FiniteUpTo}
use Rattle.method.specs.During.{Stands, Right, Bound}
use Rattle.method.proofs.Keeping.{Held, queue_same}
use Rattle.method.proofs.Bounds.{finite_le, bound_more, rhs_bound}
use Rattle.method.proofs.LeastSums.{anew_least, least_cast}
use Rattle.method.proofs.Entries.{with_rhs_sized, set_right_sized, found_anew_sized, Reset, reset, anew_reset}
use Rattle.method.proofs.Soundness.{sound_right, sound_bound, reset_right}

-- ---- a fresh start

pub blank_sized : (n : ℕ) → Sized n (blank n)
unfolding blank
blank_sized n = record {
  g = length-replicate n infinite;
  rhs = length-replicate n infinite;
  parent = length-replicate n 0;
  k1 = length-replicate n 0;
  k2 = length-replicate n 0;
  queued = length-replicate n false;
}

pub fresh_sized : (G : Graph) (hunter target : ℕ) → Sized G.cells (fresh G hunter target)
unfolding fresh
fresh_sized G hunter target = set_right_sized (with_rhs_sized (blank_sized G.cells) hunter 0 0) (hunt_of G (opened hunter target)) hunter

-- a cell of blank tables: infinite, without parent, not queued
record Blank (T : Tables) (s : ℕ) : Type 0 where
  g : g_at T s ≡ infinite
  rhs : rhs_at T s ≡ infinite
  parent : parent_at T s ≡ 0
  queued : queued_at T s ≡ false
  stored : stored_key T s ≡ 0

blank_cell : (n s : ℕ) → s < n → Blank (blank n) s
unfolding blank
blank_cell n s l = record {
  g = get_or-replicate n s infinite 0 l;
  rhs = get_or-replicate n s infinite 0 l;
  parent = get_or-replicate n s 0 0 l;
  queued = get_or-replicate n s false false l;
  stored = omega (arith, get_or-replicate {A = ℕ} n s 0 0 l);
}

module _ {G : Graph} (L : GraphLaws G) {hunter target : ℕ} (lh : hunter < G.cells) where
  fresh_reset : Reset (hunt_of G (opened hunter target)) (blank G.cells) (fresh G hunter target) hunter 0 0
  unfolding fresh
  fresh_reset =
      reset (hunt_of G (opened hunter target)) (blank G.cells) hunter 0 0 (blank_sized G.cells) lh (omega (arith, (blank_cell G.cells hunter lh).g)) (omega arith)

  pub fresh_right : Right (hunt_of G (opened hunter target)) (fresh G hunter target)
  fresh_right =
      reset_right fresh_reset (λ s l. omega (arith, (blank_cell G.cells s l).g)) (omega (arith, fresh_reset.rhs)) fresh_reset.parent
      (λ s l _ _. least s l) (λ n. absurd (n refl)) (λ s l _. held s l)
    where
      least : (s : ℕ) → s < G.cells → LeastAt G (blank G.cells) s
      least s l =
          let b = blank_cell G.cells s l in
          record {
            le_inf = omega (arith, b.rhs);
            least = λ k w c a. omega (arith, b.rhs, (blank_cell G.cells w (L.from_in s k w c a)).g);
            reached = inl (b.rhs, b.parent);
          }

      held : (s : ℕ) → s < G.cells → Held (hunt_of G (opened hunter target)) (blank G.cells) s
      held s l =
          let b = blank_cell G.cells s l in
          let e : g_at (blank G.cells) s ≡ rhs_at (blank G.cells) s = b.g ∙ sym b.rhs in
          (record { in_queue = λ n. absurd (n e); not_in_queue = λ _. b.queued; idle = λ _. b.stored }, λ n. absurd (n e))

  pub fresh_bound : Bound (hunt_of G (opened hunter target)) 0 (fresh G hunter target)
  fresh_bound = record {
    g = λ s l f. absurd (omega (arith, ap (λ x. get_or x s 0) fresh_reset.g, (blank_cell G.cells s l).g));
    hunter = omega (arith, fresh_reset.rhs);
  }

-- ---- a new target

-- the stored keys stay below the calculated ones: km makes up for the estimate
target_right : {G : Graph} → GraphLaws G → (σ : Session) {T : Tables} → Right (hunt_of G σ) T → Right (hunt_of G (target_taken G σ)) T
target_right L σ R = record {
  g_le = R.g_le;
  hunter_finite = R.hunter_finite;
  hunter_parent = R.hunter_parent;
  least = R.least;
  queue = R.queue;
  keys = λ s l q. omega (arith, R.keys s l q, L.triangle s σ.target σ.goal, L.symmetric σ.target σ.goal);
}

-- ---- a new hunter

-- The same hunt with another hunter, and the tables where that cell has no parent.
abbrev hand_to : Hunt → ℕ → Hunt
hand_to H new = record { graph = H.graph; hunter = new; target = H.target; km = H.km }

abbrev orphaned : Tables → ℕ → Tables
orphaned T new = record { g = T.g; rhs = T.rhs; parent = set T.parent new 0; k1 = T.k1; k2 = T.k2; queued = T.queued }

orphaned_sized : {n : ℕ} {T : Tables} → Sized n T → (new : ℕ) → Sized n (orphaned T new)
orphaned_sized {T = T} z new = record { g = z.g; rhs = z.rhs; parent = length-set T.parent new 0 ∙ z.parent; k1 = z.k1; k2 = z.k2; queued = z.queued }

pub handed_over_sized : {n : ℕ} {T : Tables} → Sized n T → (H : Hunt) (old : ℕ) → Sized n (handed_over H T old)
unfolding handed_over
handed_over_sized z H old = found_anew_sized (orphaned_sized z H.hunter) H old

-- the old hunter's cell is found anew; the new hunter has no parent; the other cells stay
module _ {H : Hunt} {T : Tables} {new : ℕ} (L : Stands H) (z : Sized H.graph.cells T) (R : Right H T)
    (ln : new < H.graph.cells) (ne : new ≢ H.hunter) (fin : rhs_at T new < infinite) where
  handed_reset : Reset (hand_to H new) (orphaned T new) (handed_over (hand_to H new) T H.hunter) H.hunter
      (anew H.graph T.g H.hunter).sum (anew H.graph T.g H.hunter).code
  unfolding handed_over
  handed_reset = anew_reset (hand_to H new) (orphaned T new) H.hunter (orphaned_sized z new) L.hunter_in (R.g_le H.hunter L.hunter_in)

  handed_right : Right (hand_to H new) (handed_over (hand_to H new) T H.hunter)
  handed_right =
      let e = handed_reset.other new ne in
      reset_right handed_reset R.g_le (omega (arith, e.rhs)) (e.parent ∙ get_or-set_same T.parent new 0 0 (omega (arith, z.parent)))
      (λ s l ns no. least_cast {g = T.g} refl refl (get_or-set_other T.parent new s 0 0 ns) (R.least s l no)) (λ _. anew_least H.graph T.g H.hunter)
      (λ s l _. (queue_same T (orphaned T new) s refl refl (record { stored = refl; queued = refl }) (R.queue s l), R.keys s l))

  -- a bound on the new hunter's rhs too is kept ..
  handed_within : {A : ℕ} → Bound H A T → rhs_at T new ≤ A → Bound (hand_to H new) A (handed_over (hand_to H new) T H.hunter)
  handed_within b h = record {
    g = λ s l f. omega (arith, ap (λ x. get_or x s 0) handed_reset.g, b.g s l (omega (arith, ap (λ x. get_or x s 0) handed_reset.g)));
    hunter = omega (arith, (handed_reset.other new ne).rhs);
  }

  -- .. else it rises by one cost
  handed_bound : {A : ℕ} → Bound H A T → Bound (hand_to H new) (A + most_cost) (handed_over (hand_to H new) T H.hunter)
  handed_bound b = handed_within (bound_more (omega arith) b) (rhs_bound L R b new ln fin)

-- ---- the take-over

-- What a search of T starts from: right tables at the placed cells, no number more than one cost above the last search's bound, nor above the greatest finite number of T.
pub record Ready (G : Graph) (σ : Session) (T : Tables) (s : State) : Type 0 where
  pub hunter : s.session.origin ≡ σ.hunter
  pub target : s.session.goal ≡ σ.target
  pub placed_hunter : s.session.hunter ≡ σ.hunter
  pub placed_target : s.session.target ≡ σ.target
  pub searches_lt : s.session.searches < most_searches
  pub km_le : s.session.km ≤ most_estimate * suc s.session.searches
  pub sized : Sized G.cells s.tables
  pub right : Right (hunt_of G s.session) s.tables
  pub bound : Bound (hunt_of G s.session) (growth * s.session.searches + most_cost) s.tables
  pub within : (most : ℕ) → FiniteUpTo G.cells most T → Bound (hunt_of G s.session) most s.tables

module _ {G : Graph} (L : GraphLaws G) {σ : Session} {T : Tables} (S : Sound G σ T) where
  -- the last search's hunter has a finite rhs, so every number of T that counts is within
  within_here : {most : ℕ} → FiniteUpTo G.cells most T → Bound (hunt_of G (target_taken G σ)) most T
  within_here F = record { g = λ s l. finite_le (F.g s l); hunter = finite_le (F.rhs σ.origin S.origin_in) S.hunter_finite }

  ready_fresh : Ready G σ T (fresh_start G σ.hunter σ.target)
  ready_fresh =
      let b = fresh_bound L {target = σ.target} S.hunter_in in
      record {
        hunter = refl;
        target = refl;
        placed_hunter = refl;
        placed_target = refl;
        searches_lt = omega arith;
        km_le = omega arith;
        sized = fresh_sized G σ.hunter σ.target;
        right = fresh_right L S.hunter_in;
        bound = bound_more (omega arith) b;
        within = λ most F. bound_more (omega arith) b;
      }

  ready_target : (renewal ≤ σ.searches → ⊥) → σ.hunter ≡ σ.origin → Ready G σ T (record { session = target_taken G σ; tables = T })
  ready_target n e = record {
    hunter = sym e;
    target = refl;
    placed_hunter = refl;
    placed_target = refl;
    searches_lt = omega (arith, n);
    km_le = omega (arith, S.km_le, L.estimate_le σ.goal σ.target S.goal_in S.target_in);
    sized = S.sized;
    right = target_right L σ (sound_right S);
    bound = record { g = λ s l f. omega (arith, (sound_bound S).g s l f); hunter = omega (arith, S.hunter_le) };
    within = λ most F. within_here F;
  }

  ready_hunter : (renewal ≤ σ.searches → ⊥) → σ.hunter ≢ σ.origin → rhs_at T σ.hunter ≢ infinite
      → Ready G σ T (record { session = hunter_taken (target_taken G σ); tables = handed_over (hunt_of G (hunter_taken (target_taken G σ))) T σ.origin })
  ready_hunter n ne nf = record {
    hunter = refl;
    target = refl;
    placed_hunter = refl;
    placed_target = refl;
    searches_lt = omega (arith, n);
    km_le = omega (arith, S.km_le, L.estimate_le σ.goal σ.target S.goal_in S.target_in);
    sized = handed_over_sized S.sized (hunt_of G (hunter_taken (target_taken G σ))) σ.origin;
    right = handed_right L' S.sized R S.hunter_in ne fin;
    bound = handed_bound L' S.sized R S.hunter_in ne fin (record { g = (sound_bound S).g; hunter = S.hunter_le });
    within = λ most F. handed_within L' S.sized R S.hunter_in ne fin (within_here F) (finite_le (F.rhs σ.hunter S.hunter_in) fin);
  }
    where
      L' : Stands (hunt_of G (target_taken G σ))
      L' = record { laws = L; hunter_in = S.origin_in; target_in = S.target_in }

      R : Right (hunt_of G (target_taken G σ)) T
      R = target_right L σ (sound_right S)

      fin : rhs_at T σ.hunter < infinite
      fin = omega (arith, nf, (R.least σ.hunter S.hunter_in ne).le_inf)

  pub ready : Ready G σ T (taken_over G σ T)
  unfolding taken_over
  ready =
      choose_is (λ s. Ready G σ T s) _ (λ _. ready_fresh)
      (λ n. choose_is (λ s. Ready G σ T s) _ (ready_target n)
      (λ ne. choose_is (λ s. Ready G σ T s) _ (λ _. ready_fresh) (ready_hunter n ne)))

pub taken_over_sized : (G : Graph) (σ : Session) {T : Tables} → Sized G.cells T → Sized G.cells (taken_over G σ T).tables
unfolding taken_over
taken_over_sized G σ z =
    choose_is Q _ (λ _. fresh_sized G σ.hunter σ.target)
    (λ _. choose_is Q _ (λ _. z)
    (λ _. choose_is Q _ (λ _. fresh_sized G σ.hunter σ.target) (λ _. handed_over_sized z (hunt_of G (hunter_taken (target_taken G σ))) σ.origin)))
  where
    Q : State → Type 0
    Q s = Sized G.cells s.tables
