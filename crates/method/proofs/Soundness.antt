-- Sound tables are right tables with bounded numbers, and the other way round; one cell reset leaves right tables.
use mathlib.Core.Path.{◌≡◌, sym, ap, ◌∙◌}
use mathlib.Core.Bool.{false, true≢false, false≢true}
use mathlib.Core.Logic.{◌⊎◌, inl, inr, ◌≢◌}
use Prim.Native.Nat.{ℕ, ◌*◌, ◌≤◌, ◌<◌}
use native.Mathlib.Omega.{arith}
use native.Mathlib.Decide.{ℕ_discrete}
use lib.ListN.{get_or}
use Rattle.method.specs.Numbers.{infinite, most_estimate, most_searches, growth}
use Rattle.method.specs.Graph.{Graph, GraphLaws, Hunt}
use Rattle.method.specs.Tables.{Tables, Sized, g_at, rhs_at, parent_at, queued_at, stored_key, calculated_key, Least, LeastAt}
use Rattle.method.specs.Session.{Session, hunt_of}
use Rattle.method.specs.Sound.{Sound}
use Rattle.method.specs.During.{Stands, Inconsistent, Right, Bound}
use Rattle.method.proofs.Facts.{rhs_le}
use Rattle.method.proofs.Keeping.{Held, held_right, held_same}
use Rattle.method.proofs.Bounds.{finite_le, or_infinite}
use Rattle.method.proofs.LeastSums.{least_cast}
use Rattle.method.proofs.Entries.{key_finite, Reset}

module _ {G : Graph} {σ : Session} {T : Tables} (S : Sound G σ T) where
  pub sound_stands : GraphLaws G → Stands (hunt_of G σ)
  sound_stands L = record { laws = L; hunter_in = S.origin_in; target_in = S.goal_in }

  pub sound_right : Right (hunt_of G σ) T
  sound_right = record {
    g_le = g_le;
    hunter_finite = S.hunter_finite;
    hunter_parent = S.hunter_parent;
    least = S.least;
    queue = λ s l. record { in_queue = S.in_queue s l; not_in_queue = S.not_in_queue s l; idle = λ e. omega (arith, S.absent s l (S.not_in_queue s l e)) };
    keys = λ s l n. omega (arith, S.keys s l (S.in_queue s l n), key_finite (hunt_of G σ) T s (g_le s l) (at_rhs s l (ℕ_discrete s σ.origin)) n);
  }
    where
      g_le : (s : ℕ) → s < G.cells → g_at T s ≤ infinite
      g_le s l = at (S.g_le s l)
        where
          at : (g_at T s ≡ infinite) ⊎ (g_at T s ≤ growth * σ.searches) → g_at T s ≤ infinite
          at (inl e) = omega arith
          at (inr h) = omega (arith, S.searches_le)

      at_rhs : (s : ℕ) → s < G.cells → Dec (s ≡ σ.origin) → rhs_at T s ≤ infinite
      at_rhs s l (yes e) = rw e (omega (arith, S.hunter_finite))
      at_rhs s l (no n) = (S.least s l n).le_inf

  pub sound_bound : Bound (hunt_of G σ) (growth * σ.searches) T
  sound_bound = record { g = λ s l. finite_le (S.g_le s l); hunter = S.hunter_le }

-- The recorded cells are in the graph, and search number and km are within their bounds.
pub record Within (G : Graph) (σ : Session) : Type 0 where
  pub hunter_in : σ.hunter < G.cells
  pub target_in : σ.target < G.cells
  pub origin_in : σ.origin < G.cells
  pub goal_in : σ.goal < G.cells
  pub searches_le : σ.searches ≤ most_searches
  pub km_le : σ.km ≤ most_estimate * σ.searches

pub right_sound : {G : Graph} {σ : Session} {T : Tables} → Within G σ → Sized G.cells T → Right (hunt_of G σ) T
    → Bound (hunt_of G σ) (growth * σ.searches) T → Sound G σ T
right_sound {G} {σ} {T} W z R b = record {
  sized = z;
  hunter_in = W.hunter_in;
  target_in = W.target_in;
  origin_in = W.origin_in;
  goal_in = W.goal_in;
  hunter_finite = R.hunter_finite;
  hunter_parent = R.hunter_parent;
  least = R.least;
  in_queue = λ s l. (R.queue s l).in_queue;
  not_in_queue = λ s l. (R.queue s l).not_in_queue;
  keys = λ s l q. key_le s l (λ e. true≢false (sym q ∙ (R.queue s l).not_in_queue e));
  absent = λ s l q. zero s l q (ℕ_discrete (g_at T s) (rhs_at T s));
  searches_le = W.searches_le;
  km_le = W.km_le;
  g_le = λ s l. or_infinite (g_at T s) (λ n. b.g s l (omega (arith, n, R.g_le s l)));
  hunter_le = b.hunter;
}
  where
    key_le : (s : ℕ) → s < G.cells → Inconsistent T s → stored_key T s ≤ calculated_key (hunt_of G σ) T s
    key_le s l n = omega (arith, R.keys s l n, key_finite (hunt_of G σ) T s (R.g_le s l) (rhs_le (hunt_of G σ) T R s l) n)

    zero : (s : ℕ) → s < G.cells → queued_at T s ≡ false → Dec (g_at T s ≡ rhs_at T s) → (get_or T.k1 s 0 ≡ 0) × (get_or T.k2 s 0 ≡ 0)
    zero s l q (yes e) = omega (arith, (R.queue s l).idle e)
    zero s l q (no n) = absurd (false≢true (sym q ∙ (R.queue s l).in_queue n))

-- Right tables after one cell v was reset, where all the others were right.
pub reset_right : {H : Hunt} {T E : Tables} {v r p : ℕ} → Reset H T E v r p → ((s : ℕ) → s < H.graph.cells → g_at T s ≤ infinite)
    → rhs_at E H.hunter < infinite → parent_at E H.hunter ≡ 0
    → ((s : ℕ) → s < H.graph.cells → s ≢ H.hunter → s ≢ v → LeastAt H.graph T s)
    → (v ≢ H.hunter → Least H.graph (λ w. g_at T w) v r p)
    → ((s : ℕ) → s < H.graph.cells → s ≢ v → Held H T s) → Right H E
reset_right {H} {T} {E} {v} R g_le fin par least here held = record {
  g_le = λ s l. omega (arith, at_g s, g_le s l);
  hunter_finite = fin;
  hunter_parent = par;
  least = λ s l ns. cell s l ns (ℕ_discrete s v);
  queue = λ s l. (entry s l (ℕ_discrete s v)).0;
  keys = λ s l. (entry s l (ℕ_discrete s v)).1;
}
  where
    at_g : (s : ℕ) → g_at E s ≡ g_at T s
    at_g s = ap (λ x. get_or x s 0) R.g

    cell : (s : ℕ) → s < H.graph.cells → s ≢ H.hunter → Dec (s ≡ v) → LeastAt H.graph E s
    cell s l ns (yes e) = rw e (least_cast R.g R.rhs R.parent (here (rw e at ns)))
    cell s l ns (no n) = least_cast R.g (R.other s n).rhs (R.other s n).parent (least s l ns n)

    entry : (s : ℕ) → s < H.graph.cells → Dec (s ≡ v) → Held H E s
    entry s l (yes e) = rw e (held_right H E v R.entry)
    entry s l (no n) = held_same H T E s (at_g s) (R.other s n).rhs (R.other s n).entry (held s l n)
