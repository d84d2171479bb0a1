-- A changed move leaves right tables, on the graph as it then is.
use mathlib.Core.Path.{◌≡◌, refl, sym, ◌∙◌}
use mathlib.Core.Logic.{◌⊎◌, inl, inr, ◌≢◌}
use Prim.Native.Nat.{ℕ, ◌+◌, ◌≤◌, ◌<◌}
use native.Mathlib.Omega.{arith}
use native.Mathlib.Decide.{ℕ_discrete}
use Rattle.decide.proofs.ChooseLaws.{choose_is}
use Rattle.method.specs.Graph.{Graph, Comes, Hunt}
use Rattle.method.specs.Tables.{Tables, Sized, g_at, rhs_at, parent_at, Least, LeastAt}
use Rattle.method.specs.Session.{Session, hunt_of, move_changed}
use Rattle.method.specs.Sound.{Sound}
use Rattle.method.specs.Change.{Altered}
use Rattle.method.specs.During.{Right}
use Rattle.method.proofs.Keeping.{Held, least_stays}
use Rattle.method.proofs.LeastSums.{anew_least}
use Rattle.method.proofs.Entries.{with_rhs_sized, set_right_sized, found_anew_sized, Reset, reset, anew_reset}
use Rattle.method.proofs.Soundness.{sound_right, reset_right}

pub move_changed_sized : {n : ℕ} {T : Tables} → Sized n T → (H : Hunt) (v k u old new : ℕ) → Sized n (move_changed H T v k u old new)
unfolding move_changed
move_changed_sized {n} {T} z H v k u old new =
    choose_is (λ x. Sized n x) _ (λ _. z)
    (λ _. choose_is (λ x. Sized n x) _
    (λ _. choose_is (λ x. Sized n x) _ (λ _. set_right_sized (with_rhs_sized z v (g_at T u + new) k) H v) (λ _. z))
    (λ _. choose_is (λ x. Sized n x) _ (λ _. choose_is (λ x. Sized n x) _ (λ _. found_anew_sized z H v) (λ _. z)) (λ _. z)))

module _ {G G' : Graph} {v k u old new : ℕ} (A : Altered G G' v k u old new) (g : ℕ → ℕ) where
  -- a cell that keeps its numbers
  keeps : {s r p : ℕ} → (s ≡ v → r ≤ g u + new) → (s ≡ v → p ≡ k → r ≡ g u + old → ⊥) → Least G g s r p → Least G' g s r p
  keeps {s} {r} {p} fits off L = least_stays (λ j w c a. sum w c (A.after s j w c a)) (λ w c a e. (via w c e (A.before s p w c a), refl)) L
    where
      sum : {j : ℕ} (w c : ℕ) → Comes G s j w c ⊎ ((s ≡ v) × (j ≡ k) × (w ≡ u) × (c ≡ new)) → r ≤ g w + c
      sum {j} w c (inl a) = L.least j w c a
      sum w c (inr e) = rw (e.2, e.3) (fits e.0)

      via : (w c : ℕ) → r ≡ g w + c → Comes G' s p w c ⊎ ((s ≡ v) × (p ≡ k) × (w ≡ u) × (c ≡ old)) → Comes G' s p w c
      via w c f (inl a) = a
      via w c f (inr e) = absurd (off e.0 e.1 (rw (e.2, e.3) at f))

  -- the cell entered, when the cost falls below its rhs
  sinks : {r p : ℕ} → new < old → g u + new < r → Least G g v r p → Least G' g v (g u + new) k
  sinks f lt L = record {
    le_inf = omega (arith, L.le_inf);
    least = λ j w c a. sum w c (A.after v j w c a);
    reached = inr (omega (arith, L.le_inf), record { from = u; cost = new; comes = A.falls f; sum = refl });
  }
    where
      sum : {j : ℕ} (w c : ℕ) → Comes G v j w c ⊎ ((v ≡ v) × (j ≡ k) × (w ≡ u) × (c ≡ new)) → g u + new ≤ g w + c
      sum {j} w c (inl a) = omega (arith, L.least j w c a)
      sum w c (inr e) = rw (e.2, e.3) (omega arith)

  -- an equal cost
  level : new ≡ old → {s r p : ℕ} → Least G g s r p → Least G' g s r p
  level q {s} {p = p} L = least_stays (λ j w c a. L.least j w c (A.level_after q s j w c a)) (λ w c a _. (A.level_before q s p w c a, refl)) L

-- What a change leaves: right tables, every g, and the hunter's rhs.
pub record Changed (H : Hunt) (T E : Tables) : Type 0 where
  pub right : Right H E
  pub g : E.g ≡ T.g
  pub hunter : rhs_at E H.hunter ≡ rhs_at T H.hunter

module _ {G G' : Graph} {σ : Session} {T : Tables} {v k u old new : ℕ} (A : Altered G G' v k u old new) (S : Sound G σ T) (lv : v < G.cells) where
  R : Right (hunt_of G σ) T
  R = sound_right S

  -- a cell of G' is one of G
  cell_in : (s : ℕ) → s < G'.cells → s < G.cells
  cell_in s l = omega (arith, A.cells)

  held : (s : ℕ) → s < G.cells → Held (hunt_of G' σ) T s
  held s l = (R.queue s l, λ n. omega (arith, R.keys s l n, A.estimate s σ.goal))

  -- a cell other than v
  apart : (s : ℕ) → s < G.cells → s ≢ σ.origin → s ≢ v → LeastAt G' T s
  apart s l ns ne = keeps A (λ w. g_at T w) (λ e. absurd (ne e)) (λ e. absurd (ne e)) (R.least s l ns)

  changed_none : ((s : ℕ) → s < G.cells → s ≢ σ.origin → LeastAt G' T s) → Changed (hunt_of G' σ) T T
  changed_none least = record {
    right = record {
      g_le = λ s l. R.g_le s (cell_in s l);
      hunter_finite = R.hunter_finite;
      hunter_parent = R.hunter_parent;
      least = λ s l. least s (cell_in s l);
      queue = λ s l. (held s (cell_in s l)).0;
      keys = λ s l. (held s (cell_in s l)).1;
    };
    g = refl;
    hunter = refl;
  }

  -- v keeps its numbers
  changed_kept : (v ≢ σ.origin → (rhs_at T v ≤ g_at T u + new) × (parent_at T v ≡ k → rhs_at T v ≡ g_at T u + old → ⊥)) → Changed (hunt_of G' σ) T T
  changed_kept f = changed_none (λ s l ns. at s l ns (ℕ_discrete s v))
    where
      at : (s : ℕ) → s < G.cells → s ≢ σ.origin → Dec (s ≡ v) → LeastAt G' T s
      at s l ns (yes e) = rw e (let nv = rw e at ns in keeps A (λ w. g_at T w) (λ _. (f nv).0) (λ _. (f nv).1) (R.least v lv nv))
      at s l ns (no ne) = apart s l ns ne

  -- v is written
  changed_reset : {E : Tables} {r p : ℕ} → v ≢ σ.origin → Reset (hunt_of G' σ) T E v r p → Least G' (λ w. g_at T w) v r p → Changed (hunt_of G' σ) T E
  changed_reset {E} nv Z L =
      let e = Z.other σ.origin (λ q. nv (sym q)) in
      record {
        right =
            reset_right Z (λ s l. R.g_le s (cell_in s l)) (omega (arith, e.rhs, R.hunter_finite)) (e.parent ∙ R.hunter_parent)
            (λ s l. apart s (cell_in s l)) (λ _. L) (λ s l _. held s (cell_in s l));
        g = Z.g;
        hunter = e.rhs;
      }

  pub changed_is : Changed (hunt_of G' σ) T (move_changed (hunt_of G' σ) T v k u old new)
  unfolding move_changed
  changed_is =
      choose_is Q _ (λ e. changed_kept (λ nv. absurd (nv e)))
      (λ nv. choose_is Q _
      (λ f. choose_is Q _
      (λ lt.
      changed_reset nv (reset (hunt_of G' σ) T v (g_at T u + new) k S.sized lv (R.g_le v lv) (omega (arith, (R.least v lv nv).le_inf)))
      (sinks A (λ w. g_at T w) f lt (R.least v lv nv)))
      (λ nlt. changed_kept (λ _. (omega arith, λ _ e. omega arith))))
      (λ nf. choose_is Q _
      (λ r. choose_is Q _
      (λ e. changed_reset nv (anew_reset (hunt_of G' σ) T v S.sized lv (R.g_le v lv)) (anew_least G' T.g v))
      (λ ne. changed_kept (λ _. (omega (arith, (R.least v lv nv).least k u old (A.rises r)), λ q _. ne q))))
      (λ nr. changed_none (λ s l ns. level A (λ w. g_at T w) (omega arith) (R.least s l ns)))))
    where
      Q : Tables → Type 0
      Q E = Changed (hunt_of G' σ) T E
