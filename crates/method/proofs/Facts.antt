-- Why no step comes twice: the keys taken never fall, and a step makes a fact about its cell true that every later step keeps.
use mathlib.Core.Path.{◌≡◌, refl, sym, ◌∙◌}
use mathlib.Core.Logic.{◌⊎◌, inl, inr, ◌≢◌}
use Prim.Native.Nat.{ℕ, suc, ◌+◌, ◌*◌, ◌≤◌, ◌<◌}
use native.Mathlib.Omega.{arith}
use native.Mathlib.Decide.{ℕ_discrete, dec_le}
use Rattle.method.specs.Numbers.{infinite}
use Rattle.method.specs.Graph.{Graph, Comes, GraphLaws, Hunt}
use Rattle.method.specs.Tables.{Tables, g_at, rhs_at, parent_at, stored_key, Reached, Least}
use Rattle.method.specs.Steps.{Kind, put_back, lower, raise}
use Rattle.method.specs.During.{Stands, key, Inconsistent, Right, Floor, Settled, dec_settled, lack, sum, unsettled}
use Rattle.method.proofs.Counting.{lack_le, lack_keep, lack_gain, sum_bound, sum_keep, sum_drop}
use Rattle.method.proofs.Notions.{ReachedAt, Pick, Same, Lowered, Lower, Kept, Renewed, Raise, Did, did_put_back, did_lower, did_raise}

-- the parent's move gives the sum
parent_sum : (H : Hunt) → Stands H → (T : Tables) → Right H T → (s u c : ℕ) → s < H.graph.cells → s ≢ H.hunter → Comes H.graph s (parent_at T s) u c
    → rhs_at T s ≡ g_at T u + c
parent_sum H L T R s u c l ns a = at (R.least s l ns).reached
  where
    at : ReachedAt H.graph T s → rhs_at T s ≡ g_at T u + c
    at (inl z) = omega (arith, L.laws.code_pos s (parent_at T s) u c a)
    at (inr v) =
        let e : v.1.from ≡ u = L.laws.one_from s (parent_at T s) v.1.from v.1.cost u c v.1.comes a in
        let f : v.1.cost ≡ c = L.laws.one_cost s (parent_at T s) v.1.from v.1.cost u c v.1.comes a in
        rw (← e, ← f) v.1.sum

-- the least sum over the moves does not fall where no g falls
pub least_mono : {G : Graph} → GraphLaws G → {g g' : ℕ → ℕ} {s r p r' p' : ℕ} → ((w : ℕ) → w < G.cells → g w ≤ g' w) → Least G g s r p → Least G g' s r' p' → r ≤ r'
least_mono {G} L {g} {g'} {s} {r} {p} {r'} {p'} up A B = at B.reached
  where
    at : Reached G g' s r' p' → r ≤ r'
    at (inl z) = omega (arith, A.le_inf)
    at (inr v) =
        omega (arith, v.1.sum, A.least p' v.1.from v.1.cost v.1.comes, up v.1.from (L.from_in s p' v.1.from v.1.cost v.1.comes))

-- The fact that a step of a kind makes true of its cell. Lower: it is settled. Raise: settled, or g infinite.
-- Put back: not queued, or queued under the calculated key.
abbrev pub Fact : Kind → Hunt → ℕ → Tables → ℕ → Type 0
Fact lower H κ T s = Settled H κ T s
Fact raise H κ T s = Settled H κ T s ⊎ (g_at T s ≡ infinite)
Fact put_back H κ T s = (g_at T s ≡ rhs_at T s) ⊎ (stored_key T s ≡ key H T s)

-- A step on u is due: κ is the key taken last.
pub record Due (H : Hunt) (κ : ℕ) (T : Tables) (u : ℕ) : Type 0 where
  pub stands : Stands H
  pub right : Right H T
  pub floor : Floor H κ T
  pub pick : Pick H T u

-- every rhs is at most infinite
pub rhs_le : (H : Hunt) (T : Tables) → Right H T → (s : ℕ) → s < H.graph.cells → rhs_at T s ≤ infinite
rhs_le H T R s l = at (ℕ_discrete s H.hunter)
  where
    at : Dec (s ≡ H.hunter) → rhs_at T s ≤ infinite
    at (yes e) = rw e (omega (arith, R.hunter_finite))
    at (no n) = (R.least s l n).le_inf

-- no g falls by a raise
pub raise_up : {H : Hunt} {T T' : Tables} {u : ℕ} → Right H T → Raise H T T' u → (w : ℕ) → w < H.graph.cells → g_at T w ≤ g_at T' w
raise_up {T = T} {T'} {u} R b w l = at (ℕ_discrete w u)
  where
    at : Dec (w ≡ u) → g_at T w ≤ g_at T' w
    at (yes e) =
        let l' = rw e at l in
        rw e (omega (arith, b.g_u, R.g_le u l'))
    at (no n) = omega (arith, b.g w l n)

-- of a cell whose numbers stay
fresh_same : (H : Hunt) (κ : ℕ) (T T' : Tables) (s : ℕ) → g_at T' s ≡ g_at T s → rhs_at T' s ≡ rhs_at T s → stored_key T' s ≡ stored_key T s
    → Fact put_back H κ T s → Fact put_back H κ T' s
fresh_same H κ T T' s eg er es (inl e) = inl (omega arith)
fresh_same H κ T T' s eg er es (inr e) = inr (omega arith)

-- of a cell whose entry was set right
fresh_right : (H : Hunt) (κ : ℕ) (T' : Tables) (s : ℕ) → (Inconsistent T' s → stored_key T' s ≡ key H T' s) → Fact put_back H κ T' s
fresh_right H κ T' s f = at (ℕ_discrete (g_at T' s) (rhs_at T' s))
  where
    at : Dec (g_at T' s ≡ rhs_at T' s) → Fact put_back H κ T' s
    at (yes e) = inl e
    at (no n) = inr (f n)

module _ {H : Hunt} {κ : ℕ} {T : Tables} {u : ℕ} (D : Due H κ T u) where
  κ_le : κ ≤ stored_key T u
  κ_le = D.floor u D.pick.u_in D.pick.queued

  not_u : (s : ℕ) → g_at T s ≡ rhs_at T s → s ≢ u
  not_u s e q = D.pick.queued (rw q at e)

  settled_keep : {T' : Tables} {k : Kind} → Did H T T' u k → (s : ℕ) → s < H.graph.cells → Settled H κ T s → Settled H (stored_key T u) T' s
  settled_keep {T'} (did_put_back b) s l d = omega (arith, b.g s l, b.rhs s l, κ_le)
  settled_keep {T'} (did_lower b) s l d = at (b.cells s l (not_u s d.0))
    where
      at : Same T T' s ⊎ Lowered H T T' u s → Settled H (stored_key T u) T' s
      at (inl m) = omega (arith, b.g s l (not_u s d.0), m.rhs, κ_le)
      at (inr m) = absurd (omega (arith, b.ready, b.over, m.sum, m.less, D.stands.laws.near s (parent_at T' s) u m.cost H.target m.comes, κ_le))
  settled_keep {T'} (did_raise b) s l d = at (b.cells s l)
    where
      at : Kept H T T' u s ⊎ Renewed H T T' u s → Settled H (stored_key T u) T' s
      at (inl m) = omega (arith, b.g s l (not_u s d.0), m.rhs, κ_le)
      at (inr m) =
          absurd (omega (
            arith,
            b.ready,
            b.under,
            parent_sum H D.stands T D.right s u m.cost l m.not_hunter m.comes,
            D.stands.laws.near s (parent_at T s) u m.cost H.target m.comes,
            D.stands.laws.cost_pos s (parent_at T s) u m.cost m.comes,
            κ_le,
          ))

  settled_gain : {T' : Tables} → Lower H T T' u → Settled H (stored_key T u) T' u
  settled_gain b = omega (arith, b.ready, b.over, b.g_u, b.rhs_u)

  infinite_keep : {T' : Tables} {k : Kind} → Did H T T' u k → (s : ℕ) → s < H.graph.cells → g_at T s ≡ infinite → Fact raise H (stored_key T u) T' s
  infinite_keep {T'} (did_put_back b) s l e = inr (omega (arith, b.g s l))
  infinite_keep {T'} (did_lower b) s l e = at (ℕ_discrete s u)
    where
      at : Dec (s ≡ u) → Fact raise H (stored_key T u) T' s
      at (yes q) = rw q (inl (settled_gain b))
      at (no n) = inr (omega (arith, b.g s l n))
  infinite_keep {T'} (did_raise b) s l e = at (ℕ_discrete s u)
    where
      at : Dec (s ≡ u) → Fact raise H (stored_key T u) T' s
      at (yes q) = rw q (inr b.g_u)
      at (no n) = inr (omega (arith, b.g s l n))

  fresh_keep : {T' : Tables} {k : Kind} → Did H T T' u k → (s : ℕ) → s < H.graph.cells → Fact put_back H κ T s → Fact put_back H κ T' s
  fresh_keep {T'} (did_put_back b) s l f = at (ℕ_discrete s u)
    where
      at : Dec (s ≡ u) → Fact put_back H κ T' s
      at (yes q) = rw q (fresh_right H κ T' u b.entry_u.full)
      at (no n) = fresh_same H κ T T' s (b.g s l) (b.rhs s l) (b.entry s l n).stored f
  fresh_keep {T'} (did_lower b) s l f = at (ℕ_discrete s u)
    where
      other : s ≢ u → Same T T' s ⊎ Lowered H T T' u s → Fact put_back H κ T' s
      other n (inl m) = fresh_same H κ T T' s (b.g s l n) m.rhs m.entry.stored f
      other n (inr m) = fresh_right H κ T' s m.entry.full

      at : Dec (s ≡ u) → Fact put_back H κ T' s
      at (yes q) = rw q (fresh_right H κ T' u b.entry_u.full)
      at (no n) = other n (b.cells s l n)
  fresh_keep {T'} (did_raise b) s l f = at (ℕ_discrete s u)
    where
      other : s ≢ u → Kept H T T' u s ⊎ Renewed H T T' u s → Fact put_back H κ T' s
      other n (inl m) = fresh_same H κ T T' s (b.g s l n) m.rhs (m.entry n).stored f
      other n (inr m) = fresh_right H κ T' s (m.entry n).full

      at : Dec (s ≡ u) → Fact put_back H κ T' s
      at (yes q) = rw q (fresh_right H κ T' u b.entry_u.full)
      at (no n) = other n (b.cells s l)

  -- every fact of every cell is kept by every step
  pub fact_keep : {T' : Tables} {k : Kind} → Did H T T' u k → (j : Kind) (s : ℕ) → s < H.graph.cells → Fact j H κ T s → Fact j H (stored_key T u) T' s
  fact_keep {T'} d lower s l f = settled_keep d s l f
  fact_keep {T'} d raise s l (inl f) = inl (settled_keep d s l f)
  fact_keep {T'} d raise s l (inr e) = infinite_keep d s l e
  fact_keep {T'} d put_back s l f = fresh_keep d s l f

  -- a step makes its fact true of its cell ..
  pub fact_gain : {T' : Tables} {k : Kind} → Did H T T' u k → Fact k H (stored_key T u) T' u
  fact_gain {T'} (did_put_back b) = fresh_right H κ T' u b.entry_u.full
  fact_gain {T'} (did_lower b) = settled_gain b
  fact_gain {T'} (did_raise b) = inr b.g_u

  -- .. where it was lacking
  pub fact_new : {T' : Tables} {k : Kind} → Did H T T' u k → Fact k H κ T u → ⊥
  fact_new {T'} (did_put_back b) (inl e) = D.pick.queued e
  fact_new {T'} (did_put_back b) (inr e) = omega (arith, b.behind)
  fact_new {T'} (did_lower b) d = D.pick.queued d.0
  fact_new {T'} (did_raise b) (inl d) = D.pick.queued d.0
  fact_new {T'} (did_raise b) (inr e) = omega (arith, b.under, rhs_le H T D.right u D.pick.u_in)

  -- after a step at a key no stored key is below it
  pub floor_keep : {T' : Tables} {k : Kind} → Did H T T' u k → Floor H (stored_key T u) T'
  floor_keep {T'} (did_put_back b) s l q = at (ℕ_discrete s u)
    where
      at : Dec (s ≡ u) → stored_key T u ≤ stored_key T' s
      at (yes e) = rw e (omega (arith, b.behind, b.entry_u.full (rw e at q), b.g u D.pick.u_in, b.rhs u D.pick.u_in))
      at (no n) = omega (arith, (b.entry s l n).stored, D.pick.first s l (λ e. q (b.g s l ∙ e ∙ sym (b.rhs s l))))
  floor_keep {T'} (did_lower b) s l q = at (ℕ_discrete s u)
    where
      under : (n : s ≢ u) (m : Lowered H T T' u s) → Dec (g_at T s < rhs_at T' s) → stored_key T u ≤ stored_key T' s
      under n m (yes v) =
          let q' : Inconsistent T s = λ e. omega (arith, m.less, e) in
          omega (arith, m.entry.full q, b.g s l n, D.pick.first s l q', D.right.keys s l q', m.less)
      under n m (no v) =
          omega (arith, m.entry.full q, b.g s l n, m.sum, b.ready, b.over, D.stands.laws.near s (parent_at T' s) u m.cost H.target m.comes)

      other : s ≢ u → Same T T' s ⊎ Lowered H T T' u s → stored_key T u ≤ stored_key T' s
      other n (inl m) = omega (arith, m.entry.stored, D.pick.first s l (λ e. q (b.g s l n ∙ e ∙ sym m.rhs)))
      other n (inr m) = under n m (dec_le (suc (g_at T s)) (rhs_at T' s))

      at : Dec (s ≡ u) → stored_key T u ≤ stored_key T' s
      at (yes e) = absurd (q (rw e (b.g_u ∙ sym b.rhs_u)))
      at (no n) = other n (b.cells s l n)
  floor_keep {T'} (did_raise b) s l q = at (ℕ_discrete s u)
    where
      up : (s : ℕ) → s < H.graph.cells → Renewed H T T' u s → rhs_at T s ≤ rhs_at T' s
      up s l m = least_mono D.stands.laws (raise_up D.right b) (D.right.least s l m.not_hunter) m.found

      same_u : Inconsistent T' u → rhs_at T u ≤ rhs_at T' u → stored_key T u ≤ stored_key T' u
      same_u q' le = omega (arith, b.entry_u.full q', b.g_u, b.ready, b.under, D.right.g_le u D.pick.u_in)

      at_u : Inconsistent T' u → Kept H T T' u u ⊎ Renewed H T T' u u → stored_key T u ≤ stored_key T' u
      at_u q' (inl m) = same_u q' (omega (arith, m.rhs))
      at_u q' (inr m) = same_u q' (up u D.pick.u_in m)

      under : (n : s ≢ u) (m : Renewed H T T' u s) → rhs_at T s ≤ rhs_at T' s → Dec (g_at T s < rhs_at T s) → stored_key T u ≤ stored_key T' s
      under n m le (yes v) =
          let q' : Inconsistent T s = λ e. omega (arith, e) in
          omega (arith, (m.entry n).full q, b.g s l n, D.pick.first s l q', D.right.keys s l q')
      under n m le (no v) =
          omega (
            arith,
            (m.entry n).full q,
            b.g s l n,
            parent_sum H D.stands T D.right s u m.cost l m.not_hunter m.comes,
            b.ready,
            b.under,
            D.stands.laws.near s (parent_at T s) u m.cost H.target m.comes,
          )

      other : s ≢ u → Kept H T T' u s ⊎ Renewed H T T' u s → stored_key T u ≤ stored_key T' s
      other n (inl m) = omega (arith, (m.entry n).stored, D.pick.first s l (λ e. q (b.g s l n ∙ e ∙ sym m.rhs)))
      other n (inr m) = under n m (up s l m) (dec_le (suc (g_at T s)) (rhs_at T s))

      at : Dec (s ≡ u) → stored_key T u ≤ stored_key T' s
      at (yes e) = rw e (at_u (rw e at q) (b.cells u D.pick.u_in))
      at (no n) = other n (b.cells s l)

-- ---- the cells that lack a fact, counted

dec_⊎ : {A B : Type 0} → Dec A → Dec B → Dec (A ⊎ B)
dec_⊎ (yes a) e = yes (inl a)
dec_⊎ (no n) (yes b) = yes (inr b)
dec_⊎ {A} {B} (no n) (no m) = no at
  where
    at : A ⊎ B → ⊥
    at (inl a) = n a
    at (inr b) = m b

dec_fact : (k : Kind) (H : Hunt) (κ : ℕ) (T : Tables) (s : ℕ) → Dec (Fact k H κ T s)
dec_fact lower H κ T s = dec_settled H κ T s
dec_fact raise H κ T s = dec_⊎ (dec_settled H κ T s) (ℕ_discrete (g_at T s) infinite)
dec_fact put_back H κ T s = dec_⊎ (ℕ_discrete (g_at T s) (rhs_at T s)) (ℕ_discrete (stored_key T s) (key H T s))

pub lacking : Kind → Hunt → ℕ → Tables → ℕ
lacking k H κ T = sum H.graph.cells (λ s. lack (dec_fact k H κ T s))

-- lower's fact is lacking where a cell is not settled
pub lacking_lower : (H : Hunt) (κ : ℕ) (T : Tables) → lacking lower H κ T ≡ unsettled H κ T
unfolding lacking unsettled dec_fact
lacking_lower H κ T = refl

pub lacking_le : (k : Kind) (H : Hunt) (κ : ℕ) (T : Tables) → lacking k H κ T ≤ H.graph.cells
unfolding lacking
lacking_le k H κ T = sum_bound H.graph.cells (λ s. lack (dec_fact k H κ T s)) (λ s l. lack_le (dec_fact k H κ T s))

module _ {H : Hunt} {κ : ℕ} {T T' : Tables} {u : ℕ} (D : Due H κ T u) where
  pub lacking_keep : {k : Kind} → Did H T T' u k → (j : Kind) → lacking j H (stored_key T u) T' ≤ lacking j H κ T
  unfolding lacking
  lacking_keep d j =
      sum_keep H.graph.cells (λ s. lack (dec_fact j H κ T s)) (λ s. lack (dec_fact j H (stored_key T u) T' s))
      (λ s l. lack_keep (dec_fact j H κ T s) (dec_fact j H (stored_key T u) T' s) (fact_keep D d j s l))

  pub lacking_drop : {k : Kind} → Did H T T' u k → lacking k H (stored_key T u) T' < lacking k H κ T
  unfolding lacking
  lacking_drop {k} d =
      sum_drop H.graph.cells (λ s. lack (dec_fact k H κ T s)) (λ s. lack (dec_fact k H (stored_key T u) T' s)) u D.pick.u_in
      (lack_gain (dec_fact k H κ T u) (dec_fact k H (stored_key T u) T' u) (fact_new D d) (fact_gain D d))
      (λ s l. lack_keep (dec_fact k H κ T s) (dec_fact k H (stored_key T u) T' s) (fact_keep D d k s l))

-- All three kinds together: the steps that can still come.
pub to_come : Hunt → ℕ → Tables → ℕ
to_come H κ T = lacking put_back H κ T + lacking lower H κ T + lacking raise H κ T

pub to_come_le : (H : Hunt) (κ : ℕ) (T : Tables) → to_come H κ T ≤ 3 * H.graph.cells
unfolding to_come
to_come_le H κ T = omega (arith, lacking_le put_back H κ T, lacking_le lower H κ T, lacking_le raise H κ T)

-- each step takes at least 1 away
pub to_come_drop : {H : Hunt} {κ : ℕ} {T T' : Tables} {u : ℕ} {k : Kind} → Due H κ T u → Did H T T' u k → to_come H (stored_key T u) T' < to_come H κ T
unfolding to_come
to_come_drop D (did_put_back b) = let d = did_put_back b in omega (arith, lacking_drop D d, lacking_keep D d lower, lacking_keep D d raise)
to_come_drop D (did_lower b) = let d = did_lower b in omega (arith, lacking_drop D d, lacking_keep D d put_back, lacking_keep D d raise)
to_come_drop D (did_raise b) = let d = did_raise b in omega (arith, lacking_drop D d, lacking_keep D d put_back, lacking_keep D d lower)
