-- A step keeps the tables right.
use mathlib.Core.Path.{◌≡◌, refl, sym, ◌∙◌}
use mathlib.Core.Logic.{◌⊎◌, inl, inr, ◌≢◌}
use Prim.Native.Nat.{ℕ, ◌+◌, ◌≤◌, ◌<◌}
use native.Mathlib.Omega.{arith}
use native.Mathlib.Decide.{ℕ_discrete}
use Rattle.method.specs.Numbers.{infinite}
use Rattle.method.specs.Graph.{Graph, Comes, Hunt}
use Rattle.method.specs.Tables.{Tables, g_at, rhs_at, parent_at, stored_key, Reached, Least, LeastAt}
use Rattle.method.specs.Steps.{Kind}
use Rattle.method.specs.During.{Stands, key, Inconsistent, QueueRight, Right}
use Rattle.method.proofs.Notions.{EntryRight, Pick, SameEntry, Same, PutBack, Lowered, Lower, Kept, Renewed, Raise, HunterKept, Did, did_put_back, did_lower, did_raise}
use Rattle.method.proofs.Facts.{raise_up}

-- ---- a cell whose numbers stay

pub queue_same : (T T' : Tables) (s : ℕ) → g_at T' s ≡ g_at T s → rhs_at T' s ≡ rhs_at T s → SameEntry T T' s → QueueRight T s → QueueRight T' s
queue_same T T' s eg er e q = record {
  in_queue = λ n. e.queued ∙ q.in_queue (λ c. n (eg ∙ c ∙ sym er));
  not_in_queue = λ c. e.queued ∙ q.not_in_queue (sym eg ∙ c ∙ er);
  idle = λ c. e.stored ∙ q.idle (sym eg ∙ c ∙ er);
}

pub entry_same : (H : Hunt) (T T' : Tables) (s : ℕ) → g_at T' s ≡ g_at T s → rhs_at T' s ≡ rhs_at T s → SameEntry T T' s → EntryRight H T s → EntryRight H T' s
entry_same H T T' s eg er e q = record {
  queue = queue_same T T' s eg er e q.queue;
  full = λ n. omega (arith, e.stored, q.full (λ c. n (eg ∙ c ∙ sym er)));
}

-- A queue entry as right tables have it.
abbrev pub Held : Hunt → Tables → ℕ → Type 0
Held H T s = QueueRight T s × (Inconsistent T s → stored_key T s ≤ key H T s)

pub held_right : (H : Hunt) (T : Tables) (s : ℕ) → EntryRight H T s → Held H T s
held_right H T s e = (e.queue, λ n. omega (arith, e.full n))

pub held_same : (H : Hunt) (T T' : Tables) (s : ℕ) → g_at T' s ≡ g_at T s → rhs_at T' s ≡ rhs_at T s → SameEntry T T' s → Held H T s → Held H T' s
held_same H T T' s eg er e h = (queue_same T T' s eg er e h.0, λ n. omega (arith, e.stored, h.1 (λ c. n (eg ∙ c ∙ sym er))))

-- A cell's rhs stays the least sum if no sum has fallen below it and its parent's move and sum stay.
pub least_stays : {G G' : Graph} {g g' : ℕ → ℕ} {s r p : ℕ} → ((k w c : ℕ) → Comes G' s k w c → r ≤ g' w + c)
    → ((w c : ℕ) → Comes G s p w c → r ≡ g w + c → Comes G' s p w c × (g' w ≡ g w)) → Least G g s r p → Least G' g' s r p
least_stays {G} {G'} {g} {g'} {s} {r} {p} all same L = record { le_inf = L.le_inf; least = all; reached = at L.reached }
  where
    at : Reached G g s r p → Reached G' g' s r p
    at (inl z) = inl z
    at (inr v) =
        let e = same v.1.from v.1.cost v.1.comes v.1.sum in
        inr (v.0, record { from = v.1.from; cost = v.1.cost; comes = e.0; sum = omega (arith, v.1.sum, e.1) })

module _ {H : Hunt} {T : Tables} {u : ℕ} (L : Stands H) (R : Right H T) (P : Pick H T u) where
  held : (s : ℕ) → s < H.graph.cells → Held H T s
  held s l = (R.queue s l, R.keys s l)

  keep_put_back : {T' : Tables} → PutBack H T T' u → Right H T'
  keep_put_back {T'} b = record {
    g_le = λ s l. rw (b.g s l) (R.g_le s l);
    hunter_finite = rw (b.rhs H.hunter L.hunter_in) R.hunter_finite;
    hunter_parent = b.parent H.hunter L.hunter_in ∙ R.hunter_parent;
    least = λ s l n.
        rw (b.rhs s l, b.parent s l)
        (least_stays (λ k w c a. omega (arith, (R.least s l n).least k w c a, b.g w (L.laws.from_in s k w c a)))
        (λ w c a _. (a, b.g w (L.laws.from_in s (parent_at T s) w c a))) (R.least s l n));
    queue = λ s l. (at s l (ℕ_discrete s u)).0;
    keys = λ s l. (at s l (ℕ_discrete s u)).1;
  }
    where
      at : (s : ℕ) → s < H.graph.cells → Dec (s ≡ u) → Held H T' s
      at s l (yes e) = rw e (held_right H T' u b.entry_u)
      at s l (no n) = held_same H T T' s (b.g s l) (b.rhs s l) (b.entry s l n) (held s l)

  -- a cell that is not lowered (u itself too): its rhs stays the least sum
  lower_cell : {T' : Tables} → Lower H T T' u → (s : ℕ) → s < H.graph.cells → s ≢ H.hunter → ((k c : ℕ) → Comes H.graph s k u c → rhs_at T s ≤ rhs_at T u + c)
      → Least H.graph (λ w. g_at T' w) s (rhs_at T s) (parent_at T s)
  lower_cell {T'} b s l ns all = least_stays (λ k w c a. sums k w c a (ℕ_discrete w u)) (λ w c a e. (a, via w c a e (ℕ_discrete w u))) (R.least s l ns)
    where
      sums : (k w c : ℕ) → Comes H.graph s k w c → Dec (w ≡ u) → rhs_at T s ≤ g_at T' w + c
      sums k w c a (yes e) = rw (e, b.g_u) (all k c (rw e at a))
      sums k w c a (no n) = rw (b.g w (L.laws.from_in s k w c a) n) ((R.least s l ns).least k w c a)

      via : (w c : ℕ) → Comes H.graph s (parent_at T s) w c → rhs_at T s ≡ g_at T w + c → Dec (w ≡ u) → g_at T' w ≡ g_at T w
      via w c a f (yes e) =
          let a' : Comes H.graph s (parent_at T s) u c = rw e at a in
          let f' : rhs_at T s ≡ g_at T u + c = rw e at f in
          absurd (omega (arith, b.over, all (parent_at T s) c a'))
      via w c a f (no n) = b.g w (L.laws.from_in s (parent_at T s) w c a) n

  -- a lowered cell
  lower_new : {T' : Tables} → Lower H T T' u → (s : ℕ) → s < H.graph.cells → s ≢ u → Lowered H T T' u s → LeastAt H.graph T' s
  lower_new {T'} b s l n m = record {
    le_inf = omega (arith, m.less, A.le_inf);
    least = λ k w c a. sums k w c a (ℕ_discrete w u);
    reached = inr (omega (arith, m.less, A.le_inf), record { from = u; cost = m.cost; comes = m.comes; sum = rw b.g_u m.sum });
  }
    where
      A : LeastAt H.graph T s
      A = R.least s l m.not_hunter

      sums : (k w c : ℕ) → Comes H.graph s k w c → Dec (w ≡ u) → rhs_at T' s ≤ g_at T' w + c
      sums k w c a (yes e) = rw (e, b.g_u) (b.all s k c m.not_hunter n (rw e at a))
      sums k w c a (no n') = omega (arith, b.g w (L.laws.from_in s k w c a) n', A.least k w c a, m.less)

  pub lower_hunter : {T' : Tables} → Lower H T T' u → HunterKept H T T'
  lower_hunter {T'} b = at (ℕ_discrete H.hunter u)
    where
      other : Same T T' H.hunter ⊎ Lowered H T T' u H.hunter → HunterKept H T T'
      other (inl m) = record { rhs = m.rhs; parent = m.parent }
      other (inr m) = absurd (m.not_hunter refl)

      at : Dec (H.hunter ≡ u) → HunterKept H T T'
      at (yes e) = record { rhs = rw e b.rhs_u; parent = rw e b.parent_u }
      at (no n) = other (b.cells H.hunter L.hunter_in n)

  keep_lower : {T' : Tables} → Lower H T T' u → Right H T'
  keep_lower {T'} b = record {
    g_le = λ s l. at_g s l (ℕ_discrete s u);
    hunter_finite = rw (lower_hunter b).rhs R.hunter_finite;
    hunter_parent = (lower_hunter b).parent ∙ R.hunter_parent;
    least = λ s l ns. cell s l ns (ℕ_discrete s u);
    queue = λ s l. (at s l (ℕ_discrete s u)).0;
    keys = λ s l. (at s l (ℕ_discrete s u)).1;
  }
    where
      at_g : (s : ℕ) → s < H.graph.cells → Dec (s ≡ u) → g_at T' s ≤ infinite
      at_g s l (yes e) = rw e (omega (arith, b.g_u, b.over, R.g_le u P.u_in))
      at_g s l (no n) = omega (arith, b.g s l n, R.g_le s l)

      other : (s : ℕ) → s < H.graph.cells → s ≢ H.hunter → s ≢ u → Same T T' s ⊎ Lowered H T T' u s → LeastAt H.graph T' s
      other s l ns n (inl m) = rw (m.rhs, m.parent) (lower_cell b s l ns (λ k c a. rw m.rhs at (b.all s k c ns n a)))
      other s l ns n (inr m) = lower_new b s l n m

      cell : (s : ℕ) → s < H.graph.cells → s ≢ H.hunter → Dec (s ≡ u) → LeastAt H.graph T' s
      cell s l ns (yes e) = rw (e, b.rhs_u, b.parent_u) (lower_cell b u P.u_in (rw e at ns) (λ k c a. omega arith))
      cell s l ns (no n) = other s l ns n (b.cells s l n)

      entry : (s : ℕ) → s < H.graph.cells → s ≢ u → Same T T' s ⊎ Lowered H T T' u s → Held H T' s
      entry s l n (inl m) = held_same H T T' s (b.g s l n) m.rhs m.entry (held s l)
      entry s l n (inr m) = held_right H T' s m.entry

      at : (s : ℕ) → s < H.graph.cells → Dec (s ≡ u) → Held H T' s
      at s l (yes e) = rw e (held_right H T' u b.entry_u)
      at s l (no n) = entry s l n (b.cells s l n)

  pub raise_hunter : {T' : Tables} → Raise H T T' u → HunterKept H T T'
  raise_hunter {T'} b = at (b.cells H.hunter L.hunter_in)
    where
      at : Kept H T T' u H.hunter ⊎ Renewed H T T' u H.hunter → HunterKept H T T'
      at (inl m) = record { rhs = m.rhs; parent = m.parent }
      at (inr m) = absurd (m.not_hunter refl)

  keep_raise : {T' : Tables} → Raise H T T' u → Right H T'
  keep_raise {T'} b = record {
    g_le = λ s l. at_g s l (ℕ_discrete s u);
    hunter_finite = rw (raise_hunter b).rhs R.hunter_finite;
    hunter_parent = (raise_hunter b).parent ∙ R.hunter_parent;
    least = λ s l ns. cell s l ns (b.cells s l);
    queue = λ s l. (at s l (ℕ_discrete s u)).0;
    keys = λ s l. (at s l (ℕ_discrete s u)).1;
  }
    where
      at_g : (s : ℕ) → s < H.graph.cells → Dec (s ≡ u) → g_at T' s ≤ infinite
      at_g s l (yes e) = rw e (omega (arith, b.g_u))
      at_g s l (no n) = omega (arith, b.g s l n, R.g_le s l)

      cell : (s : ℕ) → s < H.graph.cells → s ≢ H.hunter → Kept H T T' u s ⊎ Renewed H T T' u s → LeastAt H.graph T' s
      cell s l ns (inl m) =
          rw (m.rhs, m.parent)
          (least_stays (λ k w c a. omega (arith, (R.least s l ns).least k w c a, raise_up R b w (L.laws.from_in s k w c a))) (λ w c a _. (a, via w c a (ℕ_discrete w u))) (R.least s l ns))
        where
          via : (w c : ℕ) → Comes H.graph s (parent_at T s) w c → Dec (w ≡ u) → g_at T' w ≡ g_at T w
          via w c a (yes e) = absurd (m.not_parent ns c (rw e at a))
          via w c a (no n) = b.g w (L.laws.from_in s (parent_at T s) w c a) n
      cell s l ns (inr m) = m.found

      entry : (s : ℕ) → s < H.graph.cells → s ≢ u → Kept H T T' u s ⊎ Renewed H T T' u s → Held H T' s
      entry s l n (inl m) = held_same H T T' s (b.g s l n) m.rhs (m.entry n) (held s l)
      entry s l n (inr m) = held_right H T' s (m.entry n)

      at : (s : ℕ) → s < H.graph.cells → Dec (s ≡ u) → Held H T' s
      at s l (yes e) = rw e (held_right H T' u b.entry_u)
      at s l (no n) = entry s l n (b.cells s l)

  pub keep : {T' : Tables} {k : Kind} → Did H T T' u k → Right H T'
  keep (did_put_back b) = keep_put_back b
  keep (did_lower b) = keep_lower b
  keep (did_raise b) = keep_raise b
