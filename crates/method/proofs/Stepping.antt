-- Document 01's step on the lists of the tables is a step of the kind that `kind_of` names.
use mathlib.Core.Path.{◌≡◌, refl, ap, ◌∙◌}
use mathlib.Core.Bool.{false}
use mathlib.Core.Logic.{◌⊎◌, inl, inr, ◌≢◌}
use mathlib.Core.List.Memᴰ
use mathlib.Core.List.{List, [], ◌∷◌, Memᴰ}
use Prim.Native.Nat.{ℕ, ◌+◌, ◌≤◌, ◌<◌}
use native.Mathlib.Omega.{arith}
use native.Mathlib.Decide.{ℕ_discrete}
use lib.ListN.{get_or, set}
use lib.Seq.{get_or-set_same, get_or-set_other}
use Rattle.decide.proofs.ChooseLaws.{choose_is}
use Rattle.method.specs.Numbers.{infinite}
use Rattle.method.specs.Graph.{Move, move, Hunt}
use Rattle.method.specs.Tables.{Tables, Sized, g_at, rhs_at, parent_at, with_g, with_rhs, stored_key, calculated_key, enter, leave, set_right, anew, found_anew}
use Rattle.method.specs.Steps.{relaxed, relaxed_all, lowered, renewed, renewed_all, raised, Kind, put_back, lower, raise, kind_of, stepped_by, stepped}
use Rattle.method.specs.During.{Stands, key, Right}
use Rattle.method.proofs.Notions.{EntryRight, Pick, Same, PutBack, Lowered, Lower, Kept, Renewed, Raise, Did, did_put_back, did_lower, did_raise}
use Rattle.method.proofs.Facts.{rhs_le}
use Rattle.method.proofs.Keeping.{entry_same}
use Rattle.method.proofs.LeastSums.{anew_least, least_cast}
use Rattle.method.proofs.Entries.{with_g_sized, with_rhs_sized, with_entry_sized, enter_sized, set_right_sized, found_anew_sized}
use Rattle.method.proofs.Entries.{key_finite, other_entry, Righted, leave_righted, enter_righted, righted, Reset, reset, anew_reset}

-- ---- the lengths

pub relaxed_sized : {n : ℕ} {T : Tables} → Sized n T → (H : Hunt) (v : ℕ) (m : Move) → Sized n (relaxed H v T m)
unfolding relaxed
relaxed_sized {n} {T} z H v m =
    choose_is (λ x. Sized n x) _ (λ _. z)
    (λ _. choose_is (λ x. Sized n x) _ (λ _. set_right_sized (with_rhs_sized z m.cell (v + m.cost) m.code) H m.cell) (λ _. z))

pub relaxed_all_sized : {n : ℕ} {T : Tables} → Sized n T → (H : Hunt) (v : ℕ) (l : List Move) → Sized n (relaxed_all H v T l)
unfolding relaxed_all
relaxed_all_sized z H v [] = z
relaxed_all_sized {T = T} z H v (m ∷ l) = relaxed_all_sized {T = relaxed H v T m} (relaxed_sized z H v m) H v l

pub lowered_sized : {n : ℕ} {T : Tables} → Sized n T → (H : Hunt) (u : ℕ) → Sized n (lowered H T u)
unfolding lowered
lowered_sized {T = T} z H u = relaxed_all_sized (with_entry_sized (with_g_sized z u (rhs_at T u)) u 0 0 false) H (rhs_at T u) (H.graph.out u)

pub renewed_sized : {n : ℕ} {T : Tables} → Sized n T → (H : Hunt) (m : Move) → Sized n (renewed H T m)
unfolding renewed
renewed_sized {n} {T} z H m =
    choose_is (λ x. Sized n x) _ (λ _. z)
    (λ _. choose_is (λ x. Sized n x) _ (λ _. found_anew_sized z H m.cell) (λ _. z))

pub renewed_all_sized : {n : ℕ} {T : Tables} → Sized n T → (H : Hunt) (l : List Move) → Sized n (renewed_all H T l)
unfolding renewed_all
renewed_all_sized z H [] = z
renewed_all_sized {T = T} z H (m ∷ l) = renewed_all_sized {T = renewed H T m} (renewed_sized z H m) H l

pub raised_sized : {n : ℕ} {T : Tables} → Sized n T → (H : Hunt) (u : ℕ) → Sized n (raised H T u)
unfolding raised
raised_sized z H u = set_right_sized (renewed_all_sized (with_g_sized z u infinite) H (H.graph.out u)) H u

pub stepped_sized : {n : ℕ} {T : Tables} → Sized n T → (H : Hunt) (u : ℕ) → Sized n (stepped H T u)
unfolding stepped stepped_by
stepped_sized {n} {T} z H u = at (kind_of H T u)
  where
    at : (k : Kind) → Sized n (stepped_by k H T u)
    at put_back = enter_sized z H u
    at lower = lowered_sized z H u
    at raise = raised_sized z H u

-- ---- lower: what relaxing a list of moves does to one cell

same_refl : (T : Tables) (t : ℕ) → Same T T t
same_refl T t = record { rhs = refl; parent = refl; entry = record { stored = refl; queued = refl } }

same_join : {T U E : Tables} {t : ℕ} → Same T U t → Same U E t → Same T E t
same_join m k = record {
  rhs = k.rhs ∙ m.rhs;
  parent = k.parent ∙ m.parent;
  entry = record { stored = k.entry.stored ∙ m.entry.stored; queued = k.entry.queued ∙ m.entry.queued };
}

-- every g and rhs of n cells is at most infinite
Small : ℕ → Tables → Type 0
Small n T = (t : ℕ) → t < n → (g_at T t ≤ infinite) × (rhs_at T t ≤ infinite)

record Sunk (H : Hunt) (v : ℕ) (l : List Move) (T T' : Tables) (t : ℕ) : Type 0 where
  not_hunter : t ≢ H.hunter
  cost : ℕ
  mem : Memᴰ (move (parent_at T' t) t cost) l
  sum : rhs_at T' t ≡ v + cost
  less : rhs_at T' t < rhs_at T t
  entry : EntryRight H T' t

record Relaxes (H : Hunt) (v n : ℕ) (l : List Move) (T T' : Tables) : Type 0 where
  g : T'.g ≡ T.g
  cells : (t : ℕ) → t < n → Same T T' t ⊎ Sunk H v l T T' t
  fits : (t k c : ℕ) → t < n → t ≢ H.hunter → Memᴰ (move k t c) l → rhs_at T' t ≤ v + c

module _ (H : Hunt) (v n : ℕ) where
  falls : {l : List Move} {T T' : Tables} → Relaxes H v n l T T' → (t : ℕ) → t < n → rhs_at T' t ≤ rhs_at T t
  falls {l} {T} {T'} r t lt = at (r.cells t lt)
    where
      at : Same T T' t ⊎ Sunk H v l T T' t → rhs_at T' t ≤ rhs_at T t
      at (inl m) = omega (arith, m.rhs)
      at (inr m) = omega (arith, m.less)

  -- one move
  relax_one : (T : Tables) (m : Move) → Sized n T → m.cell < n → Small n T → Relaxes H v n (m ∷ []) T (relaxed H v T m)
  unfolding relaxed Small
  relax_one T m z l small =
      choose_is (λ x. Relaxes H v n (m ∷ []) T x) _ (λ e. stays (λ ns. absurd (ns e)))
      (λ ns. choose_is (λ x. Relaxes H v n (m ∷ []) T x) _ (sinks ns) (λ nlt. stays (λ _. omega arith)))
    where
      s : ℕ
      s = m.cell

      fit : (E : Tables) → (s ≢ H.hunter → rhs_at E s ≤ v + m.cost) → (t k c : ℕ) → t < n → t ≢ H.hunter → Memᴰ (move k t c) (m ∷ []) → rhs_at E t ≤ v + c
      fit E f t k c lt ns q =
          let e = Memᴰ.eq_of_singleton q in
          let et : t ≡ s = ap (λ x. x.cell) e in
          let ec : c ≡ m.cost = ap (λ x. x.cost) e in
          rw (et, ec) (f (rw et at ns))

      stays : (s ≢ H.hunter → rhs_at T s ≤ v + m.cost) → Relaxes H v n (m ∷ []) T T
      stays f = record { g = refl; cells = λ t _. inl (same_refl T t); fits = fit T f }

      E : Tables
      E = set_right H (with_rhs T s (v + m.cost) m.code) s

      sinks : s ≢ H.hunter → v + m.cost < rhs_at T s → Relaxes H v n (m ∷ []) T E
      sinks ns lt = record { g = R.g; cells = λ t _. cell t (ℕ_discrete t s); fits = fit E (λ _. omega (arith, R.rhs)) }
        where
          R : Reset H T E s (v + m.cost) m.code
          R = reset H T s (v + m.cost) m.code z l (small s l).0 (omega (arith, (small s l).1))

          cell : (t : ℕ) → Dec (t ≡ s) → Same T E t ⊎ Sunk H v (m ∷ []) T E t
          cell t (yes e) = rw e (inr (record {
            not_hunter = ns;
            cost = m.cost;
            mem = Memᴰ.head (ap (λ k. move k s m.cost) R.parent);
            sum = R.rhs;
            less = omega (arith, R.rhs);
            entry = R.entry;
          }))
          cell t (no ne) = inl (R.other t ne)

  relax_join : (m : Move) (l : List Move) (T U E : Tables) → Relaxes H v n (m ∷ []) T U → Relaxes H v n l U E → Relaxes H v n (m ∷ l) T E
  relax_join m l T U E P Q = record {
    g = Q.g ∙ P.g;
    cells = λ t lt. join t (P.cells t lt) (Q.cells t lt);
    fits = λ t k c lt ns i. fit t k c lt ns (Memᴰ.cases_cons i);
  }
    where
      fit : (t k c : ℕ) → t < n → t ≢ H.hunter → (move k t c ≡ m) ⊎ Memᴰ (move k t c) l → rhs_at E t ≤ v + c
      fit t k c lt ns (inl e) = omega (arith, P.fits t k c lt ns (Memᴰ.head e), falls Q t lt)
      fit t k c lt ns (inr i) = Q.fits t k c lt ns i

      later : (t : ℕ) → Sunk H v l U E t → rhs_at E t < rhs_at T t → Sunk H v (m ∷ l) T E t
      later t q lt = record { not_hunter = q.not_hunter; cost = q.cost; mem = Memᴰ.tail q.mem; sum = q.sum; less = lt; entry = q.entry }

      join : (t : ℕ) → Same T U t ⊎ Sunk H v (m ∷ []) T U t → Same U E t ⊎ Sunk H v l U E t → Same T E t ⊎ Sunk H v (m ∷ l) T E t
      join t (inl p) (inl q) = inl (same_join p q)
      join t (inl p) (inr q) = inr (later t q (omega (arith, q.less, p.rhs)))
      join t (inr p) (inl q) = inr (record {
        not_hunter = p.not_hunter;
        cost = p.cost;
        mem = Memᴰ.head (ap (λ k. move k t p.cost) q.parent ∙ Memᴰ.eq_of_singleton p.mem);
        sum = q.rhs ∙ p.sum;
        less = omega (arith, p.less, q.rhs);
        entry = entry_same H U E t (ap (λ x. get_or x t 0) Q.g) q.rhs q.entry p.entry;
      })
      join t (inr p) (inr q) = inr (later t q (omega (arith, q.less, p.less)))

  relax_all : (T : Tables) (l : List Move) → Sized n T → ((k t c : ℕ) → Memᴰ (move k t c) l → t < n) → Small n T → Relaxes H v n l T (relaxed_all H v T l)
  unfolding relaxed_all Small
  relax_all T [] z f small = record { g = refl; cells = λ t _. inl (same_refl T t); fits = λ t k c lt ns i. absurd (Memᴰ.not-nil i) }
  relax_all T (m ∷ l) z f small =
      let P = relax_one T m z (f m.code m.cell m.cost (Memᴰ.head refl)) small in
      let small' : Small n (relaxed H v T m) = λ t lt. (omega (arith, ap (λ x. get_or x t 0) P.g, (small t lt).0), omega (arith, falls P t lt, (small t lt).1)) in
      relax_join m l T (relaxed H v T m) (relaxed_all H v (relaxed H v T m) l) P
      (relax_all (relaxed H v T m) l (relaxed_sized z H v m) (λ k t c i. f k t c (Memᴰ.tail i)) small')

-- ---- raise: what finding anew along a list of moves does to one cell

record Rests (H : Hunt) (l : List Move) (T T' : Tables) (t : ℕ) : Type 0 where
  same : Same T T' t
  not_parent : t ≢ H.hunter → (c : ℕ) → Memᴰ (move (parent_at T t) t c) l → ⊥

record Remade (H : Hunt) (l : List Move) (T T' : Tables) (t : ℕ) : Type 0 where
  not_hunter : t ≢ H.hunter
  cost : ℕ
  mem : Memᴰ (move (parent_at T t) t cost) l
  rhs : rhs_at T' t ≡ (anew H.graph T.g t).sum
  parent : parent_at T' t ≡ (anew H.graph T.g t).code
  entry : EntryRight H T' t

record Renews (H : Hunt) (n : ℕ) (l : List Move) (T T' : Tables) : Type 0 where
  g : T'.g ≡ T.g
  cells : (t : ℕ) → t < n → Rests H l T T' t ⊎ Remade H l T T' t

module _ (H : Hunt) (n : ℕ) where
  renew_one : (T : Tables) (m : Move) → Sized n T → m.cell < n → g_at T m.cell ≤ infinite → Renews H n (m ∷ []) T (renewed H T m)
  unfolding renewed
  renew_one T m z l lg =
      choose_is (λ x. Renews H n (m ∷ []) T x) _ (λ e. stays (λ ns. absurd (ns e)))
      (λ ns. choose_is (λ x. Renews H n (m ∷ []) T x) _ (made ns) (λ np. stays (λ _. np)))
    where
      s : ℕ
      s = m.cell

      stays : (s ≢ H.hunter → parent_at T s ≢ m.code) → Renews H n (m ∷ []) T T
      stays f = record { g = refl; cells = λ t _. inl (record { same = same_refl T t; not_parent = λ ns c i. off t c ns (Memᴰ.eq_of_singleton i) }) }
        where
          off : (t c : ℕ) → t ≢ H.hunter → move (parent_at T t) t c ≡ m → ⊥
          off t c ns e =
              let et : t ≡ s = ap (λ x. x.cell) e in
              f (rw et at ns) (rw et at (ap (λ x. x.code) e))

      made : s ≢ H.hunter → parent_at T s ≡ m.code → Renews H n (m ∷ []) T (found_anew H T s)
      made ns ep = record { g = R.g; cells = λ t _. cell t (ℕ_discrete t s) }
        where
          R : Reset H T (found_anew H T s) s (anew H.graph T.g s).sum (anew H.graph T.g s).code
          R = anew_reset H T s z l lg

          cell : (t : ℕ) → Dec (t ≡ s) → Rests H (m ∷ []) T (found_anew H T s) t ⊎ Remade H (m ∷ []) T (found_anew H T s) t
          cell t (yes e) = rw e (inr (record {
            not_hunter = ns;
            cost = m.cost;
            mem = Memᴰ.head (ap (λ k. move k s m.cost) ep);
            rhs = R.rhs;
            parent = R.parent;
            entry = R.entry;
          }))
          cell t (no ne) = inl (record { same = R.other t ne; not_parent = λ _ c i. ne (ap (λ x. x.cell) (Memᴰ.eq_of_singleton i)) })

  renew_join : (m : Move) (l : List Move) (T U E : Tables) → Renews H n (m ∷ []) T U → Renews H n l U E → Renews H n (m ∷ l) T E
  renew_join m l T U E P Q = record { g = Q.g ∙ P.g; cells = λ t lt. join t (P.cells t lt) (Q.cells t lt) }
    where
      join : (t : ℕ) → Rests H (m ∷ []) T U t ⊎ Remade H (m ∷ []) T U t → Rests H l U E t ⊎ Remade H l U E t → Rests H (m ∷ l) T E t ⊎ Remade H (m ∷ l) T E t
      join t (inl p) (inl q) = inl (record { same = same_join p.same q.same; not_parent = λ ns c i. off ns c (Memᴰ.cases_cons i) })
        where
          off : t ≢ H.hunter → (c : ℕ) → (move (parent_at T t) t c ≡ m) ⊎ Memᴰ (move (parent_at T t) t c) l → ⊥
          off ns c (inl e) = p.not_parent ns c (Memᴰ.head e)
          off ns c (inr i) = q.not_parent ns c (rw p.same.parent i)
      join t (inl p) (inr q) = inr (record {
        not_hunter = q.not_hunter;
        cost = q.cost;
        mem = Memᴰ.tail (rw p.same.parent at q.mem);
        rhs = rw P.g at q.rhs;
        parent = rw P.g at q.parent;
        entry = q.entry;
      })
      join t (inr p) (inl q) = inr (record {
        not_hunter = p.not_hunter;
        cost = p.cost;
        mem = Memᴰ.head (Memᴰ.eq_of_singleton p.mem);
        rhs = q.same.rhs ∙ p.rhs;
        parent = q.same.parent ∙ p.parent;
        entry = entry_same H U E t (ap (λ x. get_or x t 0) Q.g) q.same.rhs q.same.entry p.entry;
      })
      join t (inr p) (inr q) = inr (record {
        not_hunter = p.not_hunter;
        cost = p.cost;
        mem = Memᴰ.head (Memᴰ.eq_of_singleton p.mem);
        rhs = rw P.g at q.rhs;
        parent = rw P.g at q.parent;
        entry = q.entry;
      })

  renew_all : (T : Tables) (l : List Move) → Sized n T → ((k t c : ℕ) → Memᴰ (move k t c) l → t < n) → ((t : ℕ) → t < n → g_at T t ≤ infinite)
      → Renews H n l T (renewed_all H T l)
  unfolding renewed_all
  renew_all T [] z f small = record { g = refl; cells = λ t _. inl (record { same = same_refl T t; not_parent = λ ns c i. Memᴰ.not-nil i }) }
  renew_all T (m ∷ l) z f small =
      let lm : m.cell < n = f m.code m.cell m.cost (Memᴰ.head refl) in
      let P = renew_one T m z lm (small m.cell lm) in
      renew_join m l T (renewed H T m) (renewed_all H (renewed H T m) l) P
      (renew_all (renewed H T m) l (renewed_sized z H m) (λ k t c i. f k t c (Memᴰ.tail i)) (λ t lt. omega (arith, ap (λ x. get_or x t 0) P.g, small t lt)))

-- ---- the steps

module _ {H : Hunt} {T : Tables} {u : ℕ} (L : Stands H) (z : Sized H.graph.cells T) (R : Right H T) (P : Pick H T u) where
  out_in : (k t c : ℕ) → Memᴰ (move k t c) (H.graph.out u) → t < H.graph.cells
  out_in k t c i = L.laws.to_in t k u c (L.laws.comes_in t k u c i)

  put_back_is : stored_key T u < key H T u → PutBack H T (enter H T u) u
  unfolding enter
  put_back_is lt =
      let E = enter_righted H T u z P.u_in (R.g_le u P.u_in) (rhs_le H T R u P.u_in) P.queued in
      record { behind = lt; g = λ s _. refl; rhs = λ s _. refl; parent = λ s _. refl; entry_u = E.entry; entry = λ s _ ne. E.other s ne }

  lower_is : stored_key T u ≡ key H T u → rhs_at T u < g_at T u → Lower H T (lowered H T u) u
  unfolding lowered Small
  lower_is rd ov = record {
    ready = rd;
    over = ov;
    g_u = g_u;
    rhs_u = u_same.rhs;
    parent_u = u_same.parent;
    entry_u = entry_same H T₀ E u (ap (λ x. get_or x u 0) Q.g) u_same.rhs u_same.entry (leave_righted H (with_g T u v) u (with_g_sized z u v) P.u_in g₀_u).entry;
    g = λ s _ ne. ap (λ x. get_or x s 0) Q.g ∙ get_or-set_other T.g u s v 0 ne;
    cells = λ s l ne. cell s ne (Q.cells s l);
    all = λ s k c ns _ a. Q.fits s k c (L.laws.to_in s k u c a) ns (L.laws.goes_out s k u c a);
  }
    where
      v : ℕ
      v = rhs_at T u

      T₀ : Tables
      T₀ = leave (with_g T u v) u

      E : Tables
      E = relaxed_all H v T₀ (H.graph.out u)

      g₀_u : get_or (set T.g u v) u 0 ≡ v
      g₀_u = get_or-set_same T.g u v 0 (omega (arith, z.g, P.u_in))

      g₀ : (t : ℕ) → t < H.graph.cells → Dec (t ≡ u) → get_or (set T.g u v) t 0 ≤ infinite
      g₀ t l (yes e) = rw e (omega (arith, g₀_u, rhs_le H T R u P.u_in))
      g₀ t l (no ne) = omega (arith, get_or-set_other T.g u t v 0 ne, R.g_le t l)

      Q : Relaxes H v H.graph.cells (H.graph.out u) T₀ E
      Q =
          relax_all H v H.graph.cells T₀ (H.graph.out u) (with_entry_sized (with_g_sized z u v) u 0 0 false) out_in
          (λ t l. (g₀ t l (ℕ_discrete t u), rhs_le H T R t l))

      g_u : g_at E u ≡ v
      g_u = ap (λ x. get_or x u 0) Q.g ∙ g₀_u

      u_same : Same T₀ E u
      u_same = at (Q.cells u P.u_in)
        where
          at : Same T₀ E u ⊎ Sunk H v (H.graph.out u) T₀ E u → Same T₀ E u
          at (inl p) = p
          at (inr p) = absurd (omega (arith, p.less, p.sum))

      cell : (s : ℕ) → s ≢ u → Same T₀ E s ⊎ Sunk H v (H.graph.out u) T₀ E s → Same T E s ⊎ Lowered H T E u s
      cell s ne (inl p) =
          let e = other_entry (with_g T u v) u 0 0 false s ne in
          inl (record { rhs = p.rhs; parent = p.parent; entry = record { stored = p.entry.stored ∙ e.stored; queued = p.entry.queued ∙ e.queued } })
      cell s ne (inr p) = inr (record {
        not_hunter = p.not_hunter;
        cost = p.cost;
        comes = L.laws.comes_in s (parent_at E s) u p.cost p.mem;
        sum = p.sum;
        less = p.less;
        entry = p.entry;
      })

  raise_is : stored_key T u ≡ key H T u → g_at T u < rhs_at T u → Raise H T (raised H T u) u
  unfolding raised
  raise_is rd un = record {
    ready = rd;
    under = un;
    g_u = ap (λ x. get_or x u 0) (B.g ∙ Q.g) ∙ g₀_u;
    g = λ s _ ne. ap (λ x. get_or x s 0) (B.g ∙ Q.g) ∙ get_or-set_other T.g u s infinite 0 ne;
    entry_u = B.entry;
    cells = λ s l. cell s (Q.cells s l);
  }
    where
      T₀ : Tables
      T₀ = with_g T u infinite

      U : Tables
      U = renewed_all H T₀ (H.graph.out u)

      E : Tables
      E = set_right H U u

      z_u : Sized H.graph.cells U
      z_u = renewed_all_sized (with_g_sized z u infinite) H (H.graph.out u)

      g₀_u : get_or (set T.g u infinite) u 0 ≡ infinite
      g₀_u = get_or-set_same T.g u infinite 0 (omega (arith, z.g, P.u_in))

      g₀ : (t : ℕ) → t < H.graph.cells → Dec (t ≡ u) → get_or (set T.g u infinite) t 0 ≤ infinite
      g₀ t l (yes e) = rw e (omega (arith, g₀_u))
      g₀ t l (no ne) = omega (arith, get_or-set_other T.g u t infinite 0 ne, R.g_le t l)

      Q : Renews H H.graph.cells (H.graph.out u) T₀ U
      Q = renew_all H H.graph.cells T₀ (H.graph.out u) (with_g_sized z u infinite) out_in (λ t l. g₀ t l (ℕ_discrete t u))

      rhs_U : Rests H (H.graph.out u) T₀ U u ⊎ Remade H (H.graph.out u) T₀ U u → rhs_at U u ≤ infinite
      rhs_U (inl p) = omega (arith, p.same.rhs, rhs_le H T R u P.u_in)
      rhs_U (inr p) = omega (arith, p.rhs, (anew_least H.graph T₀.g u).le_inf)

      B : Righted H U E u
      B = righted H U u z_u P.u_in (omega (arith, ap (λ x. get_or x u 0) Q.g, g₀_u)) (rhs_U (Q.cells u P.u_in))

      at_rhs : (s : ℕ) → rhs_at E s ≡ rhs_at U s
      at_rhs s = ap (λ x. get_or x s 0) B.rhs

      at_parent : (s : ℕ) → parent_at E s ≡ parent_at U s
      at_parent s = ap (λ x. get_or x s 0) B.parent

      cell : (s : ℕ) → Rests H (H.graph.out u) T₀ U s ⊎ Remade H (H.graph.out u) T₀ U s → Kept H T E u s ⊎ Renewed H T E u s
      cell s (inl p) = inl (record {
        rhs = at_rhs s ∙ p.same.rhs;
        parent = at_parent s ∙ p.same.parent;
        entry = λ ne. record { stored = (B.other s ne).stored ∙ p.same.entry.stored; queued = (B.other s ne).queued ∙ p.same.entry.queued };
        not_parent = λ ns c a. p.not_parent ns c (L.laws.goes_out s (parent_at T s) u c a);
      })
      cell s (inr p) = inr (record {
        not_hunter = p.not_hunter;
        cost = p.cost;
        comes = L.laws.comes_in s (parent_at T s) u p.cost p.mem;
        found = least_cast (B.g ∙ Q.g) (at_rhs s ∙ p.rhs) (at_parent s ∙ p.parent) (anew_least H.graph T₀.g s);
        entry = λ ne. entry_same H U E s (ap (λ x. get_or x s 0) B.g) (at_rhs s) (B.other s ne) p.entry;
      })

  -- the step is what its kind says
  pub step_is : Did H T (stepped H T u) u (kind_of H T u)
  unfolding stepped stepped_by kind_of
  step_is =
      choose_is Q _ (λ lt. did_put_back (put_back_is (omega (arith, lt, same_key))))
      (λ n. choose_is Q _ (λ ov. did_lower (lower_is (ready (omega (arith, n))) ov)) (λ m. did_raise (raise_is (ready (omega (arith, n))) (omega (arith, m, P.queued)))))
    where
      Q : Kind → Type 0
      Q k = Did H T (stepped_by k H T u) u k

      same_key : calculated_key H T u ≡ key H T u
      same_key = key_finite H T u (R.g_le u P.u_in) (rhs_le H T R u P.u_in) P.queued

      ready : calculated_key H T u ≤ stored_key T u → stored_key T u ≡ key H T u
      ready l = omega (arith, R.keys u P.u_in P.queued, same_key)
