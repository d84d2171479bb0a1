-- The least queued cell is one, and `next_cell` names it as long as the loop goes on.
use mathlib.Core.Path.{◌≡◌, refl, sym, ap, ◌∙◌}
use mathlib.Core.Bool.{true, Bool-discrete, true≢false}
use mathlib.Core.Logic.{◌⊎◌, inl, inr, ◌≢◌}
use mathlib.Core.Option.{Option, none, some}
use Prim.Native.Nat.{ℕ, zero, suc, ◌<◌}
use native.Mathlib.Omega.{arith}
use native.Mathlib.Decide.{ℕ_discrete, dec_lt}
use Rattle.decide.proofs.ChooseLaws.{choose_yes, choose_no, choose_is}
use Rattle.method.specs.Graph.{Graph, GraphLaws, Hunt}
use Rattle.method.specs.Tables.{Tables, g_at, rhs_at, queued_at, stored_key, calculated_key}
use Rattle.method.specs.Loop.{sooner, soonest, least_queued, goes_on, next_cell}
use Rattle.method.specs.Course.{Before, LeastCell, Continues}

-- What an answer of `least_queued` says of the cells below n.
abbrev pub Named : Graph → Tables → ℕ → Option ℕ → Type 0
Named G T n none = (s : ℕ) → s < n → queued_at T s ≡ true → ⊥
Named G T n (some u) = LeastCell G T n u

-- What an answer of `next_cell` says.
abbrev pub Next : Hunt → Tables → Option ℕ → Type 0
Next H T none = (u : ℕ) → LeastCell H.graph T H.graph.cells u → Continues H T u → ⊥
Next H T (some u) = LeastCell H.graph T H.graph.cells u × Continues H T u

module _ {G : Graph} (L : GraphLaws G) (T : Tables) where
  before_trans : (a b c : ℕ) → Before G T a b → Before G T b c → Before G T a c
  before_trans a b c (inl x) (inl y) = inl (omega arith)
  before_trans a b c (inl x) (inr y) = inl (omega (arith, y.0))
  before_trans a b c (inr x) (inl y) = inl (omega (arith, x.0))
  before_trans a b c (inr x) (inr y) = inr (x.0 ∙ y.0, L.onward a b c x.1 y.1)

  not_both : (a b : ℕ) → Before G T a b → Before G T b a → ⊥
  not_both a b (inl x) (inl y) = omega arith
  not_both a b (inl x) (inr y) = omega (arith, y.0)
  not_both a b (inr x) (inl y) = omega (arith, x.0)
  not_both a b (inr x) (inr y) = true≢false (sym (L.onward a b a x.1 y.1) ∙ L.not_itself a)

  before_total : (a b : ℕ) → a ≢ b → Before G T a b ⊎ Before G T b a
  before_total a b ne = at (dec_lt (stored_key T a) (stored_key T b)) (dec_lt (stored_key T b) (stored_key T a)) (L.one_first a b ne)
    where
      at : Dec (stored_key T a < stored_key T b) → Dec (stored_key T b < stored_key T a) → (G.earlier a b ≡ true) ⊎ (G.earlier b a ≡ true) → Before G T a b ⊎ Before G T b a
      at (yes x) d e = inl (inl x)
      at (no x) (yes y) e = inr (inl y)
      at (no x) (no y) (inl e) = inl (inr (omega arith, e))
      at (no x) (no y) (inr e) = inr (inr (omega arith, e))

  -- of two cells the sooner is the one that comes before the other
  sooner_is : (a b : ℕ) → Before G T a b → sooner G T a b ≡ a
  unfolding sooner
  sooner_is a b (inl x) = choose_yes (dec_lt (stored_key T a) (stored_key T b)) a _ x
  sooner_is a b (inr x) =
      choose_no (dec_lt (stored_key T a) (stored_key T b)) a _ (λ l. omega (arith, x.0))
      ∙ choose_no (dec_lt (stored_key T b) (stored_key T a)) b _ (λ l. omega (arith, x.0))
      ∙ choose_yes (Bool-discrete (G.earlier a b) true) a b x.1

  sooner_other : (a b : ℕ) → Before G T b a → sooner G T a b ≡ b
  unfolding sooner
  sooner_other a b (inl x) = choose_no (dec_lt (stored_key T a) (stored_key T b)) a _ (λ l. omega arith) ∙ choose_yes (dec_lt (stored_key T b) (stored_key T a)) b _ x
  sooner_other a b (inr x) =
      choose_no (dec_lt (stored_key T a) (stored_key T b)) a _ (λ l. omega (arith, x.0))
      ∙ choose_no (dec_lt (stored_key T b) (stored_key T a)) b _ (λ l. omega (arith, x.0))
      ∙ choose_no (Bool-discrete (G.earlier a b) true) a b (λ e. not_both b a (inr x) (inr (sym x.0, e)))

  pub least_is : (n : ℕ) → Named G T n (least_queued G T n)
  unfolding least_queued soonest
  least_is zero = λ s l. absurd (omega arith)
  least_is (suc n) = choose_is (λ o. Named G T (suc n) o) _ (λ q. add q (least_queued G T n) (least_is n)) (λ nq. pass nq (least_queued G T n) (least_is n))
    where
      below : (s : ℕ) → s < suc n → s ≢ n → s < n
      below s l ne = omega (arith, ne)

      pass : (queued_at T n ≡ true → ⊥) → (o : Option ℕ) → Named G T n o → Named G T (suc n) o
      pass nq none F = λ s l q. F s (below s l (λ e. nq (rw e at q))) q
      pass nq (some b) F = record { u_in = omega (arith, F.u_in); queued = F.queued; first = λ s l q ne. F.first s (below s l (λ e. nq (rw e at q))) q ne }

      add : queued_at T n ≡ true → (o : Option ℕ) → Named G T n o → Named G T (suc n) (soonest G T n o)
      add q none F = record { u_in = omega arith; queued = q; first = λ s l k ne. absurd (F s (below s l ne) k) }
      add q (some b) F = at (before_total n b (λ e. omega (arith, F.u_in)))
        where
          behind : (s : ℕ) → s < n → queued_at T s ≡ true → Dec (s ≡ b) → Before G T n b → Before G T n s
          behind s l k (yes e) x = rw e x
          behind s l k (no ne) x = before_trans n b s x (F.first s l k ne)

          other : (s : ℕ) → s < suc n → queued_at T s ≡ true → s ≢ b → Dec (s ≡ n) → Before G T b n → Before G T b s
          other s l k ne (yes e) x = rw e x
          other s l k ne (no m) x = F.first s (below s l m) k ne

          at : Before G T n b ⊎ Before G T b n → LeastCell G T (suc n) (sooner G T n b)
          at (inl x) = rw (sooner_is n b x) (record { u_in = omega arith; queued = q; first = λ s l k ne. behind s (below s l ne) k (ℕ_discrete s b) x })
          at (inr x) = rw (sooner_other n b x) (record { u_in = omega (arith, F.u_in); queued = F.queued; first = λ s l k ne. other s l k ne (ℕ_discrete s n) x })

  -- two least queued cells are one
  least_same : (n u w : ℕ) → LeastCell G T n u → LeastCell G T n w → u ≡ w
  least_same n u w F B = at (ℕ_discrete u w)
    where
      at : Dec (u ≡ w) → u ≡ w
      at (yes e) = e
      at (no ne) = absurd (not_both u w (F.first w B.u_in B.queued (λ e. ne (sym e))) (B.first u F.u_in F.queued ne))

  -- whoever names a least queued cell names the one that `least_queued` names
  pub least_one : (n u : ℕ) → LeastCell G T n u → least_queued G T n ≡ some u
  least_one n u F = at (least_queued G T n) (least_is n)
    where
      at : (o : Option ℕ) → Named G T n o → o ≡ some u
      at none N = absurd (N u F.u_in F.queued)
      at (some b) B = ap some (least_same n b u B F)

  pub none_queued : (n : ℕ) → ((s : ℕ) → s < n → queued_at T s ≡ true → ⊥) → least_queued G T n ≡ none
  none_queued n f = at (least_queued G T n) (least_is n)
    where
      at : (o : Option ℕ) → Named G T n o → o ≡ none
      at none N = refl
      at (some b) B = absurd (f b B.u_in B.queued)

  -- it is enough that no queued cell comes before it
  pub least_cell : (n u : ℕ) → u < n → queued_at T u ≡ true → ((s : ℕ) → s < n → queued_at T s ≡ true → Before G T s u → ⊥) → LeastCell G T n u
  least_cell n u l q f = record { u_in = l; queued = q; first = λ s m k ne. at s m k (before_total u s (λ e. ne (sym e))) }
    where
      at : (s : ℕ) → s < n → queued_at T s ≡ true → Before G T u s ⊎ Before G T s u → Before G T u s
      at s m k (inl x) = x
      at s m k (inr x) = absurd (f s m k x)

module _ (H : Hunt) (L : GraphLaws H.graph) (T : Tables) where
  goes_on_where : (u : ℕ) → Continues H T u → goes_on H T (some u) ≡ some u
  unfolding goes_on
  goes_on_where u (inl x) = choose_yes (dec_lt (stored_key T u) (calculated_key H T H.target)) (some u) _ x
  goes_on_where u (inr x) = choose_is (λ o. o ≡ some u) _ (λ _. refl) (λ _. choose_yes (dec_lt (g_at T H.target) (rhs_at T H.target)) (some u) none x)

  goes_not : (u : ℕ) → (Continues H T u → ⊥) → goes_on H T (some u) ≡ none
  unfolding goes_on
  goes_not u n =
      choose_no (dec_lt (stored_key T u) (calculated_key H T H.target)) (some u) _ (λ x. n (inl x))
      ∙ choose_no (dec_lt (g_at T H.target) (rhs_at T H.target)) (some u) none (λ x. n (inr x))

  continues? : (u : ℕ) → Dec (Continues H T u)
  continues? u = at (dec_lt (stored_key T u) (calculated_key H T H.target)) (dec_lt (g_at T H.target) (rhs_at T H.target))
    where
      neither : (stored_key T u < calculated_key H T H.target → ⊥) → (g_at T H.target < rhs_at T H.target → ⊥) → Continues H T u → ⊥
      neither x y (inl c) = x c
      neither x y (inr c) = y c

      at : Dec (stored_key T u < calculated_key H T H.target) → Dec (g_at T H.target < rhs_at T H.target) → Dec (Continues H T u)
      at (yes x) d = yes (inl x)
      at (no x) (yes y) = yes (inr y)
      at (no x) (no y) = no (neither x y)

  -- the next cell is the least queued cell, if the loop's condition holds of it
  pub next_some : (u : ℕ) → LeastCell H.graph T H.graph.cells u → Continues H T u → next_cell H T ≡ some u
  unfolding next_cell
  next_some u F c = ap (λ o. goes_on H T o) (least_one L T H.graph.cells u F) ∙ goes_on_where u c

  pub next_none : ((u : ℕ) → LeastCell H.graph T H.graph.cells u → Continues H T u → ⊥) → next_cell H T ≡ none
  unfolding next_cell goes_on
  next_none f = at (least_queued H.graph T H.graph.cells) (least_is L T H.graph.cells)
    where
      at : (o : Option ℕ) → Named H.graph T H.graph.cells o → goes_on H T o ≡ none
      at none N = refl
      at (some u) F = goes_not u (f u F)

  -- and nothing else is
  pub next_is : (o : Option ℕ) → next_cell H T ≡ o → Next H T o
  next_is o e = rw e at whole
    where
      from : (u : ℕ) → LeastCell H.graph T H.graph.cells u → Dec (Continues H T u) → Next H T (next_cell H T)
      from u F (yes c) = rw (next_some u F c) (F, c)
      from u F (no n) = rw next_none_u next_u
        where
          next_u : (w : ℕ) → LeastCell H.graph T H.graph.cells w → Continues H T w → ⊥
          next_u w B c = n (rw (least_same L T H.graph.cells w u B F) at c)

          next_none_u : next_cell H T ≡ none
          next_none_u = next_none next_u

      at : (o : Option ℕ) → Named H.graph T H.graph.cells o → Next H T (next_cell H T)
      at none N = rw (next_none (λ u F c. N u F.u_in F.queued)) (λ u F c. N u F.u_in F.queued)
      at (some u) F = from u F (continues? u)

      whole : Next H T (next_cell H T)
      whole = at (least_queued H.graph T H.graph.cells) (least_is L T H.graph.cells)
