-- The loop: how it unrolls, what holds after each step, and that no step comes twice.
use mathlib.Core.Path.{◌≡◌, refl, sym, ap, ◌∙◌}
use mathlib.Core.Bool.{true, false, true≢false, false≢true}
use mathlib.Core.Logic.{◌⊎◌, inl, inr}
use mathlib.Core.Option.{Option, none, some}
use mathlib.Core.List.Memᴰ
use mathlib.Core.List.{[], Memᴰ}
use Prim.Native.Nat.{ℕ, zero, suc, ◌≤◌, ◌<◌}
use native.Mathlib.Omega.{arith}
use native.Mathlib.Decide.{ℕ_discrete}
use lib.ListN.{length}
use Rattle.method.specs.Numbers.{infinite}
use Rattle.method.specs.Graph.{Hunt}
use Rattle.method.specs.Tables.{Tables, g_at, rhs_at, queued_at, stored_key, lesser, calculated_key}
use Rattle.method.specs.Steps.{kind_of, stepped}
use Rattle.method.specs.Loop.{least_queued, next_cell, Step, Ran, after, is_none, run_on, run}
use Rattle.method.specs.Course.{Before, LeastCell, Continues}
use Rattle.method.specs.Walk.{Once, none_yet, one_more}
use Rattle.method.specs.During.{Inconsistent, During}
use Rattle.method.proofs.Notions.{Pick, Did}
use Rattle.method.proofs.Facts.{Due, Fact, rhs_le, fact_keep, fact_gain, fact_new, to_come, to_come_drop}
use Rattle.method.proofs.Answers.{Stopped}
use Rattle.method.proofs.Bounds.{due, during_keep, during_last, lesser_finite, lesser_most}
use Rattle.method.proofs.Entries.{first_finite, first_infinite}
use Rattle.method.proofs.Stepping.{stepped_sized, step_is}
use Rattle.method.proofs.Taking.{Named, least_is, next_is}

-- The step that the loop takes on cell u.
abbrev pub step_on : Hunt → Tables → ℕ → Step
step_on H T u = record { kind = kind_of H T u; cell = u }

-- ---- the loop unrolled

pub run_zero : (H : Hunt) (T : Tables) → run H zero T ≡ record { tables = T; steps = []; ended = is_none (next_cell H T) }
unfolding run
run_zero H T = refl

-- no next cell: the search has ended
pub run_none : (H : Hunt) (limit : ℕ) (T : Tables) → next_cell H T ≡ none → run H limit T ≡ record { tables = T; steps = []; ended = true }
unfolding run run_on is_none
run_none H zero T e = ap (λ o. record { tables = T; steps = []; ended = is_none o }) e
run_none H (suc limit) T e = ap (λ o. run_on H (λ x. run H limit x) T o) e

-- a next cell: its step, and the rest
pub run_some : (H : Hunt) (limit : ℕ) (T : Tables) (u : ℕ) → next_cell H T ≡ some u → run H (suc limit) T ≡ after (step_on H T u) (run H limit (stepped H T u))
unfolding run run_on
run_some H limit T u e = ap (λ o. run_on H (λ x. run H limit x) T o) e

-- ---- what holds at the next cell, and at the end

module _ {H : Hunt} {A : ℕ} {T : Tables} (D : During H A T) where
  -- the least queued cell is one to take
  pick_least : {u : ℕ} → LeastCell H.graph T H.graph.cells u → Pick H T u
  pick_least {u} F = record {
    u_in = F.u_in;
    queued = λ c. true≢false (sym F.queued ∙ (D.right.queue u F.u_in).not_in_queue c);
    first = λ s l q. at s l q (ℕ_discrete s u);
  }
    where
      le : (s : ℕ) → Before H.graph T u s → stored_key T u ≤ stored_key T s
      le s (inl x) = omega arith
      le s (inr x) = omega (arith, x.0)

      at : (s : ℕ) → s < H.graph.cells → Inconsistent T s → Dec (s ≡ u) → stored_key T u ≤ stored_key T s
      at s l q (yes x) = rw x (omega arith)
      at s l q (no n) = le s (F.first s l ((D.right.queue s l).in_queue q) n)

  pub pick_next : {u : ℕ} → next_cell H T ≡ some u → Pick H T u
  pick_next {u} e = pick_least (next_is H D.stands.laws T (some u) e).0

  pub did_next : {u : ℕ} → next_cell H T ≡ some u → Did H T (stepped H T u) u (kind_of H T u)
  did_next e = step_is D.stands D.sized D.right (pick_next e)

  -- what holds between the steps is kept by each
  pub during_step : {u : ℕ} → next_cell H T ≡ some u → During H A (stepped H T u)
  during_step {u} e = during_keep D (pick_next e) (did_next e) (stepped_sized D.sized H u)

  step_last : {u : ℕ} (e : next_cell H T ≡ some u) → (during_step e).last ≡ stored_key T u
  unfolding during_step
  step_last {u} e = during_last D (pick_next e) (did_next e) (stepped_sized D.sized H u)

  -- the search ends only where the loop's condition is false
  pub stops : next_cell H T ≡ none → Stopped H T
  stops e = at (least_queued H.graph T H.graph.cells) (least_is D.stands.laws T H.graph.cells)
    where
      empty : ((s : ℕ) → s < H.graph.cells → queued_at T s ≡ true → ⊥) → (s : ℕ) → s < H.graph.cells → g_at T s ≡ rhs_at T s
      empty f s l = even (ℕ_discrete (g_at T s) (rhs_at T s))
        where
          even : Dec (g_at T s ≡ rhs_at T s) → g_at T s ≡ rhs_at T s
          even (yes q) = q
          even (no n) = absurd (f s l ((D.right.queue s l).in_queue n))

      -- an infinite target is behind every queued cell
      behind : (u : ℕ) → u < H.graph.cells → Inconsistent T u → lesser T H.target ≡ infinite → stored_key T u < calculated_key H T H.target
      behind u l q i =
          omega (
            arith,
            first_infinite H H.target (lesser T H.target) i,
            D.right.keys u l q,
            lesser_most D u l (lesser_finite D u l q),
            D.fits,
            D.stands.laws.estimate_le u H.target l D.stands.target_in,
          )

      last : (u : ℕ) → LeastCell H.graph T H.graph.cells u → (Continues H T u → ⊥) → Stopped H T
      last u F n = finish (ℕ_discrete (lesser T H.target) infinite)
        where
          level : rhs_at T H.target ≤ g_at T H.target
          level = let m : g_at T H.target < rhs_at T H.target → ⊥ = λ x. n (inr x) in omega arith

          ahead : calculated_key H T H.target ≤ stored_key T u
          ahead = let m : stored_key T u < calculated_key H T H.target → ⊥ = λ x. n (inl x) in omega arith

          finish : Dec (lesser T H.target ≡ infinite) → Stopped H T
          finish (yes i) = absurd (n (inl (behind u F.u_in (pick_least F).queued i)))
          finish (no ni) =
              let r : rhs_at T H.target ≤ infinite = rhs_le H T D.right H.target D.stands.target_in in
              let m : lesser T H.target < infinite = omega (arith, ni, level) in
              record { not_over = level; rest = λ s l q. (omega (arith, level), omega (arith, ahead, first_finite H H.target (lesser T H.target) m, (pick_least F).first s l q)) }

      at : (o : Option ℕ) → Named H.graph T H.graph.cells o → Stopped H T
      at none N = record { not_over = omega (arith, empty N H.target D.stands.target_in); rest = λ s l q. absurd (q (empty N s l)) }
      at (some u) F = last u F (next_is H D.stands.laws T none e u F)

-- ---- the whole run

-- What a run of at most `limit` steps from T has come to; κ was the key taken last before it.
pub record Went (H : Hunt) (A κ limit : ℕ) (T : Tables) (r : Ran) : Type 0 where
  pub during : During H A r.tables
  -- no step twice, and none whose fact held already
  pub once : Once r.steps
  pub inside : (x : Step) → Memᴰ x r.steps → x.cell < H.graph.cells
  pub new : (x : Step) → Memᴰ x r.steps → Fact x.kind H κ T x.cell → ⊥
  -- every step used one of those that could come
  pub few : length r.steps ≤ to_come H κ T
  pub stopped : r.ended ≡ true → Stopped H r.tables
  pub cut : r.ended ≡ false → limit < to_come H κ T

module _ {H : Hunt} {A : ℕ} where
  went_none : (limit : ℕ) {T : Tables} (D : During H A T) → next_cell H T ≡ none → Went H A D.last limit T (run H limit T)
  went_none limit {T} D e = rw (run_none H limit T e) (record {
    during = D;
    once = none_yet;
    inside = λ x i. absurd (Memᴰ.not-nil i);
    new = λ x i. absurd (Memᴰ.not-nil i);
    few = omega arith;
    stopped = λ _. stops D e;
    cut = λ q. absurd (true≢false q);
  })

  went_zero : {T : Tables} {u : ℕ} (D : During H A T) → next_cell H T ≡ some u → Went H A D.last zero T (run H zero T)
  unfolding is_none
  went_zero {T} {u} D e = rw (run_zero H T, e) (record {
    during = D;
    once = none_yet;
    inside = λ x i. absurd (Memᴰ.not-nil i);
    new = λ x i. absurd (Memᴰ.not-nil i);
    few = omega arith;
    stopped = λ q. absurd (false≢true q);
    cut = λ _. omega (arith, to_come_drop (due D (pick_next D e)) (did_next D e));
  })

  went_some : (limit : ℕ) {T : Tables} {u : ℕ} (D : During H A T) → next_cell H T ≡ some u → Went H A (stored_key T u) limit (stepped H T u) (run H limit (stepped H T u))
      → Went H A D.last (suc limit) T (run H (suc limit) T)
  went_some limit {T} {u} D e W = rw (run_some H limit T u e) (record {
    during = W.during;
    once = one_more (λ i. W.new (step_on H T u) i (fact_gain D' d)) W.once;
    inside = λ x i. inside x (Memᴰ.cases_cons i);
    new = λ x i. new x (Memᴰ.cases_cons i);
    few = omega (arith, W.few, to_come_drop D' d);
    stopped = W.stopped;
    cut = λ q. omega (arith, W.cut q, to_come_drop D' d);
  })
    where
      D' : Due H D.last T u
      D' = due D (pick_next D e)

      d : Did H T (stepped H T u) u (kind_of H T u)
      d = did_next D e

      inside : (x : Step) → (x ≡ step_on H T u) ⊎ Memᴰ x (run H limit (stepped H T u)).steps → x.cell < H.graph.cells
      inside x (inl q) = rw q (pick_next D e).u_in
      inside x (inr i) = W.inside x i

      new : (x : Step) → (x ≡ step_on H T u) ⊎ Memᴰ x (run H limit (stepped H T u)).steps → Fact x.kind H D.last T x.cell → ⊥
      new x (inl q) f = fact_new D' d (rw q at f)
      new x (inr i) f = W.new x i (fact_keep D' d x.kind x.cell (W.inside x i) f)

  pub went : (limit : ℕ) {T : Tables} (D : During H A T) → Went H A D.last limit T (run H limit T)
  went zero {T} D = at (next_cell H T) refl
    where
      at : (o : Option ℕ) → next_cell H T ≡ o → Went H A D.last zero T (run H zero T)
      at none e = went_none zero D e
      at (some u) e = went_zero D e
  went (suc limit) {T} D = at (λ U E. went limit E) (next_cell H T) refl
    where
      at : ((U : Tables) (E : During H A U) → Went H A E.last limit U (run H limit U)) → (o : Option ℕ) → next_cell H T ≡ o
          → Went H A D.last (suc limit) T (run H (suc limit) T)
      at ih none e = went_none (suc limit) D e
      at ih (some u) e = went_some limit D e (rw (step_last D e) at (ih (stepped H T u) (during_step D e)))
