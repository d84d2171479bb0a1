-- The loop over the tables is the method's run.
use mathlib.Core.Path.{◌≡◌, refl, sym, ap, subst, ◌∙◌}
use mathlib.Core.Bool.{Bool, true, false, not, false≢true}
use Rattle.std.proofs.Common.{Option, Some, None}
use Rattle.std.specs.Option.{is_some}
use mathlib.Core.Logic.{⊎_elim}
use mathlib.Core.Option.{some, none}
use mathlib.Core.List.{List, []}
use Prim.Native.Nat.{ℕ, suc, ◌+◌, ◌-◌, ◌≤◌, ◌<◌}
use native.Mathlib.Omega.{arith}
use lib.ListN.{get_or, length}
use Rattle.method.specs.Numbers.{infinite}
use Rattle.method.specs.Graph.{Hunt}
use Rattle.method.specs.Tables as method
use Rattle.method.specs.Steps.{stepped}
use Rattle.method.specs.Loop.{next_cell, is_none, after, run}
use Rattle.method.specs.Growth.{FiniteUpTo}
use Rattle.method.specs.During.{most, During}
use Rattle.method.proofs.Growth.{up_to_more, during_up_to}
use Rattle.method.proofs.Running.{run_zero, run_none, run_some, pick_next, during_step, step_on}
use Rattle.method.proofs.Stepping.{stepped_sized}
use Rattle.tables.specs.Lent.{Tables, tables, core}
use Rattle.entries.specs.declared.Aim.{Aim}
use Rattle.entries.specs.Aims.{area, hunt, most_g, Aimed, Held, Ready}
use Rattle.entries.specs.Became.{Became}
use Rattle.entries.proofs.SmallLaws.{small_by}
use Rattle.choices.specs.Next.{Choosing, next_of}
use Rattle.steps.specs.Ready.{Stepping}
use Rattle.steps.specs.Loop.{Started, Finished}
use Rattle.steps.proofs.StepLaws.{became_held}

-- no cell is chosen: the method has none
none_left : (r : Option ℕ) (b : Bool) → is_some r ≡ not b → is_none (next_of r) ≡ b
unfolding is_none
none_left None true e = refl
none_left None false e = absurd (false≢true e)
none_left (Some u) true e = absurd (false≢true (sym e))
none_left (Some u) false e = refl

-- what the rest of a run still does is what the whole run does
pub record Rest (H : Hunt) (T₀ T : method.Tables) (limit steps : ℕ) : Type 0 where
  pub fuel : steps ≤ limit
  pub tables : (run H limit T₀).tables ≡ (run H (limit - steps) T).tables
  pub steps_are : length (run H limit T₀).steps ≡ steps + length (run H (limit - steps) T).steps
  pub ended : (run H limit T₀).ended ≡ (run H (limit - steps) T).ended

rest_first : (H : Hunt) (T : method.Tables) (limit : ℕ) → Rest H T T limit 0
rest_first H T limit =
    let e : limit - 0 ≡ limit = omega arith in
    record { fuel = omega arith; tables = rw e refl; steps_are = rw e (omega arith); ended = rw e refl }

rest_more : (H : Hunt) (T₀ T : method.Tables) (limit steps u : ℕ) → Rest H T₀ T limit steps → steps < limit → next_cell H T ≡ some u → Rest H T₀ (stepped H T u) limit (steps + 1)
rest_more H T₀ T limit steps u R l e = record {
  fuel = omega arith;
  tables = R.tables ∙ ap (λ r. r.tables) one;
  steps_are = omega (arith, R.steps_are, ap (λ r. length r.steps) one);
  ended = R.ended ∙ ap (λ r. r.ended) one;
}
  where
    one : run H (limit - steps) T ≡ after (step_on H T u) (run H (limit - (steps + 1)) (stepped H T u))
    one = ap (λ n. run H n T) (left limit steps l) ∙ run_some H (limit - (steps + 1)) T u e
      where
        left : (limit steps : ℕ) → steps < limit → limit - steps ≡ suc (limit - (steps + 1))
        left limit steps l = omega arith

-- what holds between the steps
pub record Going (a : Aim) (plan : List ℕ) (count₀ count : ℕ) (t₀ t : Tables) (limit steps : ℕ) : Type 0 where
  pub held : Held a count t
  pub bound : ℕ
  pub during : During (hunt a plan) bound (core t)
  pub small : most (hunt a plan) bound ≤ most_g
  pub rest : Rest (hunt a plan) (core t₀) (core t) limit steps
  pub untouched : steps ≡ 0 → (count ≡ count₀) × (t ≡ t₀)

pub going_first : {a : Aim} {limit count : ℕ} {plan g rhs parent k1 k2 place list : List ℕ} → Started a limit count (tables plan g rhs parent k1 k2 place list)
    → Going a plan count count (tables plan g rhs parent k1 k2 place list) (tables plan g rhs parent k1 k2 place list) limit 0
going_first {a} {limit} {plan = plan} S = record { held = S.held; bound = S.bound; during = S.during; small = S.small; rest = rest_first (hunt a plan) _ limit; untouched = λ _. (refl, refl) }

module _ {a : Aim} {count₀ count limit steps : ℕ} {t₀ : Tables} {plan g rhs parent k1 k2 place list : List ℕ}
    (A : Aimed a plan) (G : Going a plan count₀ count t₀ (tables plan g rhs parent k1 k2 place list) limit steps) where
  -- the numbers that the inner functions add to
  small : FiniteUpTo (area a) most_g (core (tables plan g rhs parent k1 k2 place list))
  small = up_to_more G.small (during_up_to G.during)

  pub ready : Ready a most_g count (tables plan g rhs parent k1 k2 place list)
  ready = record {
    aimed = A;
    held = G.held;
    small_g = small_by g (area a) G.held.sized.g small.g;
    small_rhs = small_by rhs (area a) G.held.sized.rhs small.rhs;
  }

  -- the next cell can be chosen
  pub choosing : Choosing a count g rhs k1 k2 place list
  choosing = record {
    size = A.obeys.size;
    target_in = A.target_in;
    in_g = G.held.sized.g;
    in_rhs = G.held.sized.rhs;
    heap = G.held.heap;
    goal = λ n. ⊎_elim (λ (e : get_or rhs a.target 0 ≡ infinite). absurd (n e)) (λ (h : get_or rhs a.target 0 ≤ most_g). omega (arith, A.km_le)) (ready.small_rhs a.target);
  }

  -- the cell chosen is one to step on
  module _ {u : ℕ} (next : some u ≡ next_cell (hunt a plan) (core (tables plan g rhs parent k1 k2 place list))) where
    pub stepping : Stepping a count u (tables plan g rhs parent k1 k2 place list)
    stepping = let P = pick_next G.during (sym next) in record { ready = ready; inside = P.u_in; differ = P.queued }

    pub going_more : {n : ℕ} {g' rhs' parent' k1' k2' place' list' : List ℕ} → steps < limit
        → Became a n (tables plan g' rhs' parent' k1' k2' place' list') (stepped (hunt a plan) (core (tables plan g rhs parent k1 k2 place list)) u)
        → Going a plan count₀ n t₀ (tables plan g' rhs' parent' k1' k2' place' list') limit (steps + 1)
    going_more l B = record {
      held = became_held (stepped_sized G.held.sized (hunt a plan) u) B;
      bound = G.bound;
      during = subst (During (hunt a plan) G.bound) (sym B.is) (during_step G.during (sym next));
      small = G.small;
      rest = subst (λ T. Rest (hunt a plan) (core t₀) T limit (steps + 1)) (sym B.is)
          (rest_more (hunt a plan) (core t₀) (core (tables plan g rhs parent k1 k2 place list)) limit steps u G.rest l (sym next));
      untouched = λ e. absurd (omega (arith, e));
    }

module _ {a : Aim} {count₀ count limit steps : ℕ} {plan g₀ rhs₀ parent₀ k1₀ k2₀ place₀ list₀ g rhs parent k1 k2 place list : List ℕ}
    (G : Going a plan count₀ count (tables plan g₀ rhs₀ parent₀ k1₀ k2₀ place₀ list₀) (tables plan g rhs parent k1 k2 place list) limit steps) where
  finished_by : {b : Bool} → (run (hunt a plan) (limit - steps) (core (tables plan g rhs parent k1 k2 place list))).tables ≡ core (tables plan g rhs parent k1 k2 place list)
      → length (run (hunt a plan) (limit - steps) (core (tables plan g rhs parent k1 k2 place list))).steps ≡ 0
      → (run (hunt a plan) (limit - steps) (core (tables plan g rhs parent k1 k2 place list))).ended ≡ b
      → Finished a limit count₀ (tables plan g₀ rhs₀ parent₀ k1₀ k2₀ place₀ list₀) (tables plan g rhs parent k1 k2 place list) count steps b
  finished_by et es ee = record {
    tables = record { is = sym (G.rest.tables ∙ et); heap = G.held.heap };
    steps_are = omega (arith, G.rest.steps_are, es);
    ended_is = sym (G.rest.ended ∙ ee);
    untouched = G.untouched;
  }

  -- no next cell: the search has ended
  pub finished_done : none ≡ next_cell (hunt a plan) (core (tables plan g rhs parent k1 k2 place list))
      → Finished a limit count₀ (tables plan g₀ rhs₀ parent₀ k1₀ k2₀ place₀ list₀) (tables plan g rhs parent k1 k2 place list) count steps true
  finished_done e = finished_by (ap (λ r. r.tables) none_left) (ap (λ r. length r.steps) none_left) (ap (λ r. r.ended) none_left)
    where
      none_left : run (hunt a plan) (limit - steps) (core (tables plan g rhs parent k1 k2 place list)) ≡ record { tables = core (tables plan g rhs parent k1 k2 place list); steps = []; ended = true }
      none_left = run_none (hunt a plan) (limit - steps) (core (tables plan g rhs parent k1 k2 place list)) (sym e)

  -- the limit is reached: the search has ended if there is no next cell
  pub finished_cut : (r : Option ℕ) {b : Bool} → limit ≤ steps → next_of r ≡ next_cell (hunt a plan) (core (tables plan g rhs parent k1 k2 place list)) → is_some r ≡ not b
      → Finished a limit count₀ (tables plan g₀ rhs₀ parent₀ k1₀ k2₀ place₀ list₀) (tables plan g rhs parent k1 k2 place list) count limit b
  finished_cut r {b} l e q =
      subst (λ k. Finished a limit count₀ (tables plan g₀ rhs₀ parent₀ k1₀ k2₀ place₀ list₀) (tables plan g rhs parent k1 k2 place list) count k b) (omega (arith, G.rest.fuel, l))
      (finished_by (ap (λ r. r.tables) cut) (ap (λ r. length r.steps) cut) (ap (λ r. r.ended) cut ∙ ap is_none (sym e) ∙ none_left r b q))
    where
      over : (limit steps : ℕ) → limit ≤ steps → limit - steps ≡ 0
      over limit steps h = omega arith

      cut : run (hunt a plan) (limit - steps) (core (tables plan g rhs parent k1 k2 place list))
          ≡ record { tables = core (tables plan g rhs parent k1 k2 place list); steps = []; ended = is_none (next_cell (hunt a plan) (core (tables plan g rhs parent k1 k2 place list))) }
      cut = ap (λ n. run (hunt a plan) n (core (tables plan g rhs parent k1 k2 place list))) (over limit steps l) ∙ run_zero (hunt a plan) (core (tables plan g rhs parent k1 k2 place list))
