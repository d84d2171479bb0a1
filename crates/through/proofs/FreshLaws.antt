-- A fresh start and the loop on lent tables give the least cost between two cells (Fresh of `method`).
use mathlib.Core.Path.{◌≡◌, sym, ap, subst, ◌∙◌}
use mathlib.Core.Bool.{Bool}
use mathlib.Core.List.{List}
use Prim.Native.Nat.{ℕ, ◌*◌, ◌<◌}
use native.Mathlib.Omega.{arith}
use lib.ListN.{length}
use Rattle.decide.proofs.ChooseLaws.{choose_is}
use Rattle.method.specs.Graph.{Graph, GraphLaws}
use Rattle.method.specs.Tables as method
use Rattle.method.specs.Loop.{run}
use Rattle.method.specs.Session.{hunt_of, opened}
use Rattle.method.specs.During.{During}
use Rattle.method.proofs.Readying.{fresh_sized}
use Rattle.method.proofs.Fresh.{fresh_run, fresh_during, fresh_ran, fresh_none, fresh_cheapest, fresh_above, fresh_small}
use Rattle.plan.specs.Cells.{Size}
use Rattle.plan.specs.Costs.{Plan, plan_of, cells, Obeys}
use Rattle.plan.specs.Grid.{graph_of}
use Rattle.plan.proofs.GridLaws.{graph_laws}
use Rattle.plan.proofs.MoveLaws.{area}
use Rattle.tables.specs.declared.Session.{Session}
use Rattle.tables.specs.Lent.{Tables, tables, frame, frame_of_size, core}
use Rattle.entries.specs.declared.Aim.{Aim}
use Rattle.entries.specs.Aims.{aim_by, aim_of, AimOf}
use Rattle.entries.specs.Begin.{placed_on, begun, Opened}
use Rattle.entries.proofs.BeginLaws.{opened_on}
use Rattle.steps.specs.Loop.{Started, Finished}
use Rattle.through.specs.Through.{LeastCost, none_leads, costs, cost_in, Readable}

-- ---- the tables lent

-- ---- on the definitions

-- The rhs that a run from a fresh start between two cells leaves.
abbrev pub rhs_fresh : Plan → ℕ → ℕ → List ℕ
rhs_fresh p a b = (fresh_run (graph_of p) a b).tables.rhs

module _ (p : Plan) (z : Size p.width p.height) {a b : ℕ} (a_in : a < cells p) (b_in : b < cells p) where
  pub fresh_readable : Readable (rhs_fresh p a b) a b
  fresh_readable =
      let L = graph_laws p z in
      let long : length (rhs_fresh p a b) ≡ cells p = (fresh_ran L a_in b_in).sized.rhs in
      record { a_in = omega (arith, long, a_in); b_in = omega (arith, long, b_in); above = fresh_above L a_in b_in }

  -- It has the least cost.
  pub least_fresh : LeastCost p a b (cost_in (rhs_fresh p a b) a b)
  unfolding cost_in
  least_fresh =
      let L = graph_laws p z in
      choose_is (LeastCost p a b) _ (λ i. none_leads (fresh_none L a_in b_in i)) (λ n. costs (omega (arith, fresh_small L a_in b_in n)) (fresh_cheapest L a_in b_in n))

-- ---- the run

module _ {width height from to : ℕ} {plan : List ℕ} (O : Obeys (plan_of width height plan)) (from_in : from < height * width) (to_in : to < height * width) where
  abbrev G : Graph
  G = graph_of (plan_of width height plan)

  laws : GraphLaws (graph_of (plan_of width height plan))
  laws = graph_laws (plan_of width height plan) O.size

  module _ {s r : Session} {a : Aim} {g₀ rhs₀ parent₀ k1₀ k2₀ place₀ list₀ g₁ rhs₁ parent₁ k1₁ k2₁ place₁ list₁ : List ℕ} (q : s ≡ placed_on (frame_of_size width height) from to)
      (B : (r ≡ begun (frame s) s.hunter s.target) × Opened (frame s) s.hunter s.target (tables plan g₀ rhs₀ parent₀ k1₀ k2₀ place₀ list₀) (tables plan g₁ rhs₁ parent₁ k1₁ k2₁ place₁ list₁))
      (A : AimOf r a) where
    e : r ≡ begun (frame_of_size width height) from to
    e = (opened_on q B).0

    P : Opened (frame_of_size width height) from to (tables plan g₀ rhs₀ parent₀ k1₀ k2₀ place₀ list₀) (tables plan g₁ rhs₁ parent₁ k1₁ k2₁ place₁ list₁)
    P = (opened_on q B).1

    abbrev t₁ : Tables
    t₁ = tables plan g₁ rhs₁ parent₁ k1₁ k2₁ place₁ list₁

    aim_is : a ≡ aim_by (frame_of_size width height) (opened from to) a.target_at
    aim_is = A.is ∙ ap (λ (s : Session). aim_of s a.target_at) e

    pub run_started : Started a (3 * (height * width)) r.count (tables plan g₁ rhs₁ parent₁ k1₁ k2₁ place₁ list₁)
    run_started =
        subst (λ (s : Session). Started a (3 * (height * width)) s.count t₁) (sym e)
        (subst (λ x. Started x (3 * (height * width)) 1 t₁) (sym aim_is)
        (record {
          held = record { sized = subst (λ T. method.Sized (height * width) T) (sym P.is) (fresh_sized G from to); heap = P.heap };
          bound = 0;
          during = subst (λ T. During (hunt_of G (opened from to)) 0 T) (sym P.is) (fresh_during laws from_in to_in);
          small = omega (arith, area O.size);
          limited = omega (arith, area O.size);
        }))

    module _ {n steps : ℕ} {over : Bool} {g₂ rhs₂ parent₂ k1₂ k2₂ place₂ list₂ : List ℕ}
        (F : Finished a (3 * (height * width)) r.count (tables plan g₁ rhs₁ parent₁ k1₁ k2₁ place₁ list₁) (tables plan g₂ rhs₂ parent₂ k1₂ k2₂ place₂ list₂) n steps over) where
      abbrev t₂ : Tables
      t₂ = tables plan g₂ rhs₂ parent₂ k1₂ k2₂ place₂ list₂

      ran_is : core (tables plan g₂ rhs₂ parent₂ k1₂ k2₂ place₂ list₂) ≡ (fresh_run (graph_of (plan_of width height plan)) from to).tables
      ran_is =
          (subst (λ x. Finished x (3 * (height * width)) r.count t₁ t₂ n steps over) aim_is F).tables.is
          ∙ ap (λ T. (run (hunt_of G (opened from to)) (3 * (height * width)) T).tables) P.is

      pub readable : Readable rhs₂ from to
      readable = subst (λ (T : method.Tables). Readable T.rhs from to) (sym ran_is) (fresh_readable (plan_of width height plan) O.size from_in to_in)

      pub least_in : LeastCost (plan_of width height plan) from to (cost_in rhs₂ from to)
      least_in = subst (λ (T : method.Tables). LeastCost (plan_of width height plan) from to (cost_in T.rhs from to)) (sym ran_is) (least_fresh (plan_of width height plan) O.size from_in to_in)
