-- At most one direction leads from a cell to another, and none to itself; a move that leads there at a cost is an open move of the plan's graph.
use mathlib.Core.Path.{◌≡◌, refl, sym, ap, subst, ◌∙◌}
use Prim.Native.Nat.{ℕ, ◌+◌, ◌/◌, ◌%◌, ◌≤◌, ◌<◌}
use native.Mathlib.Omega.{arith}
use Rattle.std.specs.Prelude.{Option, Some, None, MatchOption}
use Rattle.method.specs.Graph.{Comes}
use Rattle.plan.specs.Directions.{opposite}
use Rattle.plan.specs.Cells.{Stays, entered}
use Rattle.plan.specs.Costs.{Plan, byte, IsCost}
use Rattle.plan.specs.Grid.{graph_of}
use Rattle.plan.specs.Toward.{Leads, Neighbours, Toward, leading, nowhere}
use Rattle.plan.proofs.DirectionLaws.{opposes}
use Rattle.plan.proofs.CellLaws.{enters, stays_back, back_again, one_direction as one_step}
use Rattle.plan.proofs.GridLaws.{into_is, into_has}

-- So the byte of the move from a to b is one.
pub one_direction : {width height a b d e : ℕ} → 1 ≤ width → Leads width height a d b → Leads width height a e b → d ≡ e
one_direction wide l m = one_step wide l.direction m.direction l.stays_in m.stays_in (l.enters ∙ sym m.enters)

-- No cell is its own neighbour: a step leads one row or one column away.
pub not_its_own : {width height a : ℕ} → 1 ≤ width → Neighbours width height a a → ⊥
not_its_own {width} wide n =
    let l = n.leads in
    let E = enters wide l.stays_in in
    omega (arith, E.to_row, E.to_column, ap (λ x. x / width) l.enters, ap (λ x. x % width) l.enters, (opposes n.direction l.direction).one_away)

-- An open move from a to b, as b has it: a is its neighbour in the opposite direction.
pub leads_open : (p : Plan) → 1 ≤ p.width → {a d b : ℕ} → Leads p.width p.height a d b → IsCost (byte p a d) → Comes (graph_of p) b (opposite d + 1) a (byte p a d)
leads_open p wide {a} {d} {b} l o =
    into_has p wide b (opposite d + 1) a (byte p a d) (record {
      direction = opposite d;
      small = (opposes d l.direction).small;
      named = refl;
      stays_in = subst (λ v. Stays p.width p.height v (opposite d)) l.enters (stays_back wide l.direction l.stays_in);
      from = subst (λ v. a ≡ entered p.width v (opposite d)) l.enters (sym (back_again wide l.direction l.stays_in));
      costs = rw (opposes d l.direction).back refl;
      a_cost = o;
    })

-- And every open move from a to b is such a one.
pub open_leads : (p : Plan) → 1 ≤ p.width → {b k a c : ℕ} → Comes (graph_of p) b k a c → (d : ℕ) × Leads p.width p.height a d b × (c ≡ byte p a d)
open_leads p wide {b} {k} {a} {c} i =
    let o = into_is p wide b k a c i in
    let d = opposite o.direction in (
      d,
      record {
        direction = (opposes o.direction o.small).small;
        stays_in = subst (λ x. Stays p.width p.height x d) (sym o.from) (stays_back wide o.small o.stays_in);
        enters = subst (λ x. entered p.width x d ≡ b) (sym o.from) (back_again wide o.small o.stays_in);
      },
      o.costs,
    )

-- the first of the four directions that leads there
pub toward_by : {width height a b : ℕ} (r : Option ℕ)
    → MatchOption r ((k : ℕ) → 0 ≤ k → k < 4 → Leads width height a k b → ⊥) (λ d. (0 ≤ d) × (d < 4) × Leads width height a d b × ((k : ℕ) → 0 ≤ k → k < d → Leads width height a k b → ⊥))
    → Toward width height a b r
toward_by None h = nowhere (λ n. h n.direction (omega arith) n.leads.direction n.leads)
toward_by (Some d) h = leading h.2
