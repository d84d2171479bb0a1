-- A walk through a move is a walk to it, the move, and a walk on from it; so least costs add up. A run from a fresh start gives each of the two.
use mathlib.Core.Path.{◌≡◌, refl, ap, subst, ◌∙◌}
use mathlib.Core.Logic.{◌≢◌}
use mathlib.Core.List.{List, [], ◌∷◌, ◌++◌}
use Prim.Native.Nat.{ℕ, ◌+◌, ◌*◌, ◌≤◌, ◌<◌}
use native.Mathlib.Omega.{arith}
use Rattle.std.specs.Prelude.{Option, Some, None}
use Rattle.decide.specs.Ruled.{Ruled, holds, Passed}
use Rattle.decide.proofs.RuledLaws.{passed_one, ruled_one, granted, passed_zero, onward}
use lib.ListN.{length}
use Rattle.method.specs.Numbers.{growth}
use Rattle.method.specs.Graph.{Graph, Comes}
use Rattle.method.specs.Walk.{Chain, stay, go}
use Rattle.plan.specs.Directions.{opposite}
use Rattle.plan.specs.Cells.{Size, Stays, entered}
use Rattle.plan.specs.Costs.{Plan, plan_of, byte, shut, Bytes, Edges, Obeys}
use Rattle.plan.specs.Grid.{graph_of}
use Rattle.plan.specs.Toward.{Leads}
use Rattle.plan.proofs.MoveLaws.{cost_of}
use Rattle.plan.proofs.TowardLaws.{one_direction, leads_open, open_leads}
use Rattle.through.specs.Through.{Uses, here, later, LeastThrough, NoneThrough, LeastCost, none_leads, costs, Askable, ThroughRules}

-- ---- a walk cut at a move

-- The parts of a walk from a to t that goes from u to v.
record Cut (G : Graph) (a u v t e : ℕ) : Type 0 where
  to : List ℕ
  on : List ℕ
  code : ℕ
  before : ℕ
  cost : ℕ
  behind : ℕ
  leads_to : Chain G a to u before
  comes : Comes G v code u cost
  leads_on : Chain G v on t behind
  sum : e ≡ before + cost + behind

empty : {u v : ℕ} → Uses u v [] → ⊥
empty = elim [ ]

none_used : {u v a : ℕ} → Uses u v (a ∷ []) → ⊥
none_used (later i) = empty i

cut : {G : Graph} {a u v t e : ℕ} {l : List ℕ} → Chain G a l t e → Uses u v l → Cut G a u v t e
cut stay i = absurd (none_used i)
cut (go m stay) here = record { to = _; on = _; code = _; before = 0; cost = _; behind = 0; leads_to = stay; comes = m; leads_on = stay; sum = omega arith }
cut (go m (go n w)) here = record { to = _; on = _; code = _; before = 0; cost = _; behind = _; leads_to = stay; comes = m; leads_on = go n w; sum = omega arith }
cut (go m w) (later i) =
    let q = cut w i in
    record {
      to = _;
      on = q.on;
      code = q.code;
      before = _;
      cost = q.cost;
      behind = q.behind;
      leads_to = go m q.leads_to;
      comes = q.comes;
      leads_on = q.leads_on;
      sum = omega (arith, q.sum);
    }

-- The two walks and the move between them are one walk, which goes from u to v.
joined : {G : Graph} {a u v t k c d e : ℕ} {l m : List ℕ} → Chain G a l u d → Comes G v k u c → Chain G v m t e → Chain G a (l ++ m) t (d + c + e)
joined {G} {t = t} {c = c} {e = e} {m = m} (stay {a}) n w = subst (Chain G a (a ∷ m) t) (omega arith) (go n w)
joined {G} {t = t} {c = c} {e = e} {m = m} (go {a} {c = c₁} {d = d} {l = l} x w) n z = subst (Chain G a (a ∷ (l ++ m)) t) (omega arith) (go x (joined w n z))

uses_joined : {G : Graph} {a u v t d e : ℕ} {l m : List ℕ} → Chain G a l u d → Chain G v m t e → Uses u v (l ++ m)
uses_joined stay stay = here
uses_joined stay (go n w) = here
uses_joined (go x w) z = later (uses_joined w z)

-- ---- the move

module _ {p : Plan} (O : Obeys p) {u d : ℕ} (small : d < 4) (S : Stays p.width p.height u d) (opens : byte p u d ≢ shut) where
  leads : Leads p.width p.height u d (entered p.width u d)
  leads = record { direction = small; stays_in = S; enters = refl }

  moves : Comes (graph_of p) (entered p.width u d) (opposite d + 1) u (byte p u d)
  moves = leads_open p O.size.wide leads (cost_of (O.bytes u d S.from_in small) opens)

  -- No other open move leads from u to the same cell.
  cost_is : {k c : ℕ} → Comes (graph_of p) (entered p.width u d) k u c → c ≡ byte p u d
  cost_is i = let q = open_leads p O.size.wide i in q.2 ∙ ap (byte p u) (one_direction O.size.wide q.1 leads)

  -- The least cost through the move is the least cost to it, its own, and the least cost on from it ..
  pub least_through : {h t x y : ℕ} → LeastCost p h u (Some x) → LeastCost p (entered p.width u d) t (Some y) → LeastThrough p h t u (entered p.width u d) (x + byte p u d + y)
  least_through (costs _ A) (costs _ B) = record {
    over = _;
    leads = joined A.leads moves B.leads;
    uses = uses_joined A.leads B.leads;
    least = λ l e w i. let q = cut w i in omega (arith, q.sum, cost_is q.comes, A.least _ _ q.leads_to, B.least _ _ q.leads_on);
  }

-- .. and there is no walk where no chain leads to it, or none on from it.
pub none_to : {p : Plan} {h t u v : ℕ} → LeastCost p h u None → NoneThrough p h t u v
none_to (none_leads n) l c w i = let q = cut w i in n _ _ q.leads_to

pub none_on : {p : Plan} {h t u v : ℕ} → LeastCost p v t None → NoneThrough p h t u v
none_on (none_leads n) l c w i = let q = cut w i in n _ _ q.leads_on

-- A least cost from a cell known by another name.
pub cost_from : {p : Plan} {a a' b : ℕ} {x : Option ℕ} → a ≡ a' → LeastCost p a b x → LeastCost p a' b x
cost_from {p} {b = b} {x = x} e A = subst (λ y. LeastCost p y b x) e A

-- A least cost is small.
pub cost_small : {p : Plan} {a b x : ℕ} → LeastCost p a b (Some x) → x ≤ growth
cost_small (costs s A) = s

-- ---- the rules

module _ {width height hunter target : ℕ} (plan : List ℕ) {cell direction k : ℕ} (rules : ThroughRules width height hunter target plan cell direction k) where
  -- They give one number ..
  pub through_one : {l : ℕ} → ThroughRules width height hunter target plan cell direction l → k ≡ l
  through_one {l} other = ruled_one (ruled_one (ruled_one (ruled_one (ruled_one passed_one)))) k l rules other

  -- .. number 0 gives every rule ..
  pub through_granted : k ≡ 0 → Askable width height hunter target plan cell direction
  through_granted e =
      let a = granted rules e in
      let b = granted a.1 e in
      let c = granted b.1 e in
      let d = granted c.1 e in
      let f = granted d.1 e in
      record {
        obeys = record { size = a.0; sized = b.0; bytes = f.0.0; edges = d.0.2 };
        hunter_in = c.0.0;
        target_in = c.0.1;
        cell_in = c.0.2;
        small = d.0.0;
        stays_in = d.0.1;
        opens = f.0.1;
      }

  -- .. and where every rule holds the number is 0.
  pub through_passes : Askable width height hunter target plan cell direction → k ≡ 0
  through_passes A =
      passed_zero
      (onward (A.obeys.bytes, A.opens)
      (onward (A.small, A.stays_in, A.obeys.edges)
      (onward (A.hunter_in, A.target_in, A.cell_in)
      (onward A.obeys.sized
      (onward A.obeys.size rules)))))

-- Where all rules before it hold, the last one is left.
pub last_rule : {width height hunter target : ℕ} (plan : List ℕ) {cell direction k : ℕ} → Size width height → length plan ≡ 4 * (height * width)
    → (hunter < height * width) × (target < height * width) × (cell < height * width) → (direction < 4) × Stays width height cell direction → Edges (plan_of width height plan)
    → Ruled (Bytes (plan_of width height plan) × (byte (plan_of width height plan) cell direction ≢ shut)) 5 Passed k → ThroughRules width height hunter target plan cell direction k
last_rule plan z l i m e r = holds z (holds l (holds i (holds (m.0, m.1, e) r)))

-- By these the sum of two least costs is proved.
pub ruleset adding = (cost_small, cost_of)
