-- "Asked about one named open move, it gives the least cost of any walk from hunter to target through that move, cells allowed twice, or says there is none."
use Rattle.std.specs.Prelude.{◌≡◌, ◌≢◌, Option, Some, None, Result, Ok, Err, List, ◌∷◌, ℕ, ◌-◌, ◌*◌, ◌≤◌, ◌<◌, length, get_or}
use Rattle.std.proofs.Math.Decide.{ℕ_discrete}
use Rattle.decide.specs.Choose.{choose}
use Rattle.decide.specs.Ruled.{Ruled, Passed}
use Rattle.refusal.specs.declared.Refusal.{Refusal}
use Rattle.refusal.specs.Numbers.{number_of}
use Rattle.method.specs.Numbers.{infinite, growth}
use Rattle.method.specs.Walk.{Chain, NoChain, Cheapest}
use Rattle.plan.specs.Cells.{Size, Stays, entered}
use Rattle.plan.specs.Costs.{Plan, plan_of, byte, shut, Bytes, Edges, Obeys}
use Rattle.plan.specs.Grid.{graph_of}

-- ---- the walks

-- A walk over the cells of l goes from u to v: they stand side by side in it, in this order.
pub data Uses (u v : ℕ) : List ℕ → Type 0 where
  here : {l : List ℕ} → Uses u v (u ∷ v ∷ l)
  later : {a : ℕ} {l : List ℕ} → Uses u v l → Uses u v (a ∷ l)

-- d is the least cost of any walk from h to t that goes from u to v.
pub record LeastThrough (p : Plan) (h t u v d : ℕ) : Type 0 where
  pub over : List ℕ
  pub leads : Chain (graph_of p) h over t d
  pub uses : Uses u v over
  pub least : (l : List ℕ) (e : ℕ) → Chain (graph_of p) h l t e → Uses u v l → d ≤ e

-- There is no such walk.
abbrev pub NoneThrough : Plan → ℕ → ℕ → ℕ → ℕ → Type 0
NoneThrough p h t u v = (l : List ℕ) (e : ℕ) → Chain (graph_of p) h l t e → Uses u v l → ⊥

-- ---- the rules

-- "1 to 5 as in document 01"; 4 also for a move that leaves the plan or a direction above 3, "5 for a shut move".
abbrev pub ThroughRules : ℕ → ℕ → ℕ → ℕ → List ℕ → ℕ → ℕ → ℕ → Type 0
ThroughRules width height hunter target plan cell direction =
    Ruled (Size width height) 1
    (Ruled (length plan ≡ 4 * (height * width)) 2
    (Ruled ((hunter < height * width) × (target < height * width) × (cell < height * width)) 3
    (Ruled ((direction < 4) × Stays width height cell direction × Edges (plan_of width height plan)) 4
    (Ruled (Bytes (plan_of width height plan) × (byte (plan_of width height plan) cell direction ≢ shut)) 5
    Passed))))

-- No rule is broken: the move can be asked about.
pub record Askable (width height hunter target : ℕ) (plan : List ℕ) (cell direction : ℕ) : Type 0 where
  pub obeys : Obeys (plan_of width height plan)
  pub hunter_in : hunter < height * width
  pub target_in : target < height * width
  pub cell_in : cell < height * width
  pub small : direction < 4
  pub stays_in : Stays width height cell direction
  pub opens : byte (plan_of width height plan) cell direction ≢ shut

-- ---- the promise

-- What an answer tells: the refusal's number, 1 where there is a walk, and its cost. What it lacks is 0.
pub record ThroughTold : Type 0 where
  pub refusal : ℕ
  pub walk : ℕ
  pub cost : ℕ

abbrev pub through_told : Result (Option ℕ) Refusal → ThroughTold
through_told (Ok (Some d)) = record { refusal = 0; walk = 1; cost = d }
through_told (Ok None) = record { refusal = 0; walk = 0; cost = 0 }
through_told (Err r) = record { refusal = number_of r; walk = 0; cost = 0 }

-- The answer where no rule is broken: the least cost, or that there is no such walk.
abbrev pub Answers : Plan → ℕ → ℕ → ℕ → ℕ → Result (Option ℕ) Refusal → Type 0
Answers p h t u v (Ok (Some d)) = LeastThrough p h t u v d
Answers p h t u v (Ok None) = NoneThrough p h t u v
Answers p h t u v (Err r) = ⊥

-- A refusal carries its number only. Nothing is lent but the plan, which is only read.
pub record Passes (width height hunter target : ℕ) (plan : List ℕ) (cell direction : ℕ) (r : Result (Option ℕ) Refusal) : Type 0 where
  pub number : ℕ
  pub rules : ThroughRules width height hunter target plan cell direction number
  pub refused : number ≢ 0 → through_told r ≡ record { refusal = number; walk = 0; cost = 0 }
  pub done : number ≡ 0 → Answers (plan_of width height plan) hunter target cell (entered width cell direction) r

-- ---- what it is made of

-- The least cost from one cell to another, none if no chain of open moves leads there.
pub data LeastCost (p : Plan) (a b : ℕ) : Option ℕ → Type 0 where
  none_leads : NoChain (graph_of p) a b → LeastCost p a b None
  costs : {d : ℕ} {l : List ℕ} → d ≤ growth → Cheapest (graph_of p) a b d l → LeastCost p a b (Some d)

-- What the rhs of cell b is above that of cell a, none if it is infinite: after a run from a fresh start, the least cost.
unfoldable pub cost_in : List ℕ → ℕ → ℕ → Option ℕ
cost_in rhs a b = choose (ℕ_discrete (get_or rhs b 0) infinite) None (Some (get_or rhs b 0 - get_or rhs a 0))

-- It can be told.
pub record Readable (rhs : List ℕ) (a b : ℕ) : Type 0 where
  pub a_in : a < length rhs
  pub b_in : b < length rhs
  pub above : get_or rhs b 0 ≢ infinite → get_or rhs a 0 ≤ get_or rhs b 0
