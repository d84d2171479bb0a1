-- "For a given list of 1 to N cells it gives the running cost at each": what is refused, and what is written.
use Rattle.std.specs.Prelude.{◌≡◌, ◌≢◌, List, ℕ, zero, suc, ◌+◌, ◌*◌, ◌≤◌, ◌<◌, length, get_or, drop, Result, Ok, Err}
use Rattle.decide.specs.Ruled.{Ruled, Passed}
use Rattle.refusal.specs.declared.Refusal.{Refusal}
use Rattle.refusal.specs.Numbers.{number_of}
use Rattle.plan.specs.Cells.{Size}
use Rattle.plan.specs.Costs.{Plan, plan_of, shut, byte, Bytes, Edges}
use Rattle.plan.specs.Toward.{Leads, Neighbours}

-- ---- the answer

-- What an answer tells: the refusal's number, and how many costs were written. What it lacks is 0.
pub record RunningTold : Type 0 where
  pub refusal : ℕ
  pub costs : ℕ

abbrev pub running_told : Result ℕ Refusal → RunningTold
running_told (Ok n) = record { refusal = 0; costs = n }
running_told (Err refusal) = record { refusal = number_of refusal; costs = 0 }

-- What is told of a list of so many cells, by the number of the first rule broken; 0 is none.
abbrev pub told_running : ℕ → ℕ → RunningTold
told_running zero n = record { refusal = 0; costs = n }
told_running (suc k) n = record { refusal = suc k; costs = 0 }

-- ---- the list

-- The i-th listed cell, from 0.
abbrev pub cell_at : List ℕ → ℕ → ℕ
cell_at cells i = get_or cells i 0

-- Every listed cell is one of the plan's n.
abbrev pub Listed : ℕ → List ℕ → Type 0
Listed n cells = (i : ℕ) → i < length cells → cell_at cells i < n

-- Each listed pair are neighbours on a plan of a size ..
abbrev pub AllNeighbours : ℕ → ℕ → List ℕ → Type 0
AllNeighbours width height cells = (i : ℕ) → suc i < length cells → Neighbours width height (cell_at cells i) (cell_at cells (suc i))

-- .. and so on a plan.
abbrev pub Joined : Plan → List ℕ → Type 0
Joined p cells = AllNeighbours p.width p.height cells

-- The move in direction d leads from the i-th listed cell to the next.
abbrev pub Onward : Plan → List ℕ → ℕ → ℕ → Type 0
Onward p cells i d = Leads p.width p.height (cell_at cells i) d (cell_at cells (suc i))

-- c is the byte of that move, whatever its direction: it has one only (`one_direction` in plan/proofs/TowardLaws).
abbrev pub StepByte : Plan → List ℕ → ℕ → ℕ → Type 0
StepByte p cells i c = (d : ℕ) → Onward p cells i d → c ≡ byte p (cell_at cells i) d

-- No move of the list's way is shut.
abbrev pub AllOpen : Plan → List ℕ → Type 0
AllOpen p cells = (i d : ℕ) → suc i < length cells → Onward p cells i d → byte p (cell_at cells i) d ≢ shut

-- The running cost: 0 at the first listed cell, then plus the cost of each move.
pub record Runs (p : Plan) (cells costs : List ℕ) : Type 0 where
  pub first : get_or costs 0 0 ≡ 0
  pub next : (i d : ℕ) → suc i < length cells → Onward p cells i d → get_or costs (suc i) 0 ≡ get_or costs i 0 + byte p (cell_at cells i) d

-- ---- the rules

-- "Refusals: 1 to 5 as in document 01, 2 also for another list length, 4 for a listed pair not neighbours, 5 for a shut move; 7 for too little room."
abbrev pub AlongRules : ℕ → ℕ → List ℕ → List ℕ → ℕ → ℕ → Type 0
AlongRules width height plan cells room =
    Ruled (Size width height) 1
    (Ruled ((length plan ≡ 4 * (height * width)) × (1 ≤ length cells) × (length cells ≤ height * width)) 2
    (Ruled (Listed (height * width) cells) 3
    (Ruled (Edges (plan_of width height plan) × Joined (plan_of width height plan) cells) 4
    (Ruled (Bytes (plan_of width height plan) × AllOpen (plan_of width height plan) cells) 5
    (Ruled (length cells ≤ room) 7 Passed)))))

-- The list is a way of neighbours on a plan of a size: what may be asked about its moves.
pub record Way (width height : ℕ) (plan cells : List ℕ) : Type 0 where
  pub size : Size width height
  pub sized : length plan ≡ 4 * (height * width)
  pub some : 1 ≤ length cells
  pub few : length cells ≤ height * width
  pub listed : Listed (height * width) cells
  pub joined : Joined (plan_of width height plan) cells

-- No rule is broken.
pub record Costable (width height : ℕ) (plan cells : List ℕ) (room : ℕ) : Type 0 where
  pub way : Way width height plan cells
  pub edges : Edges (plan_of width height plan)
  pub bytes : Bytes (plan_of width height plan)
  pub all_open : AllOpen (plan_of width height plan) cells
  pub roomy : length cells ≤ room

-- ---- the promise

-- The running costs stand first, and what lies behind them keeps its contents; a refusal changes nothing.
pub record Costed (width height : ℕ) (plan cells costs : List ℕ) (r : Result ℕ Refusal) (costs' : List ℕ) : Type 0 where
  pub number : ℕ
  pub rules : AlongRules width height plan cells (length costs) number
  pub answer : running_told r ≡ told_running number (length cells)
  pub refused : number ≢ 0 → costs' ≡ costs
  pub done : number ≡ 0 → Runs (plan_of width height plan) cells costs'
  pub long : length costs' ≡ length costs
  pub rest : drop (length cells) costs' ≡ drop (length cells) costs
