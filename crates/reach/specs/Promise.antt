-- What the call `reached` promises: its refusals, the answer, and the lent rows and moves, for every input.
use Rattle.std.specs.Prelude.{◌≡◌, ◌≢◌, List, ℕ, ◌*◌, ◌≤◌, ◌<◌, length, get_or, Result, Ok, Err}
use Rattle.decide.specs.Ruled.{Ruled, Passed}
use Rattle.refusal.specs.declared.Refusal.{Refusal}
use Rattle.refusal.specs.Numbers.{number_of}
use Rattle.plan.specs.Cells.{Size}
use Rattle.plan.specs.Costs.{Plan, plan_of, cells, Bytes, Edges}
use Rattle.reach.specs.Bits.{ones_of}
use Rattle.reach.specs.Reachable.{Reachable, Part}
use Rattle.reach.specs.Outs.{Outs}
use Rattle.reach.specs.declared.Counts.{Counts}

-- ---- the answer

-- What an answer tells: the refusal's number, how many cells are reached, and how many shut moves lead out. What it lacks is 0.
pub record ReachTold : Type 0 where
  pub refusal : ℕ
  pub cells : ℕ
  pub moves : ℕ

abbrev pub reach_told : Result Counts Refusal → ReachTold
reach_told (Ok found) = record { refusal = 0; cells = found.cells; moves = found.moves }
reach_told (Err refusal) = record { refusal = number_of refusal; cells = 0; moves = 0 }

-- ---- the rules

-- "1 to 5 as in document 01" for a plan and a cell of it, and the rules after them.
abbrev pub PlanRules : ℕ → ℕ → ℕ → List ℕ → (ℕ → Type 0) → ℕ → Type 0
PlanRules width height hunter plan rest =
    Ruled (Size width height) 1
    (Ruled (length plan ≡ 4 * (height * width)) 2
    (Ruled (hunter < height * width) 3
    (Ruled (Edges (plan_of width height plan)) 4
    (Ruled (Bytes (plan_of width height plan)) 5
    rest))))

-- A number for each row, and one for each move that leads out.
pub record Room (p : Plan) (h : ℕ) (rows moves : List ℕ) : Type 0 where
  pub for_rows : p.height ≤ length rows
  pub for_moves : (list : List ℕ) (count : ℕ) → Outs p (Reachable p h) list count (4 * cells p) → count ≤ length moves

-- "7 for too little room"
abbrev pub ReachRules : ℕ → ℕ → ℕ → List ℕ → List ℕ → List ℕ → ℕ → Type 0
ReachRules width height hunter plan rows moves = PlanRules width height hunter plan (Ruled (Room (plan_of width height plan) hunter rows moves) 7 Passed)

-- ---- the promise

-- The list keeps its length, and its contents from n on.
pub record Kept (n : ℕ) (before after : List ℕ) : Type 0 where
  pub long : length after ≡ length before
  pub rest : (i : ℕ) → n ≤ i → get_or after i 0 ≡ get_or before i 0

-- The first rows are those of the part and the first moves those that lead out of it, as many as are told; the rest keeps its contents.
pub record Written (p : Plan) (h : ℕ) (rows moves : List ℕ) (told : ReachTold) (rows' moves' : List ℕ) : Type 0 where
  pub part : Part p h rows'
  pub counted : told.cells ≡ ones_of rows' p.height
  pub outs : Outs p (Reachable p h) moves' told.moves (4 * cells p)
  pub rows_kept : Kept p.height rows rows'
  pub moves_kept : Kept told.moves moves moves'

-- A refusal tells its number only and changes nothing.
pub record Untouched (rows moves : List ℕ) (told : ReachTold) (rows' moves' : List ℕ) : Type 0 where
  pub no_cells : told.cells ≡ 0
  pub no_moves : told.moves ≡ 0
  pub same_rows : rows' ≡ rows
  pub same_moves : moves' ≡ moves

-- The number told is that of the first rule broken, and 0 where none is.
pub record Reports (width height hunter : ℕ) (plan rows moves : List ℕ) (r : Result Counts Refusal) (rows' moves' : List ℕ) : Type 0 where
  pub number : ℕ
  pub rules : ReachRules width height hunter plan rows moves number
  pub answer : (reach_told r).refusal ≡ number
  pub refused : number ≢ 0 → Untouched rows moves (reach_told r) rows' moves'
  pub done : number ≡ 0 → Written (plan_of width height plan) hunter rows moves (reach_told r) rows' moves'
