-- The calls: open, place, change a move, search.
use Rattle.std.specs.Prelude.{true, false, List, [], ◌∷◌, ℕ, zero, suc, ◌+◌, ◌-◌, ◌*◌, length, get_or, set, replicate}
use Rattle.std.proofs.Math.Bool.{Bool-discrete}
use Rattle.std.proofs.Math.Decide.{ℕ_discrete, dec_le, dec_lt}
use Rattle.decide.specs.Choose.{choose}
use Rattle.method.specs.Numbers.{infinite, renewal}
use Rattle.method.specs.Graph.{Move, Graph, Hunt}
use Rattle.method.specs.Tables.{Tables, g_at, rhs_at, parent_at, with_rhs, set_right, found_anew}
use Rattle.method.specs.Loop.{Step, Ran, run}

-- "the hunter and target as placed, the hunter and target of the last search" (origin and goal), "km, and the number of searches since the last fresh start"
pub record Session : Type 0 where
  pub hunter : ℕ
  pub target : ℕ
  pub origin : ℕ
  pub goal : ℕ
  pub km : ℕ
  pub searches : ℕ

-- What the last search taken over goes by.
abbrev pub hunt_of : Graph → Session → Hunt
hunt_of G σ = record { graph = G; hunter = σ.origin; target = σ.goal; km = σ.km }

pub record State : Type 0 where
  pub session : Session
  pub tables : Tables

-- The session σ with these numbers and all else as it was: a session has nothing else yet, so σ is not read.
abbrev pub keeping : Session → (hunter target origin goal km searches : ℕ) → Session
keeping σ hunter target origin goal km searches = record { hunter = hunter; target = target; origin = origin; goal = goal; km = km; searches = searches }

-- Open: "km and search number 0; the cells given stand as placed and as the last search's"
abbrev pub opened : ℕ → ℕ → Session
opened hunter target = record { hunter = hunter; target = target; origin = hunter; goal = target; km = 0; searches = 0 }

-- "g and rhs infinite, parent 0", nothing queued
unfoldable pub blank : ℕ → Tables
blank n = record { g = replicate n infinite; rhs = replicate n infinite; parent = replicate n 0; k1 = replicate n 0; k2 = replicate n 0; queued = replicate n false }

-- ".. the hunter's rhs 0 and the hunter queued under its key"
unfoldable pub fresh : Graph → ℕ → ℕ → Tables
fresh G hunter target = set_right (hunt_of G (opened hunter target)) (with_rhs (blank G.cells) hunter 0 0) hunter

abbrev pub fresh_start : Graph → ℕ → ℕ → State
fresh_start G hunter target = record { session = opened hunter target; tables = fresh G hunter target }

-- "Place hunter, place target: change one field of the record."
abbrev pub hunter_placed : Session → ℕ → Session
hunter_placed σ s = keeping σ s σ.target σ.origin σ.goal σ.km σ.searches

abbrev pub target_placed : Session → ℕ → Session
target_placed σ s = keeping σ σ.hunter s σ.origin σ.goal σ.km σ.searches

-- Change a move from u into v, which gives v the parent code k, from the number `old` to `new`; H has the graph after the change.
-- A shut move's number is above every cost. "If it falls: where the cell v entered is not the search's hunter and g(u) + cost < rhs(v),
-- rhs(v) becomes that sum and u its parent. If it rises: where v is not the search's hunter and u is its parent, rhs(v) and its parent
-- are found anew. After rhs is set or found anew, even to the same number, the cell's queue entry is set right. An equal cost changes nothing."
unfoldable pub move_changed : Hunt → Tables → (v k u old new : ℕ) → Tables
move_changed H T v k u old new =
    choose (ℕ_discrete v H.hunter) T
    (choose (dec_lt new old)
    (choose (dec_lt (g_at T u + new) (rhs_at T v)) (set_right H (with_rhs T v (g_at T u + new) k) v) T)
    (choose (dec_lt old new)
    (choose (ℕ_discrete (parent_at T v) k) (found_anew H T v) T)
    T))

-- "take over the target: km grows by the estimate between old and new target"
abbrev pub target_taken : Graph → Session → Session
target_taken G σ = keeping σ σ.hunter σ.target σ.origin σ.target (σ.km + G.estimate σ.goal σ.target) σ.searches

abbrev pub hunter_taken : Session → Session
hunter_taken σ = keeping σ σ.hunter σ.target σ.hunter σ.goal σ.km σ.searches

-- The new hunter's "rhs is kept, its parent becomes 0, and the old hunter's rhs, parent and queue entry are found anew"
unfoldable pub handed_over : Hunt → Tables → ℕ → Tables
handed_over H T old =
    found_anew H (record { g = T.g; rhs = T.rhs; parent = set T.parent H.hunter 0; k1 = T.k1; k2 = T.k2; queued = T.queued }) old

-- "If the search number is 1,000, start fresh. Else take over the target. Then, only if the hunter changed, take it over: if the new hunter's rhs is infinite, start fresh; else .."
unfoldable pub taken_over : Graph → Session → Tables → State
taken_over G σ T =
    choose (dec_le renewal σ.searches) (fresh_start G σ.hunter σ.target)
    (choose (ℕ_discrete σ.hunter σ.origin) (record { session = target_taken G σ; tables = T })
    (choose (ℕ_discrete (rhs_at T σ.hunter) infinite) (fresh_start G σ.hunter σ.target)
    (record {
      session = hunter_taken (target_taken G σ);
      tables = handed_over (hunt_of G (hunter_taken (target_taken G σ))) T σ.origin;
    })))

-- "The search number grows by 1."
abbrev pub counted : Session → Session
counted σ = keeping σ σ.hunter σ.target σ.origin σ.goal σ.km (suc σ.searches)

-- The cell that a parent code names.
unfoldable pub parent_cell : List Move → ℕ → ℕ
parent_cell [] k = 0
parent_cell (m ∷ l) k = choose (ℕ_discrete m.code k) m.cell (parent_cell l k)

-- "the cells from parent to parent", hunter first: from s on, at most so many links, with `rest` behind them.
unfoldable pub way_from : Hunt → List ℕ → ℕ → ℕ → List ℕ → List ℕ
way_from H parent zero s rest = s ∷ rest
way_from H parent (suc links) s rest =
    choose (ℕ_discrete s H.hunter) (s ∷ rest)
    (way_from H parent links (parent_cell (H.graph.into s) (get_or parent s 0)) (s ∷ rest))

-- Caught: the cell. None: the steps. Way: cost, steps and cells. Cut off: refusal 9.
pub data Answer : Type 0 where
  caught : ℕ → Answer
  none_leads : ℕ → Answer
  way : ℕ → ℕ → List ℕ → Answer
  cut_off : Answer

-- The steps that an answer shows.
abbrev pub steps_shown : Answer → ℕ
steps_shown (caught s) = 0
steps_shown (none_leads n) = n
steps_shown (way c n l) = n
steps_shown cut_off = 0

-- "If the target's rhs is infinite: none. Else way: cost = rhs(target) − rhs(hunter), and the cells from parent to parent."
unfoldable pub answer_of : Hunt → Ran → Answer
answer_of H r =
    choose (Bool-discrete r.ended true)
    (choose (ℕ_discrete (rhs_at r.tables H.target) infinite) (none_leads (length r.steps))
    (way (rhs_at r.tables H.target - rhs_at r.tables H.hunter) (length r.steps)
    (way_from H r.tables.parent H.graph.cells H.target [])))
    cut_off

-- A search's answer, the record and tables it leaves, and the steps it took.
pub record Outcome : Type 0 where
  pub answer : Answer
  pub session : Session
  pub tables : Tables
  pub steps : List Step

abbrev pub concluded : Hunt → Session → Ran → Outcome
concluded H σ r = record { answer = answer_of H r; session = σ; tables = r.tables; steps = r.steps }

-- The search proper, at most 3N steps from a state taken over.
abbrev pub searched_from : Graph → State → Outcome
searched_from G s = concluded (hunt_of G s.session) (counted s.session) (run (hunt_of G s.session) (3 * G.cells) s.tables)

-- "If the placed hunter and target are one cell: caught, cost 0, no steps. Record and tables do not change."
unfoldable pub search : Graph → Session → Tables → Outcome
search G σ T =
    choose (ℕ_discrete σ.hunter σ.target) (record { answer = caught σ.hunter; session = σ; tables = T; steps = [] })
    (searched_from G (taken_over G σ T))
