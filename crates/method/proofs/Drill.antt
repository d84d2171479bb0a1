-- The definitions compute: document 01's "One drill, whole", its six answers.
use mathlib.Core.Path.{◌≡◌, refl}
use mathlib.Core.Bool.{true, false}
use mathlib.Core.List.{List, [], ◌∷◌, ◌++◌}
use Prim.Native.Nat.{ℕ, zero, suc, ◌+◌, ◌-◌}
use native.Mathlib.Decide.{ℕ_discrete, dec_le, dec_lt}
use Rattle.decide.specs.Choose.{choose}
use Rattle.method.specs.Graph.{Move, move, Graph}
use Rattle.method.specs.Tables.{Tables, first_key, enter, set_right, better, least_over, anew, found_anew}
use Rattle.method.specs.Steps.{relaxed, relaxed_all, lowered, renewed, renewed_all, raised, kind_of, stepped_by, stepped}
use Rattle.method.specs.Loop.{sooner, soonest, least_queued, goes_on, next_cell, is_none, run_on, run}
use Rattle.method.specs.Session.{Session, hunt_of, opened, blank, fresh, hunter_placed, target_placed, move_changed, handed_over, taken_over, parent_cell, way_from, Answer, caught, none_leads, way, answer_of, search}

-- A move that is open at costs of at most 250, else shut.
unfoldable pub door : Move → List Move
door m = choose (dec_lt m.cost 251) (m ∷ []) []

-- Three cells in a row; the cost of the move from 1 to 2 is c, of the others 1. Parent codes: 2 east, 4 west.
unfoldable pub into_cell : ℕ → ℕ → List Move
into_cell c zero = move 2 1 1 ∷ []
into_cell c (suc zero) = move 2 2 1 ∷ move 4 0 1 ∷ []
into_cell c (suc (suc zero)) = door (move 4 1 c)
into_cell c (suc (suc (suc s))) = []

unfoldable pub out_of : ℕ → ℕ → List Move
out_of c zero = move 4 1 1 ∷ []
out_of c (suc zero) = door (move 4 2 c) ++ (move 2 0 1 ∷ [])
out_of c (suc (suc zero)) = move 2 1 1 ∷ []
out_of c (suc (suc (suc s))) = []

unfoldable pub corridor : ℕ → Graph
corridor c = record { cells = 3; into = into_cell c; out = out_of c; estimate = λ a b. (a - b) + (b - a); earlier = λ a b. choose (dec_lt a b) true false }

-- The actions of a drill; a change is of the move from 1 to 2.
pub data Action : Type 0 where
  change hunter target : ℕ → Action
  ask : Action

-- The answers of a drill on the corridor where that move costs c.
unfoldable pub play : ℕ → Session → Tables → List Action → List Answer
play c σ T [] = []
play c σ T (change new ∷ l) = play new σ (move_changed (hunt_of (corridor new) σ) T 2 4 1 c new) l
play c σ T (hunter s ∷ l) = play c (hunter_placed σ s) T l
play c σ T (target s ∷ l) = play c (target_placed σ s) T l
play c σ T (ask ∷ l) = let o = search (corridor c) σ T in o.answer ∷ play c o.session o.tables l

pub one_drill : play 1 (opened 0 2) (fresh (corridor 1) 0 2) (ask ∷ change 255 ∷ ask ∷ change 5 ∷ ask ∷ hunter 1 ∷ ask ∷ target 0 ∷ ask ∷ target 1 ∷ ask ∷ [])
    ≡ way 2 2 (0 ∷ 1 ∷ 2 ∷ []) ∷ none_leads 0 ∷ way 6 0 (0 ∷ 1 ∷ 2 ∷ []) ∷ way 5 2 (1 ∷ 2 ∷ []) ∷ way 1 0 (1 ∷ 0 ∷ []) ∷ caught 1 ∷ []
unfolding play corridor into_cell out_of door choose first_key enter set_right better least_over anew found_anew relaxed relaxed_all lowered renewed
    renewed_all raised kind_of stepped_by stepped sooner soonest least_queued goes_on next_cell is_none run_on run blank fresh move_changed handed_over
    taken_over parent_cell way_from answer_of search ℕ_discrete dec_le dec_lt
one_drill = refl
