-- The actions of a drill, one after the other: what each leaves, and the line that it prints.
use Rattle.std.specs.Prelude.{Option, Some, None, List, [], ◌∷◌, ◌++◌, ℕ}
use Rattle.std.proofs.Math.Decide.{ℕ_discrete, dec_lt}
use Rattle.decide.specs.Choose.{choose}
use Rattle.method.specs.Tables as method
use Rattle.method.specs.Graph.{Hunt}
use Rattle.method.specs.Steps.{Kind, stepped}
use Rattle.method.specs.Loop.{Step}
use Rattle.method.specs.Session as method_session
use Rattle.plan.specs.Costs.{cells}
use Rattle.answer.specs.Answer.{answer_of, cells_of}
use Rattle.search.specs.Promise.{written}
use Rattle.standing.specs.Standing.{Standing, floor_at, graph_at, changed, hunter_at, target_at, search_at, searched}
use Rattle.drill_file.specs.declared.Action.{Action}
use Rattle.drill_file.specs.declared.Action.TheVariants.{Change, Hunter, Target, Search}
use Rattle.lines.specs.Lines.{refused_line, line}
use Rattle.drill.specs.Numbers.{move_number}

-- What an action leaves, the cells that it writes into the way list, and the line that it prints, if any.
pub record Turn : Type 0 where
  pub after : Standing
  pub shown : List ℕ
  pub line : List ℕ

-- An accepted action writes no cells and prints nothing; "a refused action prints `refused` and the number on a line and the rest goes on".
abbrev pub accepted : Standing → Turn
accepted S = record { after = S; shown = []; line = [] }

abbrev pub refused : Standing → ℕ → Turn
refused S number = record { after = S; shown = []; line = refused_line number }

-- A search writes the cells of its answer and prints its line.
abbrev pub answered : Standing → method_session.Answer → Turn
answered S a = record { after = S; shown = cells_of a; line = line (answer_of a) (cells_of a) }

-- One action. A badly formed one is in no file that is played.
unfoldable pub turn : Standing → Option Action → Turn
turn S (Some (Change u d cost)) = choose (ℕ_discrete (move_number (floor_at S) u d cost) 0) (accepted (changed S u d cost)) (refused S (move_number (floor_at S) u d cost))
turn S (Some (Hunter s)) = choose (dec_lt s (cells (floor_at S))) (accepted (hunter_at S s)) (refused S 3)
turn S (Some (Target s)) = choose (dec_lt s (cells (floor_at S))) (accepted (target_at S s)) (refused S 3)
turn S (Some Search) = answered (searched S) (search_at S).answer
turn S None = accepted S

-- What the actions print, in order.
unfoldable pub played : Standing → List (Option Action) → List ℕ
played S [] = []
played S (a ∷ l) = let t = turn S a in t.line ++ played t.after l

-- What they leave.
unfoldable pub left_by : Standing → List (Option Action) → Standing
left_by S [] = S
left_by S (a ∷ l) = left_by (turn S a).after l

-- What they leave in the way list.
unfoldable pub way_left : Standing → List (Option Action) → List ℕ → List ℕ
way_left S [] way = way
way_left S (a ∷ l) way = let t = turn S a in way_left t.after l (written t.shown way)

-- A step of a search: what was done on which cell, its g and rhs before, and what its g becomes.
pub record Taken : Type 0 where
  pub kind : Kind
  pub cell : ℕ
  pub g : ℕ
  pub rhs : ℕ
  pub becomes : ℕ

-- The steps in order, each with its cell's numbers in the tables that it finds.
unfoldable pub taken_from : Hunt → method.Tables → List Step → List Taken
taken_from H T [] = []
taken_from H T (x ∷ l) =
    record { kind = x.kind; cell = x.cell; g = method.g_at T x.cell; rhs = method.rhs_at T x.cell; becomes = method.g_at (stepped H T x.cell) x.cell }
    ∷ taken_from H (stepped H T x.cell) l

-- The steps of a search, from the tables taken over.
abbrev pub taken_in : Standing → List Taken
taken_in S =
    let taken = method_session.taken_over (graph_at S) S.session S.tables in
    taken_from (method_session.hunt_of (graph_at S) taken.session) taken.tables (search_at S).steps

-- The steps of each search among the actions.
unfoldable pub taken_by : Standing → List (Option Action) → List (List Taken)
taken_by S [] = []
taken_by S (Some Search ∷ l) = taken_in S ∷ taken_by (turn S (Some Search)).after l
taken_by S (Some (Change u d cost) ∷ l) = taken_by (turn S (Some (Change u d cost))).after l
taken_by S (Some (Hunter s) ∷ l) = taken_by (turn S (Some (Hunter s))).after l
taken_by S (Some (Target s) ∷ l) = taken_by (turn S (Some (Target s))).after l
taken_by S (None ∷ l) = taken_by S l
