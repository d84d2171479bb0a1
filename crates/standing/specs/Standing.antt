-- What stands between two calls: the frame, the plan, and the session with its tables as the method has them; and what each call that is done makes of it.
use Rattle.std.specs.Prelude.{List, ℕ}
use Rattle.method.specs.Graph.{Graph}
use Rattle.method.specs.Tables as method
use Rattle.method.specs.Session as calls
use Rattle.plan.specs.Costs.{Plan}
use Rattle.tables.specs.declared.Session.{Session}
use Rattle.tables.specs.Lent.{Tables, Frame, frame, floor_in, graph_in, session, core}
use Rattle.change.specs.Promise.{replanned_in, changed_over}

pub record Standing : Type 0 where
  pub frame : Frame
  pub plan : List ℕ
  pub session : calls.Session
  pub tables : method.Tables

abbrev pub standing : Frame → List ℕ → calls.Session → method.Tables → Standing
standing f plan σ T = record { frame = f; plan = plan; session = σ; tables = T }

-- Where a session's record and tables stand.
abbrev pub stands : Session → Tables → Standing
stands s t = standing (frame s) t.plan (session s) (core t)

-- The floor plan there, and its graph.
abbrev pub floor_at : Standing → Plan
floor_at S = floor_in S.frame S.plan

abbrev pub graph_at : Standing → Graph
graph_at S = graph_in S.frame S.plan

-- Open: a fresh start at the cells given.
abbrev pub opened : Frame → List ℕ → ℕ → ℕ → Standing
opened f plan hunter target = standing f plan (calls.opened hunter target) (calls.fresh (graph_in f plan) hunter target)

-- A changed move: the byte, and what the method makes of it on the plan as it then is.
abbrev pub changed : Standing → ℕ → ℕ → ℕ → Standing
changed S u d cost = standing S.frame (replanned_in S.frame S.plan u d cost) S.session (changed_over S.frame S.plan S.session S.tables u d cost)

-- The hunter, or the target, placed on a cell.
abbrev pub hunter_at : Standing → ℕ → Standing
hunter_at S cell = standing S.frame S.plan (calls.hunter_placed S.session cell) S.tables

abbrev pub target_at : Standing → ℕ → Standing
target_at S cell = standing S.frame S.plan (calls.target_placed S.session cell) S.tables

-- The method's search from here, and where it leaves all.
abbrev pub search_at : Standing → calls.Outcome
search_at S = calls.search (graph_at S) S.session S.tables

abbrev pub searched : Standing → Standing
searched S = standing S.frame S.plan (search_at S).session (search_at S).tables
