-- The session record and the lent tables, and how the method reads them.
use Rattle.std.specs.Prelude.{◌≡◌, List, ℕ, ◌*◌, length}
use Rattle.method.specs.Graph.{Graph}
use Rattle.method.specs.Tables as method
use Rattle.method.specs.Session as method_session
use Rattle.queue.specs.Queue.{members}
use Rattle.plan.specs.Costs.{Plan, plan_of}
use Rattle.plan.specs.Grid.{graph_of}
use Rattle.tables.specs.declared.Session.{Session}
use Rattle.tables.specs.declared.Ahead.{Ahead}

-- "plan 4N bytes; g, rhs, k1, k2; parent bytes; places and list"
pub record Tables : Type 0 where
  pub plan : List ℕ
  pub g : List ℕ
  pub rhs : List ℕ
  pub parent : List ℕ
  pub k1 : List ℕ
  pub k2 : List ℕ
  pub place : List ℕ
  pub list : List ℕ

abbrev pub tables : List ℕ → List ℕ → List ℕ → List ℕ → List ℕ → List ℕ → List ℕ → List ℕ → Tables
tables plan g rhs parent k1 k2 place list =
    record { plan = plan; g = g; rhs = rhs; parent = parent; k1 = k1; k2 = k2; place = place; list = list }

-- The tables that a call finds, or leaves: a plan, g, and what stands ahead of g.
abbrev pub lent : List ℕ → List ℕ → Ahead → Tables
lent plan g a = tables plan g a.rhs.now a.parent.now a.k1.now a.k2.now a.place.now a.list.now

-- The call keeps the caller's own tables: it writes in them, and puts none in another's place.
pub record SameTables (a a' : Ahead) : Type 0 where
  pub rhs : a'.rhs.ghost_name ≡ a.rhs.ghost_name
  pub parent : a'.parent.ghost_name ≡ a.parent.ghost_name
  pub k1 : a'.k1.ghost_name ≡ a.k1.ghost_name
  pub k2 : a'.k2.ghost_name ≡ a.k2.ghost_name
  pub place : a'.place.ghost_name ≡ a.place.ghost_name
  pub list : a'.list.ghost_name ≡ a.list.ghost_name

-- What open fixes for as long as the session lasts.
pub record Frame : Type 0 where
  pub width : ℕ
  pub height : ℕ

abbrev pub frame : Session → Frame
frame s = record { width = s.width; height = s.height }

-- What it fixes on a plan of this size.
abbrev pub frame_of_size : ℕ → ℕ → Frame
frame_of_size width height = record { width = width; height = height }

-- The record with this frame and these fields. Every other way to write a record goes by this one.
abbrev pub framed : Frame → (hunter target origin goal km count searches : ℕ) → Session
framed f hunter target origin goal km count searches =
    record { width = f.width; height = f.height; hunter = hunter; target = target; origin = origin; goal = goal; km = km; count = count; searches = searches }

-- The number of cells, N.
abbrev pub cells : Session → ℕ
cells s = s.height * s.width

-- "Every table has exactly the length that N gives (the plan 4N)."
pub record Fits (n : ℕ) (t : Tables) : Type 0 where
  pub plan : length t.plan ≡ 4 * n
  pub g : length t.g ≡ n
  pub rhs : length t.rhs ≡ n
  pub parent : length t.parent ≡ n
  pub k1 : length t.k1 ≡ n
  pub k2 : length t.k2 ≡ n
  pub place : length t.place ≡ n
  pub list : length t.list ≡ n

-- The floor plan that a frame makes of bytes, and its graph: nowhere else is a graph built.
abbrev pub floor_in : Frame → List ℕ → Plan
floor_in f plan = plan_of f.width f.height plan

abbrev pub graph_in : Frame → List ℕ → Graph
graph_in f plan = graph_of (floor_in f plan)

-- The floor plan, its graph, the session and the tables as the method has them; who is queued is read off the places.
abbrev pub floor : Session → List ℕ → Plan
floor s plan = floor_in (frame s) plan

abbrev pub graph : Session → Tables → Graph
graph s t = graph_in (frame s) t.plan

abbrev pub session : Session → method_session.Session
session s = record {
  hunter = s.hunter;
  target = s.target;
  origin = s.origin;
  goal = s.goal;
  km = s.km;
  searches = s.searches;
}

abbrev pub core : Tables → method.Tables
core t = record { g = t.g; rhs = t.rhs; parent = t.parent; k1 = t.k1; k2 = t.k2; queued = members t.place }
