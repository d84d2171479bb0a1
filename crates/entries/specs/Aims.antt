-- What a search goes by, and what the inner functions rest on.
use Rattle.std.specs.Prelude.{◌≡◌, ◌⊎◌, List, ℕ, ◌+◌, ◌*◌, ◌≤◌, ◌<◌, get_or, length}
use Rattle.method.specs.Numbers.{infinite, most_cost}
use Rattle.method.specs.Graph.{Hunt}
use Rattle.method.specs.Tables.{Sized}
use Rattle.method.specs.Session as method_session
use Rattle.queue.specs.Queue.{Heap}
use Rattle.plan.specs.Costs.{Plan, plan_of, Obeys}
use Rattle.plan.specs.Reached.{At}
use Rattle.plan.specs.declared.Spot.{Spot}
use Rattle.tables.specs.declared.Session.{Session}
use Rattle.tables.specs.Lent.{Tables, Frame, frame, frame_of_size, floor_in, graph_in, session, core}
use Rattle.entries.specs.declared.Aim.{Aim}

-- The number of cells.
abbrev pub area : Aim → ℕ
area a = a.height * a.width

-- The frame of the session that has this aim, and its floor plan.
abbrev pub frame_of : Aim → Frame
frame_of a = frame_of_size a.width a.height

abbrev pub floor : Aim → List ℕ → Plan
floor a plan = floor_in (frame_of a) plan

-- The method's hunt.
abbrev pub hunt : Aim → List ℕ → Hunt
hunt a plan = record { graph = graph_in (frame_of a) plan; hunter = a.hunter; target = a.target; km = a.km }

-- What the last search taken over goes by, in this frame and the method's session σ, with its target's spot.
abbrev pub aim_by : Frame → method_session.Session → Spot → Aim
aim_by f σ at = record { width = f.width; height = f.height; hunter = σ.origin; target = σ.goal; target_at = at; km = σ.km }

-- So of a session's record.
abbrev pub aim_of : Session → Spot → Aim
aim_of s at = aim_by (frame s) (session s) at

-- The aim a is that, its target's spot found.
pub record AimOf (s : Session) (a : Aim) : Type 0 where
  pub is : a ≡ aim_of s a.target_at
  pub target_at : At s.width s.goal a.target_at

-- The greatest finite g, and the greatest finite rhs, that the inner functions add to without reaching infinite.
abbrev pub most_g : ℕ
most_g = 4100000000

abbrev pub most_rhs : ℕ
most_rhs = most_g + most_cost

abbrev pub most_km : ℕ
most_km = 1000000

-- What stays while a search runs: an obedient plan, hunter and target inside it, the target's spot, a small km.
pub record Aimed (a : Aim) (plan : List ℕ) : Type 0 where
  pub obeys : Obeys (floor a plan)
  pub hunter_in : a.hunter < area a
  pub target_in : a.target < area a
  pub target_at : At a.width a.target a.target_at
  pub km_le : a.km ≤ most_km

-- The tables have their lengths and hold a true heap of `count` cells.
pub record Held (a : Aim) (count : ℕ) (t : Tables) : Type 0 where
  pub sized : Sized (area a) (core t)
  pub heap : Heap a.width (area a) count t.k1 t.k2 t.place t.list

-- Every number of a table is infinite or at most `bound`.
abbrev pub Small : ℕ → List ℕ → Type 0
Small bound l = (k : ℕ) → (get_or l k 0 ≡ infinite) ⊎ (get_or l k 0 ≤ bound)

-- A cell's rhs can be found anew: an obedient plan, a g for each cell that leaves room for a cost, and a cell of the plan.
pub record Findable (width height : ℕ) (plan g : List ℕ) (s : ℕ) : Type 0 where
  pub obeys : Obeys (plan_of width height plan)
  pub long_g : length g ≡ height * width
  pub small_g : Small most_g g
  pub inside : s < height * width

-- The tables can be worked on: an aim, their lengths and a true heap, and numbers that leave room for a sum; `most` is the greatest finite rhs.
pub record Ready (a : Aim) (most count : ℕ) (t : Tables) : Type 0 where
  pub aimed : Aimed a t.plan
  pub held : Held a count t
  pub small_g : Small most_g t.g
  pub small_rhs : Small most t.rhs

-- .. at a cell, whose spot is `at`.
pub record ReadyAt (a : Aim) (most count cell : ℕ) (at : Spot) (t : Tables) : Type 0 where
  pub ready : Ready a most count t
  pub inside : cell < area a
  pub stands : At a.width cell at
