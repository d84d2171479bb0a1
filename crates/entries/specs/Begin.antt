-- A fresh start: what it rests on, its record, and its tables.
use Rattle.std.specs.Prelude.{◌≡◌, ℕ, ◌*◌, ◌<◌}
use Rattle.method.specs.Session.{fresh}
use Rattle.queue.specs.Queue.{Heap}
use Rattle.plan.specs.Costs.{Obeys}
use Rattle.tables.specs.declared.Session.{Session}
use Rattle.tables.specs.Lent.{Tables, Frame, framed, Fits, floor_in, graph_in, core}

-- A fresh start can be made: tables of their lengths, both cells in the plan, an obedient plan. An open that no rule refuses has all this.
pub record Openable (f : Frame) (hunter target : ℕ) (t : Tables) : Type 0 where
  pub fits : Fits (f.height * f.width) t
  pub hunter_in : hunter < f.height * f.width
  pub target_in : target < f.height * f.width
  pub obeys : Obeys (floor_in f t.plan)

-- The record of a session in a frame with both cells placed, before its tables are filled.
abbrev pub placed_on : Frame → ℕ → ℕ → Session
placed_on f hunter target = framed f hunter target hunter target 0 0 0

-- The record of a fresh start: "km and search number 0; the cells given stand as placed and as the last search's"; the hunter alone is queued.
abbrev pub begun : Frame → ℕ → ℕ → Session
begun f hunter target = framed f hunter target hunter target 0 1 0

-- The tables t became t': "g and rhs infinite, parent 0; the hunter's rhs 0 and the hunter queued under its key", in a true heap of one cell. The plan is as it was.
pub record Opened (f : Frame) (hunter target : ℕ) (t t' : Tables) : Type 0 where
  pub plan : t'.plan ≡ t.plan
  pub is : core t' ≡ fresh (graph_in f t.plan) hunter target
  pub heap : Heap f.width (f.height * f.width) 1 t'.k1 t'.k2 t'.place t'.list
