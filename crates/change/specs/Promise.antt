-- What a change promises: its answer, the record and every table, for every input.
use Rattle.std.specs.Prelude.{◌≡◌, ◌≢◌, List, ℕ, ◌+◌}
use Rattle.method.specs.Tables as method
use Rattle.method.specs.Session as calls
use Rattle.queue.specs.Queue.{Heap, EntryKept}
use Rattle.plan.specs.Directions.{opposite}
use Rattle.plan.specs.Cells.{entered}
use Rattle.plan.specs.Costs.{byte, with_byte}
use Rattle.tables.specs.declared.Session.{Session}
use Rattle.tables.specs.Lent.{Tables, Frame, tables, frame, framed, cells, floor_in, graph_in, floor, session, core}
use Rattle.tables.specs.Told.{told_number}
use Rattle.change.specs.Effects.{Touches}
use Rattle.session.specs.declared.Reply.{Reply}
use Rattle.session.specs.Refusals.{told_by}
use Rattle.change.specs.Refusals.{ChangeRules}

-- The record with another count of the queue.
abbrev pub counted : Session → ℕ → Session
counted s n = framed (frame s) s.hunter s.target s.origin s.goal s.km n s.searches

-- The tables with another plan, all else as it was.
abbrev pub with_plan : Tables → List ℕ → Tables
with_plan t plan = tables plan t.g t.rhs t.parent t.k1 t.k2 t.place t.list

-- The plan's bytes with the new cost.
abbrev pub replanned_in : Frame → List ℕ → ℕ → ℕ → ℕ → List ℕ
replanned_in f plan u d cost = (with_byte (floor_in f plan) u d cost).bytes

abbrev pub replanned : Session → Tables → ℕ → ℕ → ℕ → List ℕ
replanned s t u d cost = replanned_in (frame s) t.plan u d cost

-- The cell that the move enters, the move's parent code there, and its byte before the change.
abbrev pub entered_cell : Session → ℕ → ℕ → ℕ
entered_cell s u d = entered s.width u d

abbrev pub back_code : ℕ → ℕ
back_code d = opposite d + 1

abbrev pub old_cost : Session → Tables → ℕ → ℕ → ℕ
old_cost s t u d = byte (floor s t.plan) u d

-- What the method makes of its tables T where the move of a plan from cell u in direction d gets this cost: on the plan as it then is.
abbrev pub changed_over : Frame → List ℕ → calls.Session → method.Tables → ℕ → ℕ → ℕ → method.Tables
changed_over f plan σ T u d cost =
    calls.move_changed (calls.hunt_of (graph_in f (replanned_in f plan u d cost)) σ) T (entered f.width u d) (back_code d) u (byte (floor_in f plan) u d) cost

-- So of a session's own tables.
abbrev pub method_change : Session → Tables → ℕ → ℕ → ℕ → method.Tables
method_change s t u d cost = changed_over (frame s) t.plan (session s) (core t) u d cost

-- The change is worked in: the byte is set, the tables t became the method's, with a true heap of `count` cells. Where the cell entered is not written, only the byte changed;
-- where its entry is set right to what it is already, list and places stay.
pub record WorkedIn (s : Session) (t : Tables) (u d cost count : ℕ) (t' : Tables) : Type 0 where
  pub plan : t'.plan ≡ replanned s t u d cost
  pub is : core t' ≡ method_change s t u d cost
  pub heap : Heap s.width (cells s) count t'.k1 t'.k2 t'.place t'.list
  pub untouched : (Touches s.origin t.g t.rhs t.parent (entered_cell s u d) (back_code d) u (old_cost s t u d) cost → ⊥) → (count ≡ s.count) × (t' ≡ with_plan t (replanned s t u d cost))
  pub kept : EntryKept s.count t.k1 t.k2 t.place t.list count t'.k1 t'.k2 t'.place t'.list

-- A refused change returns the record as it came and changes no table; else the count is the only field of the record that can change.
pub record Changes (s : Session) (t : Tables) (u d cost : ℕ) (r : Reply) (t' : Tables) : Type 0 where
  pub number : ℕ
  pub rules : ChangeRules s t u d cost number
  pub answer : told_by r.answer ≡ told_number number
  pub refused : number ≢ 0 → (r.session ≡ s) × (t' ≡ t)
  pub done : number ≡ 0 → (r.session ≡ counted s r.session.count) × WorkedIn s t u d cost r.session.count t'
