-- Taking over: what each function rests on, and the method's state that it leaves.
use Rattle.std.specs.Prelude.{◌≡◌, ◌≢◌, ◌+◌, ◌≤◌, ◌<◌, get_or}
use Rattle.method.specs.Numbers.{infinite, renewal}
use Rattle.method.specs.Tables.{Sized}
use Rattle.method.specs.Session.{State, hunt_of, hunter_taken, handed_over, taken_over}
use Rattle.queue.specs.Queue.{Heap, EntryKept}
use Rattle.plan.specs.Cells.{Size, estimate}
use Rattle.plan.specs.Costs.{Obeys}
use Rattle.tables.specs.declared.Session.{Session}
use Rattle.tables.specs.Lent.{Tables, frame, framed, cells, floor, graph, session, core}
use Rattle.entries.specs.Aims.{Small, most_g, most_rhs, most_km}

-- The record and the tables are the method's state m, with a true heap; what open fixed is as it was.
pub record Holds (s : Session) (m : State) (r : Session) (t : Tables) : Type 0 where
  pub frame_is : frame r ≡ frame s
  pub record_is : session r ≡ m.session
  pub tables_are : core t ≡ m.tables
  pub heap : Heap s.width (cells s) r.count t.k1 t.k2 t.place t.list

-- What taking over leaves of the record s and the tables t: the method's state. Where the hunter stays and nothing starts fresh, no table is written, list and places neither;
-- where a hunter with a finite rhs is taken over and the old hunter's entry, found anew, is what it was, list and places stay.
pub record Takes (s : Session) (t : Tables) (r : Session) (t' : Tables) : Type 0 where
  pub holds : Holds s (taken_over (graph s t) (session s) (core t)) r t'
  pub untouched : s.hunter ≡ s.origin → s.searches < renewal → (r.count ≡ s.count) × (t' ≡ t)
  pub kept : s.searches < renewal → get_or t.rhs s.hunter 0 ≢ infinite
      → EntryKept s.count t.k1 t.k2 t.place t.list r.count t'.k1 t'.k2 t'.place t'.list

-- The target can be taken over: both targets are in the plan, and km leaves room for one more estimate.
pub record Aiming (s : Session) : Type 0 where
  pub size : Size s.width s.height
  pub old_in : s.goal < cells s
  pub new_in : s.target < cells s
  pub km_le : s.km ≤ most_km

-- The record with the target taken over.
abbrev pub aimed_anew : Session → Session
aimed_anew s = framed (frame s) s.hunter s.target s.origin s.target (s.km + estimate s.width s.goal s.target) s.count s.searches

-- The hunter can be taken over.
pub record Handing (s : Session) (t : Tables) : Type 0 where
  pub obeys : Obeys (floor s t.plan)
  pub new_in : s.hunter < cells s
  pub old_in : s.origin < cells s
  pub goal_in : s.goal < cells s
  pub km_le : s.km ≤ most_km
  pub sized : Sized (cells s) (core t)
  pub heap : Heap s.width (cells s) s.count t.k1 t.k2 t.place t.list
  pub small_g : Small most_g t.g
  pub small_rhs : Small most_rhs t.rhs

-- The method's state with the hunter taken over.
abbrev pub hand_over : Session → Tables → State
hand_over s t = record {
  session = hunter_taken (session s);
  tables = handed_over (hunt_of (graph s t) (hunter_taken (session s))) (core t) s.origin;
}
