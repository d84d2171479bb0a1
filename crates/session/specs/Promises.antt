-- What place and open promise: the answer, the record and every table, for every input.
use Rattle.std.specs.Prelude.{◌≡◌, ◌≢◌, ◌↔◌, ℕ, ◌≤◌, ◌<◌, get_or}
use Rattle.tables.specs.declared.Session.{Session}
use Rattle.tables.specs.Lent.{Tables, frame, frame_of_size, framed, core}
use Rattle.tables.specs.Told.{told_number}
use Rattle.entries.specs.Begin.{begun, Opened}
use Rattle.session.specs.declared.Reply.{Reply}
use Rattle.session.specs.Refusals.{told_by, PlaceRules, OpenRules}

-- ---- the record

-- The record with the hunter, or the target, placed on a cell: one field changes.
abbrev pub hunter_at : Session → ℕ → Session
hunter_at s cell = framed (frame s) cell s.target s.origin s.goal s.km s.count s.searches

abbrev pub target_at : Session → ℕ → Session
target_at s cell = framed (frame s) s.hunter cell s.origin s.goal s.km s.count s.searches

-- The record that a refused open returns: "all fields 0".
abbrev pub nothing : Session
nothing = framed (frame_of_size 0 0) 0 0 0 0 0 0 0

-- ---- place

-- Placing a cell makes `placed` of the record s, or is refused and returns s as it came. It reads no table.
pub record Places (s placed : Session) (cell : ℕ) (r : Reply) : Type 0 where
  pub number : ℕ
  pub rules : PlaceRules s cell number
  pub answer : told_by r.answer ≡ told_number number
  pub refused : number ≢ 0 → r.session ≡ s
  pub done : number ≡ 0 → r.session ≡ placed

-- ---- open

-- A refused open returns the record with all fields 0 and changes no table.
pub record Opens (width height hunter target : ℕ) (t : Tables) (r : Reply) (t' : Tables) : Type 0 where
  pub number : ℕ
  pub rules : OpenRules width height hunter target t number
  pub answer : told_by r.answer ≡ told_number number
  pub refused : number ≢ 0 → (r.session ≡ nothing) × (t' ≡ t)
  pub done : number ≡ 0 → (r.session ≡ begun (frame_of_size width height) hunter target) × Opened (frame_of_size width height) hunter target t t'

-- ---- what a statement leaves open

-- A used place of the list names cell x.
abbrev pub Names : ℕ → Tables → ℕ → Type 0
Names count t x = (i : ℕ) × (i < count) × (get_or t.list i 0 ≡ x)

-- Two results are equal but for the order inside the heap: the plan, g, rhs, parents, both keys and who is queued are the same; the used places of the list name the same cells; the unused ones are the same.
pub record Alike (count : ℕ) (t t' : Tables) : Type 0 where
  pub plan : t.plan ≡ t'.plan
  pub core : core t ≡ core t'
  pub named : (x : ℕ) → Names count t x ↔ Names count t' x
  pub unused : (i : ℕ) → count ≤ i → get_or t.list i 0 ≡ get_or t'.list i 0
