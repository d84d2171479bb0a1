-- What a search promises: its answer, the record, every table and the way list, for every input.
use Rattle.std.specs.Prelude.{◌≡◌, ◌≢◌, List, [], ◌++◌, ℕ, ◌≤◌, ◌<◌, length, get_or, drop}
use Rattle.decide.specs.Ruled.{Ruled, Passed}
use Rattle.method.specs.Numbers.{infinite, renewal}
use Rattle.method.specs.Session as method
use Rattle.queue.specs.Queue.{Heap, EntryKept}
use Rattle.tables.specs.declared.Session.{Session}
use Rattle.tables.specs.Lent.{Tables, frame, cells, graph, session, core}
use Rattle.tables.specs.Told.{told_refusal}
use Rattle.session.specs.Refusals.{TableRules}
use Rattle.answer.specs.Answer.{told_by, tells, cells_of}
use Rattle.search.specs.declared.Outcome.{Outcome}

-- The tables of the session; "way list shorter than N".
abbrev pub SearchRules : Session → Tables → List ℕ → ℕ → Type 0
SearchRules s t way = TableRules s t (Ruled (cells s ≤ length way) 7 Passed)

-- The method's search of these tables: "One search" of document 01.
abbrev pub outcome : Session → Tables → method.Outcome
outcome s t = method.search (graph s t) (session s) (core t)

-- The cells stand first in the way list; "the rest of the list keeps its contents, and all of it where no cells are shown".
abbrev pub written : List ℕ → List ℕ → List ℕ
written shown way = shown ++ drop (length shown) way

-- A search not refused: what it tells, record and tables are the method's, with a true heap; the plan and what open fixed are as they were. A catch changes no table. Nor does a search
-- of no steps where the hunter stays and nothing starts fresh: list and places stay too. "Lent memory that no rule tells a call to write keeps its contents."
pub record Searched (s : Session) (t : Tables) (way : List ℕ) (r : Outcome) (t' : Tables) (way' : List ℕ) : Type 0 where
  pub answer : told_by r.answer way' ≡ tells (outcome s t).answer
  pub frame_is : frame r.session ≡ frame s
  pub record_is : session r.session ≡ (outcome s t).session
  pub plan : t'.plan ≡ t.plan
  pub tables_are : core t' ≡ (outcome s t).tables
  pub heap : Heap s.width (cells s) r.session.count t'.k1 t'.k2 t'.place t'.list
  pub shown : way' ≡ written (cells_of (outcome s t).answer) way
  pub caught : s.hunter ≡ s.target → (r.session ≡ s) × (t' ≡ t)
  pub untouched : s.hunter ≡ s.origin → s.searches < renewal → (outcome s t).steps ≡ [] → (r.session.count ≡ s.count) × (t' ≡ t)
  -- no steps, and nothing starts fresh: where the old hunter's entry, found anew, is what it was, list and places stay
  pub kept : s.searches < renewal → get_or t.rhs s.hunter 0 ≢ infinite → (outcome s t).steps ≡ []
      → EntryKept s.count t.k1 t.k2 t.place t.list r.session.count t'.k1 t'.k2 t'.place t'.list

-- A refused search returns the record as it came and changes no table.
pub record Searches (s : Session) (t : Tables) (way : List ℕ) (r : Outcome) (t' : Tables) (way' : List ℕ) : Type 0 where
  pub number : ℕ
  pub rules : SearchRules s t way number
  pub refused : number ≢ 0 → (told_by r.answer way' ≡ told_refusal number) × (r.session ≡ s) × (t' ≡ t) × (way' ≡ way)
  pub done : number ≡ 0 → Searched s t way r t' way'
