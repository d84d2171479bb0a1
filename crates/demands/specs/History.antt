-- "Every order of door changes and moves between two searches": a history is any sequence of public calls, each done or refused; `EveryOrder` says what holds at every point and of every search of it.
-- proofs/History.antt proves it of every history.
use Rattle.std.specs.Prelude.{◌≡◌, ◌≢◌, Ok, List, ℕ, ◌≤◌, length}
use Rattle.method.specs.Tables as method
use Rattle.method.specs.Loop.{run}
use Rattle.method.specs.Session as calls
use Rattle.method.specs.Growth.{NumbersFit, RaisesAtMost}
use Rattle.tables.specs.declared.Session.{Session}
use Rattle.tables.specs.Lent.{Tables, cells, graph, session, core}
use Rattle.tables.specs.Sound.{Sound}
use Rattle.session.specs.declared.Reply.{Reply}
use Rattle.session.specs.Promises.{hunter_at, target_at, Places, Opens}
use Rattle.change.specs.Promise.{Changes}
use Rattle.search.specs.declared.Outcome.{Outcome}
use Rattle.search.specs.Promise.{Searches}
use Rattle.demands.specs.Demands.{TakesTheSteps, FewSteps}

-- ---- histories

-- One public call over the record s and the tables t, done or refused, that leaves s' and t': all that its promise allows. A refused open leaves the caller the record he had.
pub data Call (s : Session) (t : Tables) : Session → Tables → Type 0 where
  places_hunter : {cell : ℕ} {r : Reply} → Places s (hunter_at s cell) cell r → Call s t r.session t
  places_target : {cell : ℕ} {r : Reply} → Places s (target_at s cell) cell r → Call s t r.session t
  changes_move : {u d cost : ℕ} {r : Reply} {t' : Tables} → Changes s t u d cost r t' → Call s t r.session t'
  searches : {way way' : List ℕ} {r : Outcome} {t' : Tables} → Searches s t way r t' way' → Call s t r.session t'
  opens_again : {width height hunter target : ℕ} {r : Reply} {t' : Tables} → Opens width height hunter target t r t' → r.answer ≡ Ok tt → Call s t r.session t'
  open_refused : {width height hunter target : ℕ} {r : Reply} {t' : Tables} → Opens width height hunter target t r t' → r.answer ≢ Ok tt → Call s t s t'

-- A history that has come to the record s and the tables t. It begins with an open that is done, or with any sound tables, "however they came about"; then calls follow in any order and any number.
pub data History : Session → Tables → Type 0 where
  opened : {width height hunter target : ℕ} {t t' : Tables} {r : Reply} → Opens width height hunter target t r t' → r.answer ≡ Ok tt → History r.session t'
  from_sound : {s : Session} {t : Tables} → Sound s t → History s t
  and_then : {s s' : Session} {t t' : Tables} → History s t → Call s t s' t' → History s' t'

-- The record s₁ and the tables t₁ stand at some point of the history h, which has come to s and t: now, or before its last call.
pub data Point (s₁ : Session) (t₁ : Tables) : (s : Session) (t : Tables) → History s t → Type 0 where
  now : {h : History s₁ t₁} → Point s₁ t₁ s₁ t₁ h
  before : {s s' : Session} {t t' : Tables} {h : History s t} {c : Call s t s' t'} → Point s₁ t₁ s t h → Point s₁ t₁ s' t' (and_then h c)

-- The same, the history named first.
abbrev pub PointOf : {s : Session} {t : Tables} → History s t → Session → Tables → Type 0
PointOf {s} {t} h s₁ t₁ = Point s₁ t₁ s t h

-- A search of the history h: it found the record s₁, the tables t₁ and the list `way`, and left the outcome r, the tables t₂ and the list way₂.
pub data Search (s₁ : Session) (t₁ : Tables) (way : List ℕ) (r : Outcome) (t₂ : Tables) (way₂ : List ℕ) : (s : Session) (t : Tables) → History s t → Type 0 where
  last : {h : History s₁ t₁} (P : Searches s₁ t₁ way r t₂ way₂) → Search s₁ t₁ way r t₂ way₂ r.session t₂ (and_then h (searches P))
  earlier : {s s' : Session} {t t' : Tables} {h : History s t} {c : Call s t s' t'} → Search s₁ t₁ way r t₂ way₂ s t h → Search s₁ t₁ way r t₂ way₂ s' t' (and_then h c)

-- The same, the history named first.
abbrev pub SearchOf : {s : Session} {t : Tables} → History s t → Session → Tables → List ℕ → Outcome → Tables → List ℕ → Type 0
SearchOf {s} {t} h s₁ t₁ way r t₂ way₂ = Search s₁ t₁ way r t₂ way₂ s t h

-- ---- what holds of a history

-- The method's tables after the take-over and n steps of a search, for any n.
abbrev pub after_steps : Session → Tables → ℕ → method.Tables
after_steps s t n =
    (run (calls.hunt_of (graph s t) (calls.taken_over (graph s t) (session s) (core t)).session) n (calls.taken_over (graph s t) (session s) (core t)).tables).tables

-- What holds at every point and of every search of the history h, in whatever order its calls came.
pub record EveryOrder {s : Session} {t : Tables} (h : History s t) : Type 0 where
  -- at every point the tables are sound, and no number passes its width
  pub sound : {s₁ : Session} {t₁ : Tables} → PointOf h s₁ t₁ → Sound s₁ t₁
  pub numbers : {s₁ : Session} {t₁ : Tables} → PointOf h s₁ t₁ → NumbersFit (graph s₁ t₁) (session s₁) (core t₁)
  -- demand 2: every search with room for the way takes the method's steps and answers rightly
  pub right : {s₁ : Session} {t₁ t₂ : Tables} {way way₂ : List ℕ} {r : Outcome} → SearchOf h s₁ t₁ way r t₂ way₂ → cells s₁ ≤ length way → TakesTheSteps s₁ t₁ way r t₂ way₂
  -- demand 3: in at most 3N steps, each cell once a kind
  pub few : {s₁ : Session} {t₁ t₂ : Tables} {way way₂ : List ℕ} {r : Outcome} → SearchOf h s₁ t₁ way r t₂ way₂ → cells s₁ ≤ length way → FewSteps s₁ t₁ r t₂
  -- the greatest finite number rises by at most 1,024,250 ..
  pub raises : {s₁ : Session} {t₁ t₂ : Tables} {way way₂ : List ℕ} {r : Outcome} → SearchOf h s₁ t₁ way r t₂ way₂ → RaisesAtMost (cells s₁) (core t₁) (core t₂)
  -- .. and after each of these steps no number has passed its width
  pub between : {s₁ : Session} {t₁ t₂ : Tables} {way way₂ : List ℕ} {r : Outcome} → SearchOf h s₁ t₁ way r t₂ way₂ → (n : ℕ)
      → NumbersFit (graph s₁ t₁) (calls.counted (calls.taken_over (graph s₁ t₁) (session s₁) (core t₁)).session) (after_steps s₁ t₁ n)
