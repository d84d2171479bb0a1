-- The letter's three demands, in its order and words. Here is what each says of the calls; proofs/Demands.antt has the three theorems.
use Rattle.std.specs.Prelude.{◌≡◌, ◌≢◌, ◌↔◌, List, [], ◌∷◌, ℕ, ◌*◌, ◌≤◌, length}
use Rattle.method.specs.Loop.{Step}
use Rattle.method.specs.Session.{taken_over, hunt_of}
use Rattle.method.specs.Course.{Runs}
use Rattle.method.specs.Walk.{NoChain, Cheapest, Once}
use Rattle.tables.specs.declared.Session.{Session}
use Rattle.tables.specs.Lent.{Tables, cells, graph, session, core}
use Rattle.tables.specs.Sound.{Sound}
use Rattle.tables.specs.Told.{none_leads as none, refusal, Told, told_refusal, told_caught, told_none, told_way}
use Rattle.session.specs.declared.Reply.{Reply}
use Rattle.session.specs.Refusals.{told_by as told_by_call, PlaceRules, OpenRules}
use Rattle.session.specs.Promises.{nothing, Places, Opens}
use Rattle.change.specs.Refusals.{ChangeRules}
use Rattle.change.specs.Promise.{Changes}
use Rattle.answer.specs.Answer.{told_by}
use Rattle.search.specs.declared.Outcome.{Outcome}
use Rattle.search.specs.Promise.{SearchRules, outcome, written, Searches}

-- 1. "Every call ends safely for every input and every content of the lent tables": no call below has a `requires`, so the proof of its code says this of every input.
-- "Faulty input is refused by number, in the fixed order, and such a refusal changes nothing; no caller has to check first": where k is the number of the first
-- rule broken, in the table's order, the call tells k and record, tables and way list are as they came (open: a record of zeros).
pub record RefusesByNumber : Type 0 where
  pub place : {s placed : Session} {cell k : ℕ} {r : Reply} → Places s placed cell r → PlaceRules s cell k → k ≢ 0 → (told_by_call r.answer ≡ told_refusal k) × (r.session ≡ s)
  pub opening : {width height hunter target k : ℕ} {t t' : Tables} {r : Reply} → Opens width height hunter target t r t' → OpenRules width height hunter target t k → k ≢ 0
      → (told_by_call r.answer ≡ told_refusal k) × (r.session ≡ nothing) × (t' ≡ t)
  pub change : {s : Session} {t t' : Tables} {u d cost k : ℕ} {r : Reply} → Changes s t u d cost r t' → ChangeRules s t u d cost k → k ≢ 0
      → (told_by_call r.answer ≡ told_refusal k) × (r.session ≡ s) × (t' ≡ t)
  pub search : {s : Session} {t t' : Tables} (way : List ℕ) {way' : List ℕ} {k : ℕ} {r : Outcome} → Searches s t way r t' way' → SearchRules s t way k → k ≢ 0
      → (told_by r.answer way' ≡ told_refusal k) × (r.session ≡ s) × (t' ≡ t) × (way' ≡ way)

-- "Given exactly when": k is told if and only if k is the number of the first rule broken, and no refusal is told if and only if no rule is broken.
pub record Exactly (Rules : ℕ → Type 0) (told : Told) : Type 0 where
  pub refused : (k : ℕ) → (told ≡ told_refusal k) ↔ ((k ≢ 0) × Rules k)
  pub done : (told.name ≢ refusal) ↔ Rules 0

-- So of each call.
pub record RefusesExactly : Type 0 where
  pub place : {s placed : Session} {cell : ℕ} {r : Reply} → Places s placed cell r → Exactly (PlaceRules s cell) (told_by_call r.answer)
  pub opening : {width height hunter target : ℕ} {t t' : Tables} {r : Reply} → Opens width height hunter target t r t'
      → Exactly (OpenRules width height hunter target t) (told_by_call r.answer)
  pub change : {s : Session} {t t' : Tables} {u d cost : ℕ} {r : Reply} → Changes s t u d cost r t' → Exactly (ChangeRules s t u d cost) (told_by_call r.answer)
  pub search : {s : Session} {t t' : Tables} (way : List ℕ) {way' : List ℕ} {r : Outcome} → Searches s t way r t' way'
      → Exactly (SearchRules s t way) (told_by r.answer way')

-- The steps that a search of these tables takes.
abbrev pub steps_of : Session → Tables → List Step
steps_of s t = (outcome s t).steps

-- "The way shown starts at the caretaker, ends at the visitor and uses open moves only; no way costs less." None: no chain leads there, and no cell is written. One cell: caught.
pub data RightlyAnswered (s : Session) (t : Tables) (way : List ℕ) : Told → List ℕ → Type 0 where
  caught : s.hunter ≡ s.target → RightlyAnswered s t way (told_caught s.hunter) (written (s.hunter ∷ []) way)
  none_leads : s.hunter ≢ s.target → NoChain (graph s t) s.hunter s.target → RightlyAnswered s t way (told_none (length (steps_of s t))) way
  way_shown : {cost : ℕ} {shown : List ℕ} → s.hunter ≢ s.target → Cheapest (graph s t) s.hunter s.target cost shown → length shown ≤ cells s
      → RightlyAnswered s t way (told_way cost (length (steps_of s t)) (length shown) shown) (written shown way)

-- 2. "Each search not refused takes the steps of the published Moving Target D* Lite in its basic form, with ties, order and renewals as document 01 fixes them,
-- and leaves the tables those steps leave."
pub record TakesTheSteps (s : Session) (t : Tables) (way : List ℕ) (r : Outcome) (t' : Tables) (way' : List ℕ) : Type 0 where
  pub steps : s.hunter ≢ s.target → Runs (hunt_of (graph s t) (taken_over (graph s t) (session s) (core t)).session) (taken_over (graph s t) (session s) (core t)).tables (steps_of s t) (core t')
  pub answer : RightlyAnswered s t way (told_by r.answer way') way'
  -- "'None' is given exactly if no chain of open moves leads from caretaker to visitor."
  pub none_exactly : s.hunter ≢ s.target → ((told_by r.answer way').name ≡ none) ↔ NoChain (graph s t) s.hunter s.target

-- 3. "From any tables that are sound by document 01, however they came about, a search in a plan of N cells takes at most 3N steps: each cell is put back under a
-- corrected key at most once, lowered at most once and raised at most once. The number reported is the number of those steps, and when the search stops the tables are sound again."
pub record FewSteps (s : Session) (t : Tables) (r : Outcome) (t' : Tables) : Type 0 where
  pub at_most_3_n : length (steps_of s t) ≤ 3 * cells s
  pub no_step_twice : Once (steps_of s t)
  -- whatever stands in the way list
  pub reported : (way : List ℕ) → (told_by r.answer way).steps ≡ length (steps_of s t)
  pub sound_again : Sound r.session t'
