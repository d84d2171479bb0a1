-- The letter's demands in the numbers that the C functions return.
use Rattle.std.specs.Prelude.{◌≡◌, ◌≢◌, ◌↔◌, List, ℕ, ◌*◌, ◌≤◌, length}
use Rattle.method.specs.Session.{taken_over, hunt_of}
use Rattle.method.specs.Course.{Runs}
use Rattle.method.specs.Walk.{NoChain, Once}
use Rattle.tables.specs.declared.Session.{Session}
use Rattle.tables.specs.Lent.{Tables, cells, graph, session, core}
use Rattle.tables.specs.Sound.{Sound}
use Rattle.tables.specs.Told.{none_leads as none, Told}
use Rattle.demands.specs.Demands.{steps_of, RightlyAnswered}
use Rattle.rongdhesi.specs.declared.Reply.{Reply}
use Rattle.rongdhesi.specs.Told.{kind_of, reply_of}

-- 1, both ways: the refusal number is k exactly if k is the number of the first rule broken, and 0 exactly if no rule is broken.
abbrev pub ToldExactly : (ℕ → Type 0) → Reply → Type 0
ToldExactly Rules r = (k : ℕ) → (r.refusal ≡ k) ↔ Rules k

-- 2: the reply is that of a right answer; the cells stand first in the way list.
pub record RightlyTold (s : Session) (t : Tables) (way : List ℕ) (r : Reply) (way' : List ℕ) : Type 0 where
  pub told : Told
  pub right : RightlyAnswered s t way told way'
  pub reply : r ≡ reply_of r.session told

-- The steps and "none" as `TakesTheSteps` has them, the answer as the reply tells it.
pub record TakesTheStepsTold (s : Session) (t : Tables) (way : List ℕ) (r : Reply) (t' : Tables) (way' : List ℕ) : Type 0 where
  pub steps : s.hunter ≢ s.target → Runs (hunt_of (graph s t) (taken_over (graph s t) (session s) (core t)).session) (taken_over (graph s t) (session s) (core t)).tables (steps_of s t) (core t')
  pub answer : RightlyTold s t way r way'
  pub none_exactly : s.hunter ≢ s.target → (r.kind ≡ kind_of none) ↔ NoChain (graph s t) s.hunter s.target

-- 3: the number of steps returned is that of the steps taken, at most 3N, and none comes twice.
pub record FewStepsTold (s : Session) (t : Tables) (r : Reply) (t' : Tables) : Type 0 where
  pub at_most_3_n : r.steps ≤ 3 * cells s
  pub no_step_twice : Once (steps_of s t)
  pub reported : r.steps ≡ length (steps_of s t)
  pub sound_again : Sound r.session t'
