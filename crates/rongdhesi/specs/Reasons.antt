-- The reasons told in numbers (02, order 3), and the promise of their C functions: it is the library's own, of an answer told so.
use Rattle.std.specs.Prelude.{◌≡◌, ℕ, Option, Result}
use Rattle.refusal.specs.declared.Refusal.{Refusal}
use Rattle.reach.specs.declared.Counts.{Counts}
use Rattle.reach.specs.Promise.{reach_told}
use Rattle.along.specs.Along.{running_told}
use Rattle.through.specs.Through.{through_told}
use Rattle.rongdhesi.specs.declared.Reached.{Reached}
use Rattle.rongdhesi.specs.declared.Running.{Running}
use Rattle.rongdhesi.specs.declared.Through.{Through}

-- What the hunter reaches, in the record that crosses; the running costs; the least cost through a move.
abbrev pub reached_of : Result Counts Refusal → Reached
reached_of x = record { refusal = (reach_told x).refusal; cells = (reach_told x).cells; moves = (reach_told x).moves }

abbrev pub running_of : Result ℕ Refusal → Running
running_of x = record { refusal = (running_told x).refusal; costs = (running_told x).costs }

abbrev pub through_of : Result (Option ℕ) Refusal → Through
through_of x = record { refusal = (through_told x).refusal; walk = (through_told x).walk; cost = (through_told x).cost }

-- What is returned is what a call of the library returns, told in numbers.
pub record Gives {A B : Type 0} (tell : A → B) (Promised : A → Type 0) (r : B) : Type 0 where
  pub called : A
  pub promised : Promised called
  pub told : r ≡ tell called
