-- What the call that writes a drill file promises: the answer and every byte of the room, for every input.
use Rattle.std.specs.Prelude.{Result, Ok, Err, ◌≡◌, true, ◌≢◌, List, ◌++◌, ℕ, zero, suc, ◌+◌, ◌*◌, ◌/◌, ◌≤◌, ◌<◌, length, drop}
use Rattle.decide.specs.Ruled.{Ruled, Passed}
use Rattle.refusal.specs.declared.Refusal.{Refusal}
use Rattle.refusal.specs.Numbers.{number_of}
use Rattle.plan.specs.Cells.{Size}
use Rattle.plan.specs.Costs.{plan_of, Bytes, Edges}
use Rattle.drill_file.specs.File.{well_formed}
use Rattle.drill_writer.specs.Drill.{actions_in, bytes_for}

-- ---- the answer

-- What an answer tells: the refusal's number, and how many bytes were written. What it lacks is 0.
pub record WriteTold : Type 0 where
  pub refusal : ℕ
  pub bytes : ℕ

abbrev pub written_told : Result ℕ Refusal → WriteTold
written_told (Ok n) = record { refusal = 0; bytes = n }
written_told (Err r) = record { refusal = number_of r; bytes = 0 }

-- What is told of a file of so many bytes, by the number of the first rule broken; 0 is none.
abbrev pub told_number : ℕ → ℕ → WriteTold
told_number zero n = record { refusal = 0; bytes = n }
told_number (suc k) n = record { refusal = suc k; bytes = 0 }

-- ---- the rules

-- The actions fit behind a plan of so many bytes: five bytes for each, the file "at most 65,536 bytes", and none "badly formed".
pub record Fit (plan : ℕ) (actions : List ℕ) : Type 0 where
  pub whole : 5 * (length actions / 5) ≡ length actions
  pub short : plan + length actions + 12 ≤ 65536
  pub well : well_formed (actions_in actions) ≡ true

-- "8 for an action badly formed or more actions than the length allows; 7 if the lent room is too short": of actions behind a plan of so many bytes, and of room for a file of so many.
abbrev pub ActionRules : ℕ → List ℕ → ℕ → ℕ → ℕ → Type 0
ActionRules plan actions file room = Ruled (Fit plan actions) 8 (Ruled (file ≤ room) 7 Passed)

-- "1, 2, 3, 4, 5 as at open", then those, "in that order."
abbrev pub WriteRules : ℕ → ℕ → ℕ → ℕ → List ℕ → List ℕ → ℕ → ℕ → Type 0
WriteRules width height hunter target plan actions room =
    Ruled (Size width height) 1
    (Ruled (length plan ≡ 4 * (height * width)) 2
    (Ruled ((hunter < height * width) × (target < height * width)) 3
    (Ruled (Edges (plan_of width height plan)) 4
    (Ruled (Bytes (plan_of width height plan)) 5
    (ActionRules (length plan) actions (length (bytes_for width height hunter target plan actions)) room)))))

-- No rule is broken.
pub record Writable (width height hunter target : ℕ) (plan actions : List ℕ) (room : ℕ) : Type 0 where
  pub size : Size width height
  pub sized : length plan ≡ 4 * (height * width)
  pub hunter_in : hunter < height * width
  pub target_in : target < height * width
  pub edges : Edges (plan_of width height plan)
  pub bytes : Bytes (plan_of width height plan)
  pub fit : Fit (length plan) actions
  pub roomy : length (bytes_for width height hunter target plan actions) ≤ room

-- ---- the promise

-- The drill file stands first in the room, and the rest of the room keeps its contents; a refusal changes nothing.
pub record Writes (width height hunter target : ℕ) (plan actions file : List ℕ) (r : Result ℕ Refusal) (file' : List ℕ) : Type 0 where
  pub number : ℕ
  pub rules : WriteRules width height hunter target plan actions (length file) number
  pub answer : written_told r ≡ told_number number (length (bytes_for width height hunter target plan actions))
  pub refused : number ≢ 0 → file' ≡ file
  pub done : number ≡ 0
      → file' ≡ bytes_for width height hunter target plan actions ++ drop (length (bytes_for width height hunter target plan actions)) file
