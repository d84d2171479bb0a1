-- What the answer of a call tells: document 01's name, number and values. Each answer that is an enum has a definition into this record, and every promise speaks through it.
use Rattle.std.specs.Prelude.{List, [], ◌∷◌, ℕ, zero, suc}

-- Done, or one of a search's three answers; or refused.
pub data Name : Type 0 where
  done : Name
  caught : Name
  none_leads : Name
  way : Name
  refusal : Name

-- The name; the refusal's number, else 0; the cost; the steps; how many cells are shown, and which, hunter first.
pub record Told : Type 0 where
  pub name : Name
  pub number : ℕ
  pub cost : ℕ
  pub steps : ℕ
  pub count : ℕ
  pub cells : List ℕ

-- Open, place and change that are done.
abbrev pub told_done : Told
told_done = record { name = done; number = 0; cost = 0; steps = 0; count = 0; cells = [] }

-- "A refusal carries its number only."
abbrev pub told_refusal : ℕ → Told
told_refusal number = record { name = refusal; number = number; cost = 0; steps = 0; count = 0; cells = [] }

-- "caught, cost 0, no steps, the way is that cell"
abbrev pub told_caught : ℕ → Told
told_caught cell = record { name = caught; number = 0; cost = 0; steps = 0; count = 1; cells = cell ∷ [] }

-- "`none`: steps."
abbrev pub told_none : ℕ → Told
told_none steps = record { name = none_leads; number = 0; cost = 0; steps = steps; count = 0; cells = [] }

-- "A `way` line: cost, steps, cells from hunter to target." Before the cells, how many they are.
abbrev pub told_way : ℕ → ℕ → ℕ → List ℕ → Told
told_way cost steps count cells = record { name = way; number = 0; cost = cost; steps = steps; count = count; cells = cells }

-- What open, place and change tell, by the number of the first rule broken; 0 is none.
abbrev pub told_number : ℕ → Told
told_number zero = told_done
told_number (suc k) = told_refusal (suc k)
