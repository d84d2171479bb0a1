-- The refusals of a change: its rules, each with its number, in the order of checking.
use Rattle.std.specs.Prelude.{ℕ, ◌<◌}
use Rattle.decide.specs.Ruled.{Ruled, Passed}
use Rattle.plan.specs.Cells.{Stays}
use Rattle.plan.specs.Costs.{IsByte}
use Rattle.tables.specs.declared.Session.{Session}
use Rattle.tables.specs.Lent.{Tables, cells}
use Rattle.tables.specs.Sound.{Sound}
use Rattle.session.specs.Refusals.{TableRules}

-- A direction is 0 to 3, and the move stays in the plan.
abbrev pub IsMove : Session → ℕ → ℕ → Type 0
IsMove s u d = (d < 4) × Stays s.width s.height u d

-- A move's new cost: the cell; "direction above 3, or the move leaves the plan"; the cost byte.
abbrev pub MoveRules : Session → ℕ → ℕ → ℕ → ℕ → Type 0
MoveRules s u d cost =
    Ruled (u < cells s) 3
    (Ruled (IsMove s u d) 4
    (Ruled (IsByte cost) 5
    Passed))

-- A change: its tables, then the move.
abbrev pub ChangeRules : Session → Tables → ℕ → ℕ → ℕ → ℕ → Type 0
ChangeRules s t u d cost = TableRules s t (MoveRules s u d cost)

-- What a change that no rule refuses has; sound tables have their size and lengths.
pub record Workable (s : Session) (t : Tables) (u d cost : ℕ) : Type 0 where
  pub sound : Sound s t
  pub cell_in : u < cells s
  pub direction : d < 4
  pub stays_in : Stays s.width s.height u d
  pub byte : IsByte cost
