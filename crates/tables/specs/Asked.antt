-- Inner notions, not part of a promise: what the check's private functions ask for.
use Rattle.std.specs.Prelude.{◌≡◌, List, ℕ, ◌*◌, ◌<◌, get_or, length}
use Rattle.queue.specs.Rules.{Lengths}
use Rattle.plan.specs.declared.Spot.{Spot}
use Rattle.plan.specs.Cells.{Size}
use Rattle.plan.specs.Reached.{At}
use Rattle.tables.specs.declared.Session.{Session}
use Rattle.tables.specs.Lent.{cells}
use Rattle.tables.specs.Rules.{Numbers}

-- A look at cell u, which stands at `at`; the search's target stands at `aim`.
pub record CellAsked (s : Session) (u : ℕ) (at aim : Spot) : Type 0 where
  pub size : Size s.width s.height
  pub numbers : Numbers s
  pub inside : u < cells s
  pub here : At s.width u at
  pub there : At s.width s.goal aim

-- .. in tables of which each has a place for every cell.
pub record AloneAsked (s : Session) (g rhs parent k1 k2 place list : List ℕ) (u : ℕ) (at aim : Spot) : Type 0 where
  pub cell : CellAsked s u at aim
  pub long_g : length g ≡ cells s
  pub long_rhs : length rhs ≡ cells s
  pub long_parent : length parent ≡ cells s
  pub queue : Lengths (cells s) k1 k2 place list

-- A look at the move in direction d from cell u, which stands at `at`.
pub record WayAsked (width height : ℕ) (plan rhs parent : List ℕ) (u : ℕ) (at : Spot) (d : ℕ) : Type 0 where
  pub size : Size width height
  pub long_plan : length plan ≡ 4 * (height * width)
  pub long_rhs : length rhs ≡ height * width
  pub long_parent : length parent ≡ height * width
  pub inside : u < height * width
  pub here : At width u at
  pub direction : d < 4

-- The numbers of a table of 32 bits.
abbrev pub Words : List ℕ → Type 0
Words l = (u : ℕ) → get_or l u 0 < 4294967296
