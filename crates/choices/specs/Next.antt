-- The next cell of a search, and what it takes to choose it.
use Rattle.std.specs.Prelude.{◌≡◌, List, ℕ, ◌+◌, ◌<◌, get_or, length, Option, Some, None}
use Rattle.std.proofs.Math.Option as math
use Rattle.method.specs.Numbers.{infinite}
use Rattle.method.specs.Loop.{next_cell}
use Rattle.queue.specs.Queue.{Heap}
use Rattle.plan.specs.Cells.{Size}
use Rattle.tables.specs.Lent.{tables, core}
use Rattle.entries.specs.declared.Aim.{Aim}
use Rattle.entries.specs.Aims.{area, hunt}

-- The target's lesser number y is infinite, or its key fits.
abbrev pub Goal : Aim → ℕ → Type 0
Goal a y = (y ≡ infinite → ⊥) → y + a.km < infinite

-- The next cell can be chosen.
pub record Choosing (a : Aim) (count : ℕ) (g rhs k1 k2 place list : List ℕ) : Type 0 where
  pub size : Size a.width a.height
  pub target_in : a.target < area a
  pub in_g : length g ≡ area a
  pub in_rhs : length rhs ≡ area a
  pub heap : Heap a.width (area a) count k1 k2 place list
  pub goal : Goal a (get_or rhs a.target 0)

-- The method's next cell.
abbrev pub next_of : Option ℕ → math.Option ℕ
next_of None = math.none
next_of (Some u) = math.some u

-- It was chosen, whatever the plan, the parents and the list are.
abbrev pub Chosen : Aim → List ℕ → List ℕ → List ℕ → List ℕ → List ℕ → Option ℕ → Type 0
Chosen a g rhs k1 k2 place r = (plan parent list : List ℕ) → next_of r ≡ next_cell (hunt a plan) (core (tables plan g rhs parent k1 k2 place list))
