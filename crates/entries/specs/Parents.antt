-- Parent codes: the cell that the code of a cell names.
use Rattle.std.specs.Prelude.{◌≡◌, List, ℕ, ◌+◌, ◌<◌, get_or, length}
use Rattle.plan.specs.Cells.{Size, Stays, entered}
use Rattle.entries.specs.declared.Aim.{Aim}
use Rattle.entries.specs.Aims.{area}

-- The code k of cell s names cell w. "Parent byte: direction to the parent plus 1."
pub data Named (a : Aim) (s : ℕ) : ℕ → ℕ → Type 0 where
  by_direction : {d k : ℕ} → d < 4 → k ≡ d + 1 → Stays a.width a.height s d → Named a s k (entered a.width s d)

-- The parent byte of s, a cell of the plan, names a cell.
pub record Linked (a : Aim) (parent : List ℕ) (s : ℕ) : Type 0 where
  pub size : Size a.width a.height
  pub long_parent : length parent ≡ area a
  pub inside : s < area a
  pub cell : ℕ
  pub named : Named a s (get_or parent s 0) cell
