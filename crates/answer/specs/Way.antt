-- The cells from parent to parent, and the list that they are written into.
use Rattle.std.specs.Prelude.{◌≡◌, ◌≢◌, List, [], ◌∷◌, ◌++◌, ℕ, ◌≤◌, ◌<◌, get_or, length, drop}
use Rattle.plan.specs.Cells.{Size}
use Rattle.entries.specs.declared.Aim.{Aim}
use Rattle.entries.specs.Aims.{area}
use Rattle.entries.specs.Parents.{Named}

-- The parent bytes lead from cell s back to the hunter over the cells of l, hunter first: "the cells from parent to parent".
pub data Leads (a : Aim) (parent : List ℕ) : ℕ → List ℕ → Type 0 where
  home : Leads a parent a.hunter (a.hunter ∷ [])
  link : {s w : ℕ} {l : List ℕ} → s ≢ a.hunter → Named a s (get_or parent s 0) w → Leads a parent w l → Leads a parent s (l ++ (s ∷ []))

-- The parents lead from the target to the hunter, over at most as many cells as the plan has.
pub record Followed (a : Aim) (parent : List ℕ) : Type 0 where
  pub size : Size a.width a.height
  pub target_in : a.target < area a
  pub long_parent : length parent ≡ area a
  pub cells : List ℕ
  pub leads : Leads a parent a.target cells
  pub few : length cells ≤ area a

-- The lent list has room for them.
pub record Leading (a : Aim) (parent way : List ℕ) : Type 0 where
  pub followed : Followed a parent
  pub room : area a ≤ length way

-- r is the number of those cells.
abbrev pub Counts : Aim → List ℕ → ℕ → Type 0
Counts a parent r = (l : List ℕ) → Leads a parent a.target l → r ≡ length l

-- The cells stand first in the list, the rest of it as it was; r is their number.
abbrev pub Shows : Aim → List ℕ → List ℕ → ℕ → List ℕ → Type 0
Shows a parent way r way' = (l : List ℕ) → Leads a parent a.target l → (r ≡ length l) × (way' ≡ l ++ drop (length l) way)
