-- Cost bytes, and what a plan has to obey.
use Rattle.std.specs.Prelude.{◌≡◌, ◌⊎◌, List, ℕ, ◌+◌, ◌*◌, ◌≤◌, ◌<◌, length, get_or, set}
use Rattle.std.proofs.Math.Logic.Dec
use Rattle.std.proofs.Math.Decide.{dec_le}
use Rattle.method.specs.Numbers.{most_cost}
use Rattle.plan.specs.Cells.{Size, Stays}

-- "255 is shut."
abbrev pub shut : ℕ
shut = 255

-- "1 to 250 is the cost of that move"
abbrev pub IsCost : ℕ → Type 0
IsCost c = (1 ≤ c) × (c ≤ most_cost)

unfoldable pub is_cost : (c : ℕ) → Dec (IsCost c)
is_cost c = Dec.and (dec_le 1 c) (dec_le c most_cost)

-- A byte of the plan: "0 and 251 to 254 are not costs".
abbrev pub IsByte : ℕ → Type 0
IsByte c = IsCost c ⊎ (c ≡ shut)

-- A plan: its size, and "four cost bytes, one for each direction", for each cell.
pub record Plan : Type 0 where
  pub width : ℕ
  pub height : ℕ
  pub bytes : List ℕ

abbrev pub plan_of : ℕ → ℕ → List ℕ → Plan
plan_of width height bytes = record { width = width; height = height; bytes = bytes }

-- The number of cells, N.
abbrev pub cells : Plan → ℕ
cells p = p.height * p.width

-- The byte of the move from cell s in direction d.
abbrev pub byte : Plan → ℕ → ℕ → ℕ
byte p s d = get_or p.bytes (4 * s + d) 0

-- The plan with the byte of the move from cell s in direction d set to c.
abbrev pub with_byte : Plan → ℕ → ℕ → ℕ → Plan
with_byte p s d c = plan_of p.width p.height (set p.bytes (4 * s + d) c)

-- Every byte of the plan is a cost or shut.
abbrev pub Bytes : Plan → Type 0
Bytes p = (s d : ℕ) → s < cells p → d < 4 → IsByte (byte p s d)

-- "A move that would leave the plan has byte 255 for ever."
abbrev pub Edge : Plan → ℕ → ℕ → Type 0
Edge p s d = (Stays p.width p.height s d → ⊥) → byte p s d ≡ shut

abbrev pub Edges : Plan → Type 0
Edges p = (s d : ℕ) → s < cells p → d < 4 → Edge p s d

-- The plan obeys the section.
pub record Obeys (p : Plan) : Type 0 where
  pub size : Size p.width p.height
  pub sized : length p.bytes ≡ 4 * cells p
  pub bytes : Bytes p
  pub edges : Edges p
