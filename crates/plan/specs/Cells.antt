-- Sizes, cells, the cell that a move enters, and the estimate.
use Rattle.std.specs.Prelude.{◌≡◌, ℕ, ◌+◌, ◌-◌, ◌*◌, ◌/◌, ◌%◌, ◌≤◌, ◌<◌}
use Rattle.std.proofs.Math.Logic.Dec
use Rattle.std.proofs.Math.Decide.{dec_le, dec_lt}
use Rattle.plan.specs.Directions.{row_step, column_step}

-- "Width and height are each 1 to 64."
pub record Size (width height : ℕ) : Type 0 where
  pub wide : 1 ≤ width
  pub narrow : width ≤ 64
  pub high : 1 ≤ height
  pub low : height ≤ 64

-- "Cell number = row × width + column": its row and its column.
abbrev pub row : ℕ → ℕ → ℕ
row width s = s / width

abbrev pub column : ℕ → ℕ → ℕ
column width s = s % width

-- Cell s stands at this row and column: the same without a division.
pub record Stands (width s r c : ℕ) : Type 0 where
  pub column_lt : c < width
  pub is : s ≡ r * width + c

-- The move from cell s in direction d stays in the plan.
pub record Stays (width height s d : ℕ) : Type 0 where
  pub from_in : s < height * width
  pub north : 1 ≤ row width s + row_step d
  pub south : row width s + row_step d ≤ height
  pub west : 1 ≤ column width s + column_step d
  pub east : column width s + column_step d ≤ width

-- Whether it does.
unfoldable pub stays : (width height s d : ℕ) → Dec (Stays width height s d)
stays width height s d =
    at (Dec.and (dec_lt s (height * width))
    (Dec.and (Dec.and (dec_le 1 (row width s + row_step d)) (dec_le (row width s + row_step d) height))
    (Dec.and (dec_le 1 (column width s + column_step d)) (dec_le (column width s + column_step d) width))))
  where
    at : Dec ((s < height * width) × (((1 ≤ row width s + row_step d) × (row width s + row_step d ≤ height)) × ((1 ≤ column width s + column_step d) × (column width s + column_step d ≤ width))))
        → Dec (Stays width height s d)
    at (yes h) = yes (record { from_in = h.0; north = h.1.0.0; south = h.1.0.1; west = h.1.1.0; east = h.1.1.1 })
    at (no n) = no (λ m. n (m.from_in, ((m.north, m.south), (m.west, m.east))))

-- The cell that such a move enters: plain sums, no division.
abbrev pub entered : ℕ → ℕ → ℕ → ℕ
entered width s d = s + row_step d * width + column_step d - (width + 1)

-- The difference of two numbers.
abbrev pub apart : ℕ → ℕ → ℕ
apart a b = (a - b) + (b - a)

-- "The estimate between two cells is the difference of their rows plus the difference of their columns."
unfoldable pub estimate : ℕ → ℕ → ℕ → ℕ
estimate width a b = apart (row width a) (row width b) + apart (column width a) (column width b)
