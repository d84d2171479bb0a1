-- "one bit for each cell and a row in one 64-bit number (column 0 lowest)"
use Rattle.std.specs.Prelude.{◌≡◌, List, ℕ, zero, suc, ◌+◌, ◌/◌, ◌%◌, ◌^◌, get_or}
use Rattle.std.specs.Int.Count.{ones}
use Rattle.plan.specs.Cells.{row, column}

-- The bit of a column in a row's number.
unfoldable pub bit : ℕ → ℕ → ℕ
bit x c = x / 2 ^ c % 2

-- The bit of a cell.
unfoldable pub bit_of : ℕ → List ℕ → ℕ → ℕ
bit_of width rows s = bit (get_or rows (row width s) 0) (column width s)

-- The cell's bit is 1.
abbrev pub Marked : ℕ → List ℕ → ℕ → Type 0
Marked width rows s = bit_of width rows s ≡ 1

-- A sum over the numbers below n: of bits it is how many are 1.
unfoldable pub sum_to : (ℕ → ℕ) → ℕ → ℕ
sum_to f zero = 0
sum_to f (suc n) = sum_to f n + f n

-- The ones counts of the first n rows, summed.
abbrev pub ones_of : List ℕ → ℕ → ℕ
ones_of rows = sum_to (λ r. ones (get_or rows r 0))
