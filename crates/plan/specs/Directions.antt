-- The four directions and the table of their steps.
use Rattle.std.specs.Prelude.{List, [], ◌∷◌, ℕ, ◌+◌, ◌%◌, get_or}
use Rattle.plan.specs.declared.Shift.{Shift}

-- A step's part in rows and in columns, each plus 1, so that none is below 0.
abbrev pub shift : ℕ → ℕ → Shift
shift r c = record { row = r; column = c }

-- "0 north (row less 1), 1 east (column plus 1), 2 south (row plus 1), 3 west (column less 1)": "the row and column steps stand in a table".
unfoldable pub shifts : List Shift
shifts = shift 0 1 ∷ shift 1 2 ∷ shift 2 1 ∷ shift 1 0 ∷ []

abbrev pub shift_of : ℕ → Shift
shift_of d = get_or shifts d (shift 0 0)

abbrev pub row_step : ℕ → ℕ
row_step d = (shift_of d).row

abbrev pub column_step : ℕ → ℕ
column_step d = (shift_of d).column

-- The direction that leads back.
abbrev pub opposite : ℕ → ℕ
opposite d = (d + 2) % 4
