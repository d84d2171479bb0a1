-- A drill file written again from the parts that the reader finds in it.
use Rattle.std.specs.Prelude.{Result, Ok, ◌≡◌, ◌≢◌, List, ◌++◌, ℕ, length, drop}
use Rattle.refusal.specs.declared.Refusal.{Refusal}
use Rattle.refusal.specs.Numbers.{number_in}
use Rattle.drill_file.specs.Numbers.{file_number}

-- A file that the reader takes stands in the room byte for byte; another is refused by the reader's number, and the room stays.
pub record Again (file room : List ℕ) (r : Result ℕ Refusal) (room' : List ℕ) : Type 0 where
  pub taken : file_number file ≡ 0 → (r ≡ Ok (length file)) × (room' ≡ file ++ drop (length file) room)
  pub refused : file_number file ≢ 0 → (number_in r ≡ file_number file) × (room' ≡ room)
