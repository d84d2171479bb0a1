-- What is asked where a drill is printed, and how far it is written.
use Rattle.std.specs.Prelude.{◌≡◌, ◌⊎◌, List, ℕ, ◌+◌, ◌≤◌, length, take, Option, Some, None, option_map}
use Rattle.tables.specs.declared.Session.{Session}
use Rattle.tables.specs.Lent.{Tables, cells}
use Rattle.standing.specs.Standing.{stands}
use Rattle.drill_file.specs.File.{actions_from}
use Rattle.lines.specs.Lines.{room}
use Rattle.drill.specs.Promises.{Playing, Unprinted, NextPiece}

-- The count says how many bytes of the output are written, and nothing once a write has failed: one value in lent memory, which the function that writes moves on,
-- so that no piece can be written again under an old count.
-- The first `used` bytes of the text are the next piece of the output of the file, which is the first `got` bytes of what was read; no write has failed.
pub record Piece (input : List ℕ) (got : ℕ) (text : List ℕ) (used : ℕ) (count : Option ℕ) : Type 0 where
  pub read : got ≤ length input
  pub put : used ≤ length text
  pub written : ℕ
  pub counted : count ≡ Some written
  pub next : NextPiece (take got input) written (take used text)

-- The count moves on by n, and the answer is the first; or a write failed, and it is the second.
abbrev pub Moves : {A : Type 0} → (answer going stopped : A) (n : ℕ) (count count' : Option ℕ) → Type 0
Moves answer going stopped n count count' = ((answer ≡ going) × (count' ≡ option_map (λ written. written + n) count)) ⊎ ((answer ≡ stopped) × (count' ≡ None))

-- What is left over of the file can be played and printed: it is what is unprinted of the output, and the text has room for the longest line.
pub record Printing (input : List ℕ) (got : ℕ) (file : List ℕ) (s : Session) (t : Tables) (way : List ℕ) (at left : ℕ) (text : List ℕ) (count : Option ℕ) : Type 0 where
  pub read : got ≤ length input
  pub part : file ≡ take got input
  pub playing : Playing file s t way at left
  pub text_room : room (cells s) ≤ length text
  pub written : ℕ
  pub counted : count ≡ Some written
  pub unprinted : Unprinted file written (stands s t) (actions_from file at left)

-- The first n bytes of the output were handed over, or a write failed.
abbrev pub WrittenTo : (n : ℕ) (count : Option ℕ) → Type 0
WrittenTo n count = (count ≡ Some n) ⊎ (count ≡ None)
