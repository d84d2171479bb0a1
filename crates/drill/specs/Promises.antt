-- What the functions that play a drill promise.
use Rattle.std.specs.Prelude.{Option, Result, Ok, Err, ◌≡◌, ◌⊎◌, ◌≢◌, List, [], ◌++◌, ℕ, ◌+◌, ◌*◌, ◌≤◌, ◌<◌, length, drop}
use Rattle.tables.specs.declared.Session.{Session}
use Rattle.tables.specs.Lent.{Tables, frame, cells, Fits}
use Rattle.tables.specs.Sound.{Sound}
use Rattle.refusal.specs.declared.Refusal.{Refusal}
use Rattle.refusal.specs.Numbers.{number_of}
use Rattle.session.specs.Promises.{nothing}
use Rattle.search.specs.Promise.{written}
use Rattle.standing.specs.Standing.{Standing, stands}
use Rattle.drill_file.specs.declared.Action.{Action}
use Rattle.drill_file.specs.File as drill_file
use Rattle.drill_file.specs.Numbers.{file_number}
use Rattle.text.specs.Put.{Put}
use Rattle.lines.specs.Lines.{refused_line, room}
use Rattle.drill.specs.declared.Played.{Played}
use Rattle.drill.specs.Play.{turn, played, left_by, way_left}
use Rattle.drill.specs.Output.{begun, output}

-- The line of a call's answer: a call that is done prints nothing.
abbrev pub told : Result Unit Refusal → List ℕ
told (Ok _) = []
told (Err r) = refused_line (number_of r)

-- An action of a session with sound tables can be played: the way list has room for the way, and the text for the longest line behind its first `used` bytes.
pub record Ready (s : Session) (t : Tables) (way text : List ℕ) (used : ℕ) : Type 0 where
  pub sound : Sound s t
  pub way_room : cells s ≤ length way
  pub text_room : used + room (cells s) ≤ length text

-- The action was played: the tables are sound, the standing and the way list are the definition's, and its line was put into the text.
pub record Turns (a : Option Action) (s : Session) (t : Tables) (way text : List ℕ) (used : ℕ) (r : Session) (t' : Tables) (way' text' : List ℕ) (used' : ℕ) : Type 0 where
  pub sound : Sound r t'
  pub frame_is : frame r ≡ frame s
  pub after : stands r t' ≡ (turn (stands s t) a).after
  pub shown : way' ≡ written (turn (stands s t) a).shown way
  pub line : Put text used (turn (stands s t) a).line used' text'

-- Actions can be played: `left` of them stand in the file from place `at` on.
pub record Playing (file : List ℕ) (s : Session) (t : Tables) (way : List ℕ) (at left : ℕ) : Type 0 where
  pub sound : Sound s t
  pub way_room : cells s ≤ length way
  pub in_file : at + 5 * left ≤ length file

-- Actions were played, the first `done` of those left over: record and tables, the way list and the text are what the definitions give for them. It stops only where
-- none is left over, or where the text has no room for another line; where there is room at first, at least one is played.
pub record Plays (file : List ℕ) (s : Session) (t : Tables) (way : List ℕ) (at left : ℕ) (text : List ℕ) (r : Played) (t' : Tables) (way' text' : List ℕ) (used' : ℕ) : Type 0 where
  pub done : ℕ
  pub all : left ≡ done + r.left
  pub place : r.at ≡ at + 5 * done
  pub sound : Sound r.session t'
  pub frame_is : frame r.session ≡ frame s
  pub after : stands r.session t' ≡ left_by (stands s t) (drill_file.actions_from file at done)
  pub shown : way' ≡ way_left (stands s t) (drill_file.actions_from file at done) way
  pub lines : Put text 0 (played (stands s t) (drill_file.actions_from file at done)) used' text'
  pub stops : (r.left ≡ 0) ⊎ (length text < used' + room (cells s))
  pub goes_on : room (cells s) ≤ length text → 0 < left → 0 < done

-- A file can be opened on tables of the size that its trailer tells, with room for the line of a refusal; it may be any byte string.
pub record Opening (file : List ℕ) (t : Tables) (text : List ℕ) : Type 0 where
  pub fits : Fits (drill_file.cells_in file) t
  pub text_room : room 0 ≤ length text

-- A file is refused by a number: the record's fields are all 0, nothing is left to play, and the line is put into the text.
pub record Refuses (number : ℕ) (text : List ℕ) (r : Played) (text' : List ℕ) (used' : ℕ) : Type 0 where
  pub zeros : r.session ≡ nothing
  pub place : r.at ≡ 0
  pub none_left : r.left ≡ 0
  pub line : Put text 0 (refused_line number) used' text'

-- A file is opened: record and tables are what open leaves, all of its actions are left to play, and the text is as it was.
pub record Starts (file : List ℕ) (text : List ℕ) (r : Played) (t' : Tables) (text' : List ℕ) (used' : ℕ) : Type 0 where
  pub sound : Sound r.session t'
  pub after : stands r.session t' ≡ begun file
  pub place : r.at ≡ (drill_file.trailer_of file).offset
  pub all_left : r.left ≡ (drill_file.trailer_of file).actions
  pub unused : used' ≡ 0
  pub blank : text' ≡ text

-- For every file one or the other. A refused file changes no table.
pub record Begins (file : List ℕ) (t : Tables) (text : List ℕ) (r : Played) (t' : Tables) (text' : List ℕ) (used' : ℕ) : Type 0 where
  pub refused : file_number file ≢ 0 → Refuses (file_number file) text r text' used' × (t' ≡ t)
  pub opened : file_number file ≡ 0 → Starts file text r t' text' used'

-- What is still to be printed: from the byte `printed` of the output on, it is what these actions print.
pub record Unprinted (file : List ℕ) (printed : ℕ) (S : Standing) (actions : List (Option Action)) : Type 0 where
  pub within : printed ≤ length (output file)
  pub rest : drop printed (output file) ≡ played S actions

-- The piece is the next of the output: its bytes from `printed` on.
pub record NextPiece (file : List ℕ) (printed : ℕ) (piece : List ℕ) : Type 0 where
  pub within : printed ≤ length (output file)
  pub rest : List ℕ
  pub is : drop printed (output file) ≡ piece ++ rest
