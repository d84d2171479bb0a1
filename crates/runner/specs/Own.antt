-- "The runner holds one plan of 4,096 cells in arrays of its own", and a text for the lines.
use Rattle.std.specs.Prelude.{◌≡◌, List, ℕ, ◌*◌, ◌≤◌, length, take, Option, Some}
use Rattle.tables.specs.Lent.{Tables}
use Rattle.lines.specs.Lines.{room}
use Rattle.drill.specs.Promises.{Opening}

abbrev pub most_cells : ℕ
most_cells = 4096

-- Each table has room for every plan, the way list for every way, and the text for every line.
pub record Own (t : Tables) (way text : List ℕ) : Type 0 where
  pub plan_room : length t.plan ≡ 4 * most_cells
  pub g_room : length t.g ≡ most_cells
  pub rhs_room : length t.rhs ≡ most_cells
  pub parent_room : length t.parent ≡ most_cells
  pub k1_room : length t.k1 ≡ most_cells
  pub k2_room : length t.k2 ≡ most_cells
  pub place_room : length t.place ≡ most_cells
  pub list_room : length t.list ≡ most_cells
  pub way_room : length way ≡ most_cells
  pub text_room : room most_cells ≤ length text

-- A file can be run: it is the first `got` bytes of what was read, nothing is written yet, the tables have its size, and there is room for every way and every line.
pub record Running (input : List ℕ) (got : ℕ) (file : List ℕ) (count : Option ℕ) (t : Tables) (way text : List ℕ) : Type 0 where
  pub read : got ≤ length input
  pub part : file ≡ take got input
  pub unwritten : count ≡ Some 0
  pub opening : Opening file t text
  pub way_room : most_cells ≤ length way
  pub text_room : room most_cells ≤ length text
