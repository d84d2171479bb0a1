-- One list of cases: drill files and what document 01 says that they print, its "One drill, whole" and the marked lines of its "Both sides of each edge".
use Rattle.std.specs.Prelude.{List, [], ◌∷◌, ◌++◌, ℕ}
use Rattle.method.specs.Numbers.{infinite}
use Rattle.method.specs.Steps.{lower, raise}
use Rattle.text.specs.Text.{bytes}
use Rattle.drill_file.specs.File.{actions_of}
use Rattle.drill_file.specs.Whole.{drill_of_one}
use Rattle.drill.specs.Play.{Taken, taken_by, left_by}
use Rattle.drill.specs.Output.{begun, output}

-- A drill file, all that the runner prints for it, the steps of each of its searches, and the search number that it leaves, which a fresh start begins anew.
pub record Case : Type 0 where
  pub file : List ℕ
  pub prints : List ℕ
  pub steps : List (List Taken)
  pub searches : ℕ

-- A case by its parts.
abbrev pub case : List ℕ → List ℕ → List (List Taken) → ℕ → Case
case file prints steps searches = record { file = file; prints = prints; steps = steps; searches = searches }

-- What the definitions give for a file.
abbrev pub given : List ℕ → Case
given file = case file (output file) (taken_by (begun file) (actions_of file)) (left_by (begun file) (actions_of file)).session.searches

-- A cell's bytes in the plan: "0 north, 1 east, 2 south, 3 west".
abbrev pub cell : ℕ → ℕ → ℕ → ℕ → List ℕ
cell north east south west = north ∷ east ∷ south ∷ west ∷ []

-- "Action: kind 1, cell 2, direction 1, cost 1"; the cells here are below 256. "Kinds: 1 change":
abbrev pub change : ℕ → ℕ → ℕ → List ℕ
change u d cost = 1 ∷ u ∷ 0 ∷ d ∷ cost ∷ []

-- "2 hunter":
abbrev pub hunter : ℕ → List ℕ
hunter s = 2 ∷ s ∷ 0 ∷ 0 ∷ 0 ∷ []

-- "3 target":
abbrev pub target : ℕ → List ℕ
target s = 3 ∷ s ∷ 0 ∷ 0 ∷ 0 ∷ []

-- "4 search":
abbrev pub ask : List ℕ
ask = 4 ∷ 0 ∷ 0 ∷ 0 ∷ 0 ∷ []

-- "Trailer, low byte first: width 1, height 1, hunter 2, target 2, number of actions 2, offset of the actions 4"; the numbers here are below 256.
abbrev pub trailer : ℕ → ℕ → ℕ → ℕ → ℕ → ℕ → List ℕ
trailer width height hunter target actions offset =
    width ∷ height ∷ hunter ∷ 0 ∷ target ∷ 0 ∷ actions ∷ 0 ∷ offset ∷ 0 ∷ 0 ∷ 0 ∷ []

-- The plan of 1 by 1: every move leaves it.
abbrev pub one_by_one : List ℕ
one_by_one = cell 255 255 255 255

-- The plan of 2 by 1 with both moves open at 1.
abbrev pub both_open : List ℕ
both_open = cell 255 1 255 255 ++ cell 255 255 255 1

-- The plan of 2 by 1 with both moves shut.
abbrev pub both_shut : List ℕ
both_shut = cell 255 255 255 255 ++ cell 255 255 255 255

-- Changes of cell 0 in one direction: to 0, to the least and the greatest cost, to the first and the last number above them, and to shut.
abbrev pub changes : ℕ → List ℕ
changes d = change 0 d 0 ++ change 0 d 1 ++ change 0 d 250 ++ change 0 d 251 ++ change 0 d 254 ++ change 0 d 255

-- A cell lowered: its g, which is infinite, becomes its rhs.
abbrev pub lowers : ℕ → ℕ → Taken
lowers s rhs = record { kind = lower; cell = s; g = infinite; rhs = rhs; becomes = rhs }

-- A cell raised: its g, below its rhs, becomes infinite.
abbrev pub raises : ℕ → ℕ → ℕ → Taken
raises s g rhs = record { kind = raise; cell = s; g = g; rhs = rhs; becomes = infinite }

-- A text six times.
abbrev pub six_times : List ℕ → List ℕ
six_times text = text ++ text ++ text ++ text ++ text ++ text

-- The cases: before each, document 01's words.
unfoldable pub cases : List Case
cases =
    -- "Output, all of it"
    case drill_of_one (bytes "way 2 steps 2: 0 1 2\nnone steps 0\nway 6 steps 0: 0 1 2\nway 5 steps 2: 1 2\nway 1 steps 0: 1 0\ncaught at 1\n")
    -- "In the fourth line's search, cell 0 is raised (g 0, rhs 2), then lowered to 2."
    ((lowers 0 0 ∷ lowers 1 1 ∷ []) ∷ [] ∷ [] ∷ (raises 0 0 2 ∷ lowers 0 2 ∷ []) ∷ [] ∷ [] ∷ []) 5
    -- "1 by 1: hunter and target 0, caught, steps 0."
    ∷ case (one_by_one ++ ask ++ trailer 1 1 0 0 1 4) (bytes "caught at 0\n") ([] ∷ []) 0
    -- "Any change of cell 0 there: 4." The four directions, the next number, and the greatest byte.
    ∷ case (one_by_one ++ changes 0 ++ changes 1 ++ changes 2 ++ changes 3 ++ changes 4 ++ changes 255 ++ trailer 1 1 0 0 36 4) (six_times (six_times (bytes "refused 4\n"))) [] 0
    -- "2 by 1, both moves open at 1, hunter 0, target 1: cost 1, steps 1."
    ∷ case (both_open ++ ask ++ trailer 2 1 0 1 1 8) (bytes "way 1 steps 1: 0 1\n") ((lowers 0 0 ∷ []) ∷ []) 1
    -- "2 by 1, both shut: none, steps 1. Then hunter to 1, target to 0: rhs of 1 is infinite, fresh start, none, steps 1." The search number is 1 again.
    ∷ case (both_shut ++ ask ++ hunter 1 ++ target 0 ++ ask ++ trailer 2 1 0 1 4 8) (bytes "none steps 1\nnone steps 1\n") ((lowers 0 0 ∷ []) ∷ (lowers 1 0 ∷ []) ∷ []) 1
    -- "A change to 250 stands, to 251 is 5, to 255 stands." A search after each tells what the move costs.
    ∷ case (both_open ++ change 0 1 250 ++ ask ++ change 0 1 251 ++ ask ++ change 0 1 255 ++ ask ++ trailer 2 1 0 1 6 8)
    (bytes "way 250 steps 1: 0 1\nrefused 5\nway 250 steps 0: 0 1\nnone steps 0\n") ((lowers 0 0 ∷ []) ∷ [] ∷ [] ∷ []) 3
    -- "Cell N with cost 0 together: 3."
    ∷ case (both_open ++ change 2 1 0 ++ trailer 2 1 0 1 1 8) (bytes "refused 3\n") [] 0
    ∷ []
