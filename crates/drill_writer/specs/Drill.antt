-- A drill, and its file: "From the front: 4N plan bytes, then actions of 5 bytes, then a trailer of 12 bytes that points back."
use Rattle.std.specs.Prelude.{Option, None, Some, List, [], ◌∷◌, ◌++◌, ℕ, ◌*◌, ◌/◌, ◌%◌, length, take, drop}
use Rattle.drill_file.specs.declared.Action.{Action}
use Rattle.drill_file.specs.declared.Action.TheVariants.{Change, Hunter, Target, Search}
use Rattle.drill_file.specs.declared.Trailer.{Trailer}
use Rattle.drill_file.specs.File.{trailer_of, cells, actions_from, actions_of}
use Rattle.drill_file.specs.Numbers.{plan_in}

-- "a plan, hunter, target and list of actions"
pub record Drill : Type 0 where
  pub width : ℕ
  pub height : ℕ
  pub hunter : ℕ
  pub target : ℕ
  pub plan : List ℕ
  pub actions : List (Option Action)

-- The drill that the reader finds in a file.
abbrev pub drill_of : List ℕ → Drill
drill_of file = record {
  width = (trailer_of file).width;
  height = (trailer_of file).height;
  hunter = (trailer_of file).hunter;
  target = (trailer_of file).target;
  plan = plan_in file;
  actions = actions_of file;
}

-- The bytes of a file's actions: they stand behind the plan.
abbrev pub action_bytes_in : List ℕ → List ℕ
action_bytes_in file = take (5 * (trailer_of file).actions) (drop (4 * cells (trailer_of file)) file)

-- A number in two bytes, and in four, "low byte first".
abbrev pub in_two : ℕ → List ℕ
in_two n = n % 256 ∷ n / 256 % 256 ∷ []

abbrev pub in_four : ℕ → List ℕ
in_four n = in_two (n % 65536) ++ in_two (n / 65536)

-- "Action: kind 1, cell 2, direction 1, cost 1. Kinds: 1 change, 2 hunter, 3 target, 4 search." No kind is 0: five zeros are badly formed.
unfoldable pub action_bytes : Option Action → List ℕ
action_bytes (Some (Change u d cost)) = 1 ∷ in_two u ++ (d ∷ cost ∷ [])
action_bytes (Some (Hunter s)) = 2 ∷ in_two s ++ (0 ∷ 0 ∷ [])
action_bytes (Some (Target s)) = 3 ∷ in_two s ++ (0 ∷ 0 ∷ [])
action_bytes (Some Search) = 4 ∷ 0 ∷ 0 ∷ 0 ∷ 0 ∷ []
action_bytes None = 0 ∷ 0 ∷ 0 ∷ 0 ∷ 0 ∷ []

-- The bytes of some actions, and the actions that bytes make, five for each.
unfoldable pub actions_bytes : List (Option Action) → List ℕ
actions_bytes [] = []
actions_bytes (a ∷ l) = action_bytes a ++ actions_bytes l

abbrev pub actions_in : List ℕ → List (Option Action)
actions_in bytes = actions_from bytes 0 (length bytes / 5)

-- "width 1, height 1, hunter 2, target 2, number of actions 2, offset of the actions 4"
abbrev pub trailer_bytes : Trailer → List ℕ
trailer_bytes t = t.width ∷ t.height ∷ in_two t.hunter ++ in_two t.target ++ in_two t.actions ++ in_four t.offset

-- The trailer of a drill of so many actions: they stand behind the 4N plan bytes.
abbrev pub trailer_for : ℕ → ℕ → ℕ → ℕ → ℕ → Trailer
trailer_for width height hunter target count =
    record { width = width; height = height; hunter = hunter; target = target; actions = count; offset = 4 * (height * width) }

-- The file of a drill.
abbrev pub file_of : Drill → List ℕ
file_of d = d.plan ++ actions_bytes d.actions ++ trailer_bytes (trailer_for d.width d.height d.hunter d.target (length d.actions))

-- The drill that is given with its actions as bytes, and the bytes that are written for it.
abbrev pub drill_given : ℕ → ℕ → ℕ → ℕ → List ℕ → List ℕ → Drill
drill_given width height hunter target plan actions =
    record { width = width; height = height; hunter = hunter; target = target; plan = plan; actions = actions_in actions }

abbrev pub bytes_for : ℕ → ℕ → ℕ → ℕ → List ℕ → List ℕ → List ℕ
bytes_for width height hunter target plan actions = plan ++ actions ++ trailer_bytes (trailer_for width height hunter target (length actions / 5))
