-- The drill file. "From the front: 4N plan bytes, then actions of 5 bytes, then a trailer of 12 bytes that points back."
use Rattle.std.specs.Prelude.{Option, None, Some, Bool, true, false, List, [], ◌∷◌, ℕ, zero, suc, ◌+◌, ◌*◌, ◌-◌, ◌≤◌, length, get_or}
use Rattle.std.proofs.Math.Bool.{Bool-discrete}
use Rattle.std.proofs.Math.Logic.Dec
use Rattle.std.proofs.Math.Decide.{ℕ_discrete, dec_le}
use Rattle.decide.specs.Choose.{choose}
use Rattle.plan.specs.Cells.{Size}
use Rattle.drill_file.specs.declared.Action.{Action}
use Rattle.drill_file.specs.declared.Action.TheVariants.{Change, Hunter, Target, Search}
use Rattle.drill_file.specs.declared.Trailer.{Trailer}

-- A number of two bytes, and of four, "low byte first".
abbrev pub two : List ℕ → ℕ → ℕ
two file at = get_or file at 0 + 256 * get_or file (at + 1) 0

abbrev pub four : List ℕ → ℕ → ℕ
four file at = two file at + 65536 * two file (at + 2)

-- "width 1, height 1, hunter 2, target 2, number of actions 2, offset of the actions 4"
abbrev pub trailer_at : List ℕ → ℕ → Trailer
trailer_at file at = record {
  width = get_or file at 0;
  height = get_or file (at + 1) 0;
  hunter = two file (at + 2);
  target = two file (at + 4);
  actions = two file (at + 6);
  offset = four file (at + 8);
}

abbrev pub trailer_of : List ℕ → Trailer
trailer_of file = trailer_at file (length file - 12)

-- Zeros, for a file that is too short to have a trailer.
abbrev pub no_trailer : Trailer
no_trailer = record { width = 0; height = 0; hunter = 0; target = 0; actions = 0; offset = 0 }

-- What is read as the trailer of a file, whatever it is.
unfoldable pub trailer_in : List ℕ → Trailer
trailer_in file = choose (dec_le 12 (length file)) (trailer_of file) no_trailer

-- The number of cells, N.
abbrev pub cells : Trailer → ℕ
cells t = t.height * t.width

-- "Kinds: 1 change, 2 hunter, 3 target, 4 search. Kinds 2 and 3 have direction and cost 0; kind 4 has all four bytes 0. An action against this is badly formed": then there is none.
unfoldable pub action_of : ℕ → ℕ → ℕ → ℕ → Option Action
action_of kind cell d cost =
    choose (ℕ_discrete kind 1) (Some (Change cell d cost))
    (choose (Dec.and (ℕ_discrete d 0) (ℕ_discrete cost 0))
    (choose (ℕ_discrete kind 2) (Some (Hunter cell))
    (choose (ℕ_discrete kind 3) (Some (Target cell))
    (choose (Dec.and (ℕ_discrete kind 4) (ℕ_discrete cell 0)) (Some Search)
    None)))
    None)

-- "Action: kind 1, cell 2, direction 1, cost 1": the action at a place of the file; past the end there is none.
unfoldable pub action_at : List ℕ → ℕ → Option Action
action_at file at =
    choose (dec_le (at + 5) (length file)) (action_of (get_or file at 0) (two file (at + 1)) (get_or file (at + 3) 0) (get_or file (at + 4) 0))
    None

-- So many actions from a place on, with None in the place of one that is badly formed.
unfoldable pub actions_from : List ℕ → ℕ → ℕ → List (Option Action)
actions_from file at zero = []
actions_from file at (suc n) = action_at file at ∷ actions_from file (at + 5) n

-- The actions of a file.
abbrev pub actions_of : List ℕ → List (Option Action)
actions_of file = actions_from file (trailer_of file).offset (trailer_of file).actions

-- No action is badly formed.
unfoldable pub well_formed : List (Option Action) → Bool
well_formed [] = true
well_formed (None ∷ l) = false
well_formed (Some a ∷ l) = well_formed l

-- Whether width and height are each 1 to 64.
unfoldable pub is_size : (width height : ℕ) → Dec (Size width height)
is_size width height = at (Dec.and (Dec.and (dec_le 1 width) (dec_le width 64)) (Dec.and (dec_le 1 height) (dec_le height 64)))
  where
    at : Dec (((1 ≤ width) × (width ≤ 64)) × ((1 ≤ height) × (height ≤ 64))) → Dec (Size width height)
    at (yes h) = yes (record { wide = h.0.0; narrow = h.0.1; high = h.1.0; low = h.1.1 })
    at (no n) = no (λ m. n ((m.wide, m.narrow), (m.high, m.low)))

-- "Order: length under 12 or over 65,536 (8); size (1); offset not 4N, or length not offset + 5 × actions + 12 (8); any badly formed action (8)": 0 where the form is right.
unfoldable pub form_number : List ℕ → ℕ
form_number file =
    choose (Dec.and (dec_le 12 (length file)) (dec_le (length file) 65536))
    (choose (is_size (trailer_of file).width (trailer_of file).height)
    (choose (Dec.and (ℕ_discrete (trailer_of file).offset (4 * cells (trailer_of file))) (ℕ_discrete (length file) ((trailer_of file).offset + 5 * (trailer_of file).actions + 12)))
    (choose (Bool-discrete (well_formed (actions_of file)) true) 0
    8)
    8)
    1)
    8

-- The number of cells that a trailer tells: 0 where there is no right size in it.
unfoldable pub cells_told : Trailer → ℕ
cells_told t = choose (is_size t.width t.height) (cells t) 0

-- The number of cells that a file's trailer tells: 0 where there is no trailer, or no right size in it.
unfoldable pub cells_in : List ℕ → ℕ
cells_in file = choose (dec_le 12 (length file)) (cells_told (trailer_of file)) 0
