-- Document 01's table of refusals: for each call its rules, each with its number, in the order of checking. Here those of place, open and every call on a session's tables.
use Rattle.std.specs.Prelude.{Result, Ok, Err, ℕ, ◌*◌, ◌<◌}
use Rattle.refusal.specs.declared.Refusal.{Refusal}
use Rattle.refusal.specs.Numbers.{number_of}
use Rattle.decide.specs.Ruled.{Ruled, Passed}
use Rattle.plan.specs.Cells.{Size}
use Rattle.plan.specs.Costs.{plan_of, Bytes, Edges}
use Rattle.tables.specs.declared.Session.{Session}
use Rattle.tables.specs.Lent.{Tables, cells, Fits}
use Rattle.tables.specs.Sound.{Sound}
use Rattle.tables.specs.Told.{Told, told_done, told_refusal}

-- What a call's answer tells.
abbrev pub told_by : Result Unit Refusal → Told
told_by (Ok _) = told_done
told_by (Err r) = told_refusal (number_of r)

-- Placing a cell: "width or height not 1 to 64"; "a given cell is N or more".
abbrev pub PlaceRules : Session → ℕ → ℕ → Type 0
PlaceRules s cell =
    Ruled (Size s.width s.height) 1
    (Ruled (cell < cells s) 3
    Passed)

-- Opening: the size; "a table is not of its length"; hunter and target; a byte of a move that leaves the plan is not 255; "byte 0 or 251 to 254".
abbrev pub OpenRules : ℕ → ℕ → ℕ → ℕ → Tables → ℕ → Type 0
OpenRules width height hunter target t =
    Ruled (Size width height) 1
    (Ruled (Fits (height * width) t) 2
    (Ruled ((hunter < height * width) × (target < height * width)) 3
    (Ruled (Edges (plan_of width height t.plan)) 4
    (Ruled (Bytes (plan_of width height t.plan)) 5
    Passed))))

-- The tables of a session: the size; the lengths; "tables not sound".
abbrev pub TableRules : Session → Tables → (ℕ → Type 0) → ℕ → Type 0
TableRules s t rest =
    Ruled (Size s.width s.height) 1
    (Ruled (Fits (cells s) t) 2
    (Ruled (Sound s t) 6
    rest))
