-- The lines that are printed, byte for byte: decimal numbers, one space between words, none at the end, a line feed after each line.
use Rattle.std.specs.Prelude.{List, [], ◌∷◌, ◌++◌, ℕ, ◌+◌, ◌*◌, Result, Ok, Err}
use Rattle.refusal.specs.declared.Refusal.{Refusal}
use Rattle.refusal.specs.Numbers.{number_of}
use Rattle.answer.specs.declared.Answer.{Answer}
use Rattle.answer.specs.declared.Answer.TheVariants.{Caught, NoWay, Way}
use Rattle.text.specs.Text.{bytes, decimal}

-- The cells of a way, each after one space.
unfoldable pub spaced : List ℕ → List ℕ
spaced [] = []
spaced (s ∷ l) = bytes " " ++ decimal s ++ spaced l

-- "`refused` and the number"
abbrev pub refused_line : ℕ → List ℕ
refused_line number = bytes "refused " ++ decimal number ++ bytes "\n"

-- "A `way` line: cost, steps, cells from hunter to target. `none`: steps. `caught`: the cell." The cells shown stand beside the answer.
abbrev pub line : Result Answer Refusal → List ℕ → List ℕ
line (Ok (Caught s)) shown = bytes "caught at " ++ decimal s ++ bytes "\n"
line (Ok (NoWay steps)) shown = bytes "none steps " ++ decimal steps ++ bytes "\n"
line (Ok (Way cost steps k)) shown = bytes "way " ++ decimal cost ++ bytes " steps " ++ decimal steps ++ bytes ":" ++ spaced shown ++ bytes "\n"
line (Err r) shown = refused_line (number_of r)

-- No line with k cells is longer.
abbrev pub room : ℕ → ℕ
room k = 64 + 6 * k
