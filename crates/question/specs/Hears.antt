-- What the words of a program come to: nothing, or a question.
use Rattle.std.specs.Prelude.{◌≤◌, ◌<◌, Option, None, Some, ⊤}
use Rattle.question.specs.declared.Question.{Question}
use Rattle.question.specs.declared.Question.TheVariants.{Reached, Along, Through}

-- Whatever the words are, the cell of a move has 16 bits, and its direction is one of four.
abbrev pub Hears : Option Question → Type 0
Hears None = ⊤
Hears (Some Reached) = ⊤
Hears (Some (Along cells)) = ⊤
Hears (Some (Through cell direction)) = (cell ≤ 65535) × (direction < 4)
