-- A number above 255 is told as 0, any other as itself (`byte_or_none`).
use mathlib.Core.Path.{◌∙◌}
use Rattle.rongdhesi.proofs.NumberLaws.{byte_or_none}
use Rattle.rongdhesi.proofs.byte_of.Goals as goal

pub returns : goal.returns
returns c = c.unwrap_or.ensures ∙ byte_or_none _ _ c.try_from.ensures
