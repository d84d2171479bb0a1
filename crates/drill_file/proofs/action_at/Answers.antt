-- Up to the last place that has five bytes from it on, these say the action (`action_there` in FileLaws).
use Rattle.std.proofs.Common.{◌∙◌, refl, arith}
use Rattle.drill_file.proofs.FileLaws.{same_action, action_there}
use Rattle.drill_file.proofs.action_at.Goals as goal

pub returns : goal.returns
returns c = let fits = c.in_ok-last.ensures in
    c.action_of.ensures ∙ same_action refl c.two_at.ensures refl refl ∙ action_there _ _ (omega (arith, c.if-last-at.false, fits))
