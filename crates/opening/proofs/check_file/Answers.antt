-- `opening::check_file` finds the file's number: that of its form (`form_refuses`), else that of the first of open's rules that its own bytes break (`number_found`).
use mathlib.Core.Path.{refl, sym}
use Rattle.opening.proofs.BeginLaws.{plan_there, number_found}
use Rattle.opening.proofs.check_file.Goals as goal

pub slice_bounds-check_open-end : goal.slice_bounds-check_open-end
slice_bounds-check_open-end c = plan_there _ c.requires.fits (sym c.in_ok-check_form.ensures)

pub returns : goal.returns
returns c = number_found _ c.requires.fits (sym c.in_ok-check_form.ensures) refl c.requires.t_value c.check_open.ensures
