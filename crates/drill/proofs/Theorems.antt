-- What an action leaves and prints is what the public call leaves and answers.
use mathlib.Core.Path.{◌≡◌}
use mathlib.Core.List.{List, []}
use Rattle.std.specs.Prelude.{Some}
use Prim.Native.Nat.{ℕ, ◌≤◌}
use lib.ListN.{length, take}
use Rattle.tables.specs.declared.Session.{Session}
use Rattle.tables.specs.Lent.{Tables, cells}
use Rattle.tables.specs.Sound.{Sound}
use Rattle.session.specs.declared.Reply.{Reply}
use Rattle.session.specs.Promises.{hunter_at, target_at, Places}
use Rattle.change.specs.Promise.{Changes}
use Rattle.search.specs.declared.Outcome.{Outcome}
use Rattle.answer.specs.Answer.{count_of, cells_of}
use Rattle.search.specs.Promise.{outcome, Searches}
use Rattle.demands.proofs.Demands.{not_refused}
use Rattle.standing.specs.Standing.{stands}
use Rattle.drill_file.specs.declared.Action.TheVariants.{Change, Hunter, Target, Search}
use Rattle.lines.specs.Lines.{line}
use Rattle.drill.specs.Play.{turn}
use Rattle.drill.specs.Promises.{told}
use Rattle.drill.proofs.PlayLaws.{hunter_replied, target_replied, change_replied, search_is}

-- The line of an action is that of the public call's own answer, whatever result its statement allows.
pub hunter_printed : {s : Session} {t : Tables} {cell : ℕ} {r : Reply} → Sound s t → Places s (hunter_at s cell) cell r
    → turn (stands s t) (Some (Hunter cell)) ≡ record { after = stands r.session t; shown = []; line = told r.answer }
hunter_printed S P = (hunter_replied S P).is

pub target_printed : {s : Session} {t : Tables} {cell : ℕ} {r : Reply} → Sound s t → Places s (target_at s cell) cell r
    → turn (stands s t) (Some (Target cell)) ≡ record { after = stands r.session t; shown = []; line = told r.answer }
target_printed S P = (target_replied S P).is

pub change_printed : {s : Session} {t t' : Tables} {u d cost : ℕ} {r : Reply} → Sound s t → Changes s t u d cost r t'
    → turn (stands s t) (Some (Change u d cost)) ≡ record { after = stands r.session t'; shown = []; line = told r.answer }
change_printed S P = (change_replied S P).is

pub search_printed : {s : Session} {t t' : Tables} (way : List ℕ) {way' : List ℕ} {r : Outcome} → Sound s t → cells s ≤ length way → Searches s t way r t' way'
    → turn (stands s t) (Some Search) ≡ record { after = stands r.session t'; shown = cells_of (outcome s t).answer; line = line r.answer (take (count_of r.answer) way') }
search_printed way S long P = search_is S long (not_refused way S long P)
