-- A search that `check` does not refuse has sound tables and room for the way (`search_granted` in RefusalLaws).
use mathlib.Core.Path.{refl}
use Rattle.search.proofs.RefusalLaws.{search_granted}
use Rattle.search.proofs.search.Goals as goal

pub search_sound-requires : goal.search_sound-requires
search_sound-requires c = search_granted c.args.way.now c.in-Ok.ensures refl
