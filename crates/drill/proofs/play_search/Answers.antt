-- `drill::play_search` leaves what the definition says of a search, the way list too, and puts its line (`search_turns`).
use native.Mathlib.Omega.{arith}
use Rattle.drill.proofs.PlayLaws.{shown_few, search_turns}
use Rattle.drill.proofs.play_search.Goals as goal

pub put_answer-requires : goal.put_answer-requires
put_answer-requires c =
    let few = shown_few c.requires.sound c.requires.way_room c.search_sound-found.ensures.searched in
    (omega (arith, few, c.requires.way_room, c.search_sound-found.auto.way), omega (arith, few, c.requires.text_room))

pub returns-clause-turns : goal.returns-clause-turns
returns-clause-turns c = search_turns c.requires.sound c.requires.way_room c.search_sound-found.ensures.searched c.put_answer.ensures.put
