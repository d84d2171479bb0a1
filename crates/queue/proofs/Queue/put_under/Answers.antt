-- The cell has another key and is in hand over its own place; where it settles elsewhere, it is written there.
use Rattle.queue.proofs.CallLaws.{put_under_loose, put_under_stays, put_under_done}
use Rattle.queue.proofs.Queue.put_under.Goals as goal

pub settle-j-requires-clause-loose : goal.settle-j-requires-clause-loose
settle-j-requires-clause-loose c = (put_under_loose c.requires.heap c.requires.cell_in_bounds c.requires.queued c.from-i.ensures _ _).1

pub returns-then-j-i-clause-changed : goal.returns-then-j-i-clause-changed
returns-then-j-i-clause-changed c = let stay = c.settle-j.ensures.keys_stay in
    rw (stay.count, stay.first, stay.second) (put_under_done c.requires.heap c.requires.cell_in_bounds c.requires.queued c.from-i.ensures _ _ c.settle-j.ensures.sifted
    c.stand.ensures.place_after c.stand.ensures.list_after).0

pub returns-else-j-i-clause-changed : goal.returns-else-j-i-clause-changed
returns-else-j-i-clause-changed c =
    let stays = put_under_stays c.requires.heap c.requires.cell_in_bounds c.requires.queued c.from-i.ensures c.settle-j.ensures.sifted c.if-j-i.false in
    let stay = c.settle-j.ensures.keys_stay in
    rw (stay.count, stay.first, stay.second) (put_under_done c.requires.heap c.requires.cell_in_bounds c.requires.queued c.from-i.ensures _ _ c.settle-j.ensures.sifted stays.0 stays.1).0
