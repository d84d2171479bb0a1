-- The cell is cut off, and the last entry, if it is another, is in hand over its place and stands where it settles from there.
use mathlib.Core.Path.{refl}
use Rattle.queue.proofs.HoleLaws.{long_list, held_own}
use Rattle.queue.proofs.CallLaws.{last_out, take_out_loose, take_out_members, stood}
use Rattle.queue.proofs.Queue.take_out.Goals as goal

pub returns-then-last-i-clause-changed : goal.returns-then-last-i-clause-changed
returns-then-last-i-clause-changed c = last_out c.requires.heap c.requires.cell_in_bounds c.requires.queued c.from-i.ensures c.if-last-i.true

pub settle-j-requires-clause-held : goal.settle-j-requires-clause-held
settle-j-requires-clause-held c =
    held_own (take_out_loose c.requires.heap c.requires.cell_in_bounds c.requires.queued c.from-i.ensures c.if-last-i.false c.from-moved.ensures).0

pub settle-j-requires-clause-loose : goal.settle-j-requires-clause-loose
settle-j-requires-clause-loose c = (take_out_loose c.requires.heap c.requires.cell_in_bounds c.requires.queued c.from-i.ensures c.if-last-i.false c.from-moved.ensures).1

pub returns-clause-changed : goal.returns-clause-changed
returns-clause-changed c = let members = take_out_members c.requires.heap c.requires.cell_in_bounds c.requires.queued c.from-i.ensures c.if-last-i.false c.from-moved.ensures in
    let stay = c.settle-j.ensures.keys_stay in
    let held = (take_out_loose c.requires.heap c.requires.cell_in_bounds c.requires.queued c.from-i.ensures c.if-last-i.false c.from-moved.ensures).0 in
    rw (stay.count, stay.first, stay.second) (stood c.requires.heap c.requires.cell_in_bounds (λ z. (refl, refl)) c.settle-j.ensures.sifted (long_list held) members
    c.stand.ensures.place_after c.stand.ensures.list_after)
