-- The new cell is in hand over the empty place at the end of the list, and stands where it has gone up to from there.
use mathlib.Core.Path.{refl}
use Rattle.queue.proofs.CaseLaws.{never}
use Rattle.queue.proofs.OrderLaws.{before_order}
use Rattle.queue.proofs.SiftLaws.{reshaped}
use Rattle.queue.proofs.HoleLaws.{risen_last}
use Rattle.queue.proofs.CallLaws.{put_in_loose, put_in_members, stood}
use Rattle.queue.proofs.Queue.put_in.Goals as goal

pub sift_up-i-requires-clause-held : goal.sift_up-i-requires-clause-held
sift_up-i-requires-clause-held c = (put_in_loose c.requires.heap c.requires.cell_in_bounds c.requires.not_queued _ _).0

pub sift_up-i-requires-clause-loose : goal.sift_up-i-requires-clause-loose
sift_up-i-requires-clause-loose c = (put_in_loose c.requires.heap c.requires.cell_in_bounds c.requires.not_queued _ _).1

pub returns-clause-changed : goal.returns-clause-changed
returns-clause-changed c = let settled = reshaped c.sift_up-i.ensures.sifted (risen_last (before_order _ _ _) refl c.sift_up-i.ensures.sifted.shape) in
    let stay = c.sift_up-i.ensures.keys_stay in
    let members = put_in_members c.requires.heap c.requires.cell_in_bounds c.requires.not_queued in
    rw (stay.count, stay.first, stay.second) (stood c.requires.heap c.requires.cell_in_bounds (λ z. absurd (never refl z)) settled refl members
    c.stand.ensures.place_after c.stand.ensures.list_after)
