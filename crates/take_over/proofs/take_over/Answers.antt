-- The four cases of taking over, each by its law in TakeOverLaws: started fresh for the search number, the hunter where it was, started fresh for an infinite rhs, handed over.
use mathlib.Core.Path.{refl}
use Rattle.take_over.proofs.TakeOverLaws.{handing, taken_late, taken_same, taken_far, taken_new}
use Rattle.take_over.proofs.take_over.Goals as goal

pub returns-then-s-ge-RENEWAL-clause-taken : goal.returns-then-s-ge-RENEWAL-clause-taken
returns-then-s-ge-RENEWAL-clause-taken c = taken_late c.requires c.if-s-ge-RENEWAL.true c.begin.ensures.opened

pub returns-then-s-clause-taken : goal.returns-then-s-clause-taken
returns-then-s-clause-taken c = taken_same c.requires c.if-s-ge-RENEWAL.false c.if-s.true c.target_taken-t.ensures refl

pub returns-then-ahead-s-clause-taken : goal.returns-then-ahead-s-clause-taken
returns-then-ahead-s-clause-taken c = taken_far
    c.requires
    c.if-s-ge-RENEWAL.false
    c.if-s.false
    c.if-ahead-s.true
    c.begin-then-ahead-s.ensures.opened

pub hand_over-requires : goal.hand_over-requires
hand_over-requires c = handing c.requires c.target_taken-t.ensures

pub returns-clause-taken : goal.returns-clause-taken
returns-clause-taken c = taken_new
    c.requires
    c.if-s-ge-RENEWAL.false
    c.if-s.false
    c.if-ahead-s.false
    c.target_taken-t.ensures
    c.hand_over.ensures.holds
    c.hand_over.ensures.entry_kept
