-- The entry left absent, taken out, put in, or put under its key: each is the method's `set_right`, by the queue's promise (EntryLaws).
use mathlib.Core.Path.{refl}
use Rattle.std.proofs.Common.{rules}
use Rattle.entries.proofs.EntryLaws.{key_room, right_absent, right_out, right_in, kept_in, kept_out}
use Rattle.entries.proofs.set_right.Goals as goal

pub returns-then-i-clause-entered : goal.returns-then-i-clause-entered
returns-then-i-clause-entered c = right_absent c.requires c.if-x-y.true c.if-i.true (search rules)

pub returns-then-x-y-clause-entered : goal.returns-then-x-y-clause-entered
returns-then-x-y-clause-entered c = right_out c.requires c.if-x-y.true c.take_out.ensures.changed (search rules)

pub returns-then-x-y-clause-entry_kept : goal.returns-then-x-y-clause-entry_kept
returns-then-x-y-clause-entry_kept c = kept_out c.requires c.take_out.ensures.changed refl c.if-i.false (search rules)

pub first_key-first-requires-clause-km_bound : goal.first_key-first-requires-clause-km_bound
first_key-first-requires-clause-km_bound c = key_room c.requires.sited (c.requires.fits c.if-x-y.false) c.min-m.ensures

pub returns-then-i-2-clause-entered : goal.returns-then-i-2-clause-entered
returns-then-i-2-clause-entered c = right_in c.requires c.if-x-y.false c.min-m.ensures c.first_key-first.ensures c.put_in.ensures.changed (search rules)

pub returns-then-i-2-clause-entry_kept : goal.returns-then-i-2-clause-entry_kept
returns-then-i-2-clause-entry_kept c = kept_in c.requires c.put_in.ensures.changed refl c.if-i-2.true (search rules)

pub returns-clause-entered : goal.returns-clause-entered
returns-clause-entered c = right_in c.requires c.if-x-y.false c.min-m.ensures c.first_key-first.ensures c.put_under.ensures.changed (search rules)
