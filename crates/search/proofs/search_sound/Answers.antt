-- Caught, or taken over, run and answered: each part has the method's tables and answer by its own promise, and SearchLaws puts them together (`searched`).
use mathlib.Core.Path.{refl}
use native.Mathlib.Omega.{arith}
use Rattle.search.proofs.SearchLaws.{searched_caught, run_aimed, run_started, few_searches, answering, searched}
use Rattle.search.proofs.search_sound.Goals as goal

pub returns-then-s-clause-searched : goal.returns-then-s-clause-searched
returns-then-s-clause-searched c = searched_caught c.requires.0 c.if-s.true c.requires.1 refl

pub run-ran-requires-clause-aimed : goal.run-ran-requires-clause-aimed
run-ran-requires-clause-aimed c = run_aimed c.requires.0 c.take_over-taken.ensures.taken c.aim_of-a.ensures

pub run-ran-requires-clause-started : goal.run-ran-requires-clause-started
run-ran-requires-clause-started c = run_started c.requires.0 c.take_over-taken.ensures.taken c.aim_of-a.ensures

pub overflow_add-result : goal.overflow_add-result
overflow_add-result c = omega (arith, few_searches c.requires.0 c.take_over-taken.ensures.taken c.aim_of-a.ensures)

pub answered-requires : goal.answered-requires
answered-requires c = answering c.requires.0 c.take_over-taken.ensures.taken c.aim_of-a.ensures c.run-ran.ensures.finished c.requires.1

pub returns-clause-searched : goal.returns-clause-searched
returns-clause-searched c = searched c.requires.0 c.take_over-taken.ensures.taken c.aim_of-a.ensures c.run-ran.ensures.finished c.if-s.false c.answered.ensures
