-- An answer told in numbers, and the promises of the C functions: each is the library's own, of a reply told so.
use Rattle.std.specs.Prelude.{◌≡◌, cond, ◌≢◌, List, ℕ, ◌*◌, ltb, Result}
use Rattle.decide.specs.Ruled.{Ruled, Passed}
use Rattle.plan.specs.Cells.{Size}
use Rattle.tables.specs.declared.Session.{Session}
use Rattle.tables.specs.Told.{Name, done, caught, none_leads, way, refusal, Told}
use Rattle.session.specs.declared.Reply.{Reply as CallReply}
use Rattle.session.specs.Refusals.{told_by as told_by_call}
use Rattle.answer.specs.Answer.{told_by}
use Rattle.search.specs.declared.Outcome.{Outcome}
use Rattle.rongdhesi.specs.declared.Reply.{Reply}
use Rattle.refusal.specs.declared.Refusal.{Refusal}
use Rattle.drill_writer.specs.Promise.{WriteTold, written_told}
use Rattle.rongdhesi.specs.declared.Lengths.{Lengths}
use Rattle.rongdhesi.specs.declared.Written.{Written}

-- ---- answers in numbers

-- The kind of each name.
abbrev pub kind_of : Name → ℕ
kind_of done = 0
kind_of way = 1
kind_of none_leads = 2
kind_of caught = 3
kind_of refusal = 4

-- The record with what an answer tells: kind, refusal number, cost, steps and how many cells; the cells stand in the way list.
abbrev pub reply_of : Session → Told → Reply
reply_of s x = record { session = s; kind = kind_of x.name; refusal = x.number; cost = x.cost; steps = x.steps; cells = x.count }

-- A search's outcome told in numbers: none of them depends on what stands in the way list.
abbrev pub OutcomeTold : Outcome → Reply → Type 0
OutcomeTold called r = (list : List ℕ) → r ≡ reply_of called.session (told_by called.answer list)

-- The cost byte that a number gives: a number above 255 is no byte and counts as 0, which is refused by 5 as 251 to 254 are.
unfoldable pub byte_of : ℕ → ℕ
byte_of n = cond (ltb 255 n) 0 n

-- What writing a drill file tells, in the record that crosses.
abbrev pub written_of : WriteTold → Written
written_of x = record { refusal = x.refusal; bytes = x.bytes }

-- ---- promises

-- What is returned is what a call of the library returns, told in numbers.
pub record CallTold (Promised : CallReply → Type 0) (r : Reply) : Type 0 where
  pub called : CallReply
  pub promised : Promised called
  pub told : r ≡ reply_of called.session (told_by_call called.answer)

pub record SearchTold (Promised : Outcome → Type 0) (r : Reply) : Type 0 where
  pub called : Outcome
  pub promised : Promised called
  pub told : OutcomeTold called r

pub record WritingTold (Promised : Result ℕ Refusal → Type 0) (r : Written) : Type 0 where
  pub called : Result ℕ Refusal
  pub promised : Promised called
  pub told : r ≡ written_of (written_told called)

-- The lengths of the tables for a size: "Every table has exactly the length that N gives (the plan 4N)."
pub record Measures (width height : ℕ) (r : Lengths) : Type 0 where
  pub rules : Ruled (Size width height) 1 Passed r.refusal
  pub refused : r.refusal ≢ 0 → (r.plan ≡ 0) × (r.cells ≡ 0)
  pub done : r.refusal ≡ 0 → (r.plan ≡ 4 * (height * width)) × (r.cells ≡ height * width)
