-- The answer of a search: what it tells as the code returns it and as the method gives it, and the promise of the answer after the last step.
use Rattle.std.specs.Prelude.{◌≡◌, Result, Ok, Err, Bool, true, false, ◌≢◌, List, [], ◌++◌, ℕ, ◌-◌, ◌≤◌, ◌<◌, get_or, length, take, drop}
use Rattle.refusal.specs.declared.Refusal.{Refusal}
use Rattle.refusal.specs.declared.Refusal.TheVariants.{CutOff}
use Rattle.refusal.specs.Numbers.{number_of}
use Rattle.method.specs.Numbers.{infinite}
use Rattle.method.specs.Session as method
use Rattle.plan.specs.Cells.{Size}
use Rattle.tables.specs.Told.{Told, told_refusal, told_caught, told_none, told_way}
use Rattle.entries.specs.declared.Aim.{Aim}
use Rattle.entries.specs.Aims.{area}
use Rattle.answer.specs.declared.Answer.{Answer}
use Rattle.answer.specs.declared.Answer.TheVariants.{Caught, NoWay, Way}
use Rattle.answer.specs.Way.{Leads, Leading}

-- What an answer tells beside the way list that its search left: the cells of a way stand there.
abbrev pub told_by : Result Answer Refusal → List ℕ → Told
told_by (Ok (Caught s)) list = told_caught s
told_by (Ok (NoWay n)) list = told_none n
told_by (Ok (Way c n k)) list = told_way c n k (take k list)
told_by (Err r) list = told_refusal (number_of r)

-- How many cells it shows, whatever stands in the list.
abbrev pub count_of : Result Answer Refusal → ℕ
count_of a = (told_by a []).count

-- What the method's answer tells; cut off after 3N steps is refusal 9.
abbrev pub tells : method.Answer → Told
tells (method.caught s) = told_caught s
tells (method.none_leads n) = told_none n
tells (method.way c n l) = told_way c n (length l) l
tells method.cut_off = told_refusal 9

-- The cells that it writes, hunter first.
abbrev pub cells_of : method.Answer → List ℕ
cells_of a = (tells a).cells

-- The method's answer as the code returns it.
abbrev pub answer_of : method.Answer → Result Answer Refusal
answer_of (method.caught s) = Ok (Caught s)
answer_of (method.none_leads n) = Ok (NoWay n)
answer_of (method.way c n l) = Ok (Way c n (length l))
answer_of method.cut_off = Err CutOff

-- ---- after the last step

-- The answer can be given: where rhs of the target is finite, the parents lead from it to the hunter, whose rhs is not above.
pub record Answering (a : Aim) (rhs parent way : List ℕ) : Type 0 where
  pub size : Size a.width a.height
  pub hunter_in : a.hunter < area a
  pub target_in : a.target < area a
  pub long : length rhs ≡ area a
  pub led : get_or rhs a.target 0 ≢ infinite → Leading a parent way
  pub not_above : get_or rhs a.target 0 ≢ infinite → get_or rhs a.hunter 0 ≤ get_or rhs a.target 0

-- What is told, and the way list after it: its first places have the cells from parent to parent, the rest is as it was.
pub data Answers (a : Aim) (ended : Bool) (steps : ℕ) (rhs parent way : List ℕ) : Told → List ℕ → Type 0 where
  cut_off : ended ≡ false → Answers a ended steps rhs parent way (told_refusal 9) way
  none_there : ended ≡ true → get_or rhs a.target 0 ≡ infinite → Answers a ended steps rhs parent way (told_none steps) way
  way_shown : {l : List ℕ} → ended ≡ true → get_or rhs a.target 0 ≢ infinite → Leads a parent a.target l
      → Answers a ended steps rhs parent way (told_way (get_or rhs a.target 0 - get_or rhs a.hunter 0) steps (length l) l) (l ++ drop (length l) way)
