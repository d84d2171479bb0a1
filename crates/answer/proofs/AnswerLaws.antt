-- What an answer tells gives the answer back; and the way shown is told.
use mathlib.Core.Path.{◌≡◌, refl, sym, ap, subst, ◌∙◌}
use mathlib.Core.Bool.{Bool, true}
use mathlib.Core.Logic.{◌≢◌}
use mathlib.Core.List.{List, ◌++◌}
use Prim.Native.Nat.{ℕ, ◌-◌}
use lib.ListN.{get_or, length, take, drop}
use lib.Seq.{take-append_seam}
use Rattle.std.specs.Prelude.{Result, Ok, Err}
use Rattle.refusal.specs.declared.Refusal.{Refusal}
use Rattle.refusal.specs.declared.Refusal.TheVariants.{CutOff}
use Rattle.refusal.specs.Numbers.{refusal_of}
use Rattle.refusal.proofs.NumberLaws.{refusal_is}
use Rattle.method.specs.Numbers.{infinite}
use Rattle.method.specs.Session as method
use Rattle.tables.specs.Told.{Name, done, caught, none_leads, way, refusal, Told, told_way}
use Rattle.entries.specs.declared.Aim.{Aim}
use Rattle.answer.specs.declared.Answer.{Answer}
use Rattle.answer.specs.declared.Answer.TheVariants.{Caught, NoWay, Way}
use Rattle.answer.specs.Way.{Leading, Shows}
use Rattle.answer.specs.Answer.{told_by, count_of, tells, answer_of, Answers, cut_off, none_there, way_shown}

-- ---- the answer told

-- The answer of this name that has these values ..
named : Name → Told → Result Answer Refusal
named caught x = Ok (Caught (get_or x.cells 0 0))
named none_leads x = Ok (NoWay x.steps)
named way x = Ok (Way x.cost x.steps x.count)
named refusal x = Err (refusal_of x.number)
named done x = Err CutOff

read : Told → Result Answer Refusal
read x = named x.name x

-- .. is the one that tells them.
named_told : (a : Result Answer Refusal) (list : List ℕ) → a ≡ read (told_by a list)
unfolding named read
named_told (Ok (Caught s)) list = refl
named_told (Ok (NoWay n)) list = refl
named_told (Ok (Way c n k)) list = refl
named_told (Err r) list = ap Err (sym (refusal_is r))

-- Two answers told alike are one.
pub told_alike : (a b : Result Answer Refusal) (list list' : List ℕ) → told_by a list ≡ told_by b list' → a ≡ b
told_alike a b list list' e = named_told a list ∙ ap read e ∙ sym (named_told b list')

-- An answer that tells what the method's does is the method's.
answer_told : (m : method.Answer) → read (tells m) ≡ answer_of m
unfolding named read
answer_told (method.caught s) = refl
answer_told (method.none_leads n) = refl
answer_told (method.way c n l) = refl
answer_told method.cut_off = refl

pub answer_is : (a : Result Answer Refusal) (list : List ℕ) (m : method.Answer) → told_by a list ≡ tells m → a ≡ answer_of m
answer_is a list m e = named_told a list ∙ ap read e ∙ answer_told m

-- The number of cells told does not depend on the list.
pub count_told : (a : Result Answer Refusal) (list : List ℕ) → (told_by a list).count ≡ count_of a
count_told (Ok (Caught s)) list = refl
count_told (Ok (NoWay n)) list = refl
count_told (Ok (Way c n k)) list = refl
count_told (Err r) list = refl

-- ---- the way told

-- The cells written are the cells told.
pub way_told : {a : Aim} {ended : Bool} {steps k : ℕ} {rhs parent way way' : List ℕ} → Leading a parent way → ended ≡ true → get_or rhs a.target 0 ≢ infinite → Shows a parent way k way'
    → Answers a ended steps rhs parent way (told_way (get_or rhs a.target 0 - get_or rhs a.hunter 0) steps k (take k way')) way'
way_told {a} {ended} {steps} {k} {rhs} {parent} {way} {way'} L e f w =
    subst (λ v. Answers a ended steps rhs parent way (told_way cost steps k (take k v)) v) (sym shown.1)
    (subst (λ n. Answers a ended steps rhs parent way (told_way cost steps n (take n list)) list) (sym shown.0)
    (subst (λ c. Answers a ended steps rhs parent way (told_way cost steps (length l) c) list) (sym (take-append_seam l (drop (length l) way)))
    (way_shown e f L.followed.leads)))
  where
    l : List ℕ
    l = L.followed.cells

    list : List ℕ
    list = l ++ drop (length l) way

    cost : ℕ
    cost = get_or rhs a.target 0 - get_or rhs a.hunter 0

    shown : (k ≡ length l) × (way' ≡ l ++ drop (length l) way)
    shown = w l L.followed.leads

-- By these each answer is proved.
pub ruleset answering = (cut_off, none_there, way_told)
