-- What the rules and the answer of `along` settle, and how its costs are put one behind the other.
use mathlib.Core.Path.{◌≡◌, refl, sym, ap, subst, ◌∙◌}
use mathlib.Core.Bool.{true, false, false≢true}
use mathlib.Core.List.{List}
use Prim.Native.Nat.{ℕ, zero, suc, ◌+◌, ◌*◌, ◌≤◌, ◌<◌}
use native.Mathlib.Numerals.{add-one}
use native.Mathlib.Omega.{arith}
use lib.ListN.{length, get_or, drop, set, length-set}
use lib.Seq.{get_or-set_same, get_or-set_other, drop-set-lt}
use borrow.Author.Count.{below_more}
use Rattle.decide.proofs.RuledLaws.{passed_one, ruled_one, granted, passed_zero, onward}
use Rattle.std.specs.Prelude.{Option, Some, None, Result, Ok, Err, is_some}
use Rattle.refusal.specs.declared.Refusal.{Refusal}
use Rattle.refusal.specs.Numbers.{number_of, refusal_of}
use Rattle.refusal.proofs.NumberLaws.{refusal_is, numbered}
use Rattle.plan.specs.Costs.{Plan, plan_of, byte, IsCost, Obeys}
use Rattle.plan.specs.Toward.{Leads, Neighbours, Toward, leading, nowhere}
use Rattle.plan.proofs.MoveLaws.{cost_of}
use Rattle.along.specs.Along.{RunningTold, running_told, told_running, cell_at, Onward, StepByte, AlongRules, Costable, Costed}

-- ---- one move

-- Of neighbours, a direction is told that leads from the one to the other.
pub toward_leads : {width height a b : ℕ} (r : Option ℕ) → Toward width height a b r → Neighbours width height a b → (d : ℕ) × (r ≡ Some d) × Leads width height a d b
toward_leads (Some d) (leading l) n = (d, refl, l)
toward_leads None (nowhere m) n = absurd (m n)

-- A direction told leads there.
pub told_leads : {width height a b d : ℕ} {r : Option ℕ} → r ≡ Some d → Toward width height a b r → Leads width height a d b
told_leads {width} {height} {a} {b} {d} e t = at (subst (Toward width height a b) e t)
  where
    at : Toward width height a b (Some d) → Leads width height a d b
    at (leading l) = l

-- One is told exactly of neighbours.
pub told_so : {width height a b : ℕ} (r : Option ℕ) → Toward width height a b r → is_some r ≡ true → Neighbours width height a b
told_so (Some d) (leading l) e = record { direction = d; leads = l }
told_so None t e = absurd (false≢true e)

pub told_not : {width height a b : ℕ} (r : Option ℕ) → Toward width height a b r → is_some r ≡ false → Neighbours width height a b → ⊥
told_not (Some d) t e = absurd (false≢true (sym e))
told_not None (nowhere m) e = m

-- ---- the costs of the moves

-- The byte of each move of the list's way is a cost.
pub open_cost : {width height room : ℕ} {plan cells : List ℕ} → Costable width height plan cells room → (i d : ℕ) → suc i < length cells
    → Onward (plan_of width height plan) cells i d → IsCost (byte (plan_of width height plan) (cell_at cells i) d)
open_cost C i d l o = cost_of (C.bytes _ d (C.way.listed i (omega arith)) o.direction) (C.all_open i d l o)

-- So what is the byte of the move, whatever its direction, is at most 250.
pub step_small : {width height room : ℕ} {plan cells : List ℕ} → Costable width height plan cells room → (i b : ℕ) → suc i < length cells
    → StepByte (plan_of width height plan) cells i b → b ≤ 250
step_small C i b l is =
    let n = C.way.joined i l in
    omega (arith, is n.direction n.leads, (open_cost C i n.direction l n.leads).1)

-- ---- the costs

-- The costs up to that of the i-th listed cell are put, which is `sum`; the length, and what lies behind the list, are those of `costs₀`.
pub record RunTo (p : Plan) (cells costs₀ : List ℕ) (i sum : ℕ) (costs : List ℕ) : Type 0 where
  pub first : get_or costs 0 0 ≡ 0
  pub next : (k : ℕ) → k < i → (d : ℕ) → Onward p cells k d → get_or costs (suc k) 0 ≡ get_or costs k 0 + byte p (cell_at cells k) d
  pub last : get_or costs i 0 ≡ sum
  pub small : sum ≤ 250 * i
  pub long : length costs ≡ length costs₀
  pub rest : drop (length cells) costs ≡ drop (length cells) costs₀

module _ {p : Plan} {cells : List ℕ} where
  -- Each but the first is that of the cell before, plus the cost of the move.
  pub run_next : {i sum : ℕ} {costs₀ costs : List ℕ} (b : ℕ) → i + 1 < length cells → length cells ≤ length costs → b ≤ 250 → StepByte p cells i b
      → RunTo p cells costs₀ i sum costs → RunTo p cells costs₀ (i + 1) (sum + b) (set costs (i + 1) (sum + b))
  run_next {i} {sum} {costs₀} {costs} b l room few is R = record {
    first = other 0 (omega arith) ∙ R.first;
    next = below_more (λ k. (d : ℕ) → Onward p cells k d → get_or (set costs (i + 1) (sum + b)) (suc k) 0 ≡ get_or (set costs (i + 1) (sum + b)) k 0 + byte p (cell_at cells k) d) i before here;
    last = same;
    small = omega (arith, R.small);
    long = length-set costs (i + 1) (sum + b) ∙ R.long;
    rest = drop-set-lt (length cells) costs (i + 1) (sum + b) l ∙ R.rest;
  }
    where
      other : (k : ℕ) → k < i + 1 → get_or (set costs (i + 1) (sum + b)) k 0 ≡ get_or costs k 0
      other k m = get_or-set_other costs (i + 1) k (sum + b) 0 (λ e. omega arith)

      same : get_or (set costs (i + 1) (sum + b)) (i + 1) 0 ≡ sum + b
      same = get_or-set_same costs (i + 1) (sum + b) 0 (omega arith)

      before : (k : ℕ) → k < i → (d : ℕ) → Onward p cells k d → get_or (set costs (i + 1) (sum + b)) (suc k) 0 ≡ get_or (set costs (i + 1) (sum + b)) k 0 + byte p (cell_at cells k) d
      before k m d o = omega (arith, other (suc k) (omega arith), other k (omega arith), R.next k m d o)

      here : (d : ℕ) → Onward p cells i d → get_or (set costs (i + 1) (sum + b)) (suc i) 0 ≡ get_or (set costs (i + 1) (sum + b)) i 0 + byte p (cell_at cells i) d
      here d o = omega (arith, ap (λ k. get_or (set costs (i + 1) (sum + b)) k 0) (sym (add-one i)) ∙ same, other i (omega arith), R.last, is d o)

-- ---- the answer

-- The answer as the code returns it.
abbrev pub ran : ℕ → ℕ → Result ℕ Refusal
ran zero n = Ok n
ran (suc k) n = Err (refusal_of (suc k))

-- What is told of a refusal.
told_refused : (k n : ℕ) → 0 < k → ◌≡◌ {A = RunningTold} (record { refusal = k; costs = 0 }) (told_running k n)
told_refused zero n l = absurd (omega arith)
told_refused (suc k) n l = refl

-- An answer told by its number is the number's: no list without cells gets number 0.
pub ran_is : (r : Result ℕ Refusal) (k n : ℕ) → (k ≡ 0 → 1 ≤ n) → running_told r ≡ told_running k n → r ≡ ran k n
ran_is (Ok m) zero n l e = ap Ok (ap (λ (x : RunningTold). x.costs) e)
ran_is (Ok m) (suc k) n l e = absurd (omega (arith, ap (λ (x : RunningTold). x.refusal) e))
ran_is (Err r) zero n l e = absurd (omega (arith, l refl, ap (λ (x : RunningTold). x.costs) e))
ran_is (Err r) (suc k) n l e = ap Err (sym (refusal_is r) ∙ ap (λ (x : RunningTold). refusal_of x.refusal) e)

-- ---- the rules

module _ {width height : ℕ} (plan cells : List ℕ) {room k : ℕ} (rules : AlongRules width height plan cells room k) where
  -- They give one number ..
  pub one_number : {l : ℕ} → AlongRules width height plan cells room l → k ≡ l
  one_number {l} other = ruled_one (ruled_one (ruled_one (ruled_one (ruled_one (ruled_one passed_one))))) k l rules other

  -- .. number 0 gives every rule ..
  pub along_granted : k ≡ 0 → Costable width height plan cells room
  along_granted e =
      let a = granted rules e in
      let b = granted a.1 e in
      let c = granted b.1 e in
      let d = granted c.1 e in
      let f = granted d.1 e in
      record {
        way = record { size = a.0; sized = b.0.0; some = b.0.1; few = b.0.2; listed = c.0; joined = d.0.1 };
        edges = d.0.0;
        bytes = f.0.0;
        all_open = f.0.1;
        roomy = (granted f.1 e).0;
      }

  -- .. and where every rule holds the number is 0.
  pub along_passes : Costable width height plan cells room → k ≡ 0
  along_passes C =
      let W = C.way in
      passed_zero
      (onward C.roomy (onward (C.bytes, C.all_open) (onward (C.edges, W.joined) (onward W.listed (onward (W.sized, W.some, W.few) (onward W.size rules))))))

  -- Then the plan obeys its rules.
  pub costable_obeys : k ≡ 0 → Obeys (plan_of width height plan)
  costable_obeys e = let C = along_granted e in record { size = C.way.size; sized = C.way.sized; bytes = C.bytes; edges = C.edges }

-- Refused, and nothing is written.
pub costed_refused : (width height : ℕ) (plan cells costs : List ℕ) (e : Refusal) → AlongRules width height plan cells (length costs) (number_of e)
    → Costed width height plan cells costs (Err e) costs
costed_refused width height plan cells costs e rules = record {
  number = number_of e;
  rules = rules;
  answer = told_refused (number_of e) (length cells) (numbered e);
  refused = λ n. refl;
  done = λ z. absurd (omega (arith, numbered e, z));
  long = refl;
  rest = refl;
}
