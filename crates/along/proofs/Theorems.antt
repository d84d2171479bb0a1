-- What the statement of `along` settles: its answer and every cost; and that the cost at each listed cell is that of the chain of open moves up to it.
use mathlib.Core.Path.{◌≡◌, refl, sym, ap, subst, ◌∙◌}
use mathlib.Core.Logic.{◌≢◌, ◌↔◌}
use mathlib.Core.List.{List, [], ◌∷◌, ◌++◌}
use Prim.Native.Nat.{ℕ, zero, suc, ◌≤◌, ◌<◌}
use native.Mathlib.Omega.{arith}
use native.Mathlib.Decide.{ℕ_discrete}
use lib.ListN.{length, get_or, take, drop, take-append-drop}
use lib.Seq.{take-suc, length-take-le, ext_get_or, get_or-take}
use Rattle.method.specs.Walk.{Chain, stay}
use Rattle.method.proofs.Answers.{chain_more}
use Rattle.std.specs.Prelude.{Result, Ok, Err}
use Rattle.refusal.specs.declared.Refusal.{Refusal}
use Rattle.refusal.specs.Numbers.{refusal_of}
use Rattle.plan.specs.Costs.{Plan, plan_of}
use Rattle.plan.specs.Grid.{graph_of}
use Rattle.plan.proofs.TowardLaws.{leads_open}
use Rattle.along.specs.Along.{RunningTold, running_told, told_running, cell_at, Joined, Runs, AlongRules, Costable, Costed}
use Rattle.along.proofs.AlongLaws.{open_cost, ran, ran_is, one_number, along_granted, along_passes}

-- ---- the answer

module _ {width height : ℕ} {plan cells costs costs' : List ℕ} {r : Result ℕ Refusal} (P : Costed width height plan cells costs r costs') where
  -- The answer as the code returns it.
  pub along_answer : r ≡ ran P.number (length cells)
  along_answer = ran_is r P.number (length cells) (λ z. (along_granted plan cells P.rules z).way.some) P.answer

  -- Refused by the number of the first rule broken, and nothing has changed ..
  pub along_refused : {k : ℕ} → AlongRules width height plan cells (length costs) k → k ≢ 0 → (r ≡ Err (refusal_of k)) × (costs' ≡ costs)
  along_refused {k} rules n =
      let e = one_number plan cells P.rules rules in
      (along_answer ∙ by k e n, P.refused (λ z. n (sym e ∙ z)))
    where
      by : (k : ℕ) → P.number ≡ k → k ≢ 0 → ran P.number (length cells) ≡ Err (refusal_of k)
      by zero e n = absurd (n refl)
      by (suc k) e n = ap (λ x. ran x (length cells)) e

  -- .. and where no rule is broken, the running costs are written.
  pub along_done : Costable width height plan cells (length costs) → (r ≡ Ok (length cells)) × Runs (plan_of width height plan) cells costs'
  along_done C =
      let z = along_passes plan cells P.rules C in
      (along_answer ∙ ap (λ x. ran x (length cells)) z, P.done z)

  -- The number told is k exactly if k is the number of the first rule broken, and 0 exactly if none is.
  pub along_number : (k : ℕ) → ((running_told r).refusal ≡ k) ↔ AlongRules width height plan cells (length costs) k
  along_number k = (λ e. subst (AlongRules width height plan cells (length costs)) (sym told ∙ e) P.rules, λ rules. told ∙ one_number plan cells P.rules rules)
    where
      by : (k n : ℕ) → (told_running k n).refusal ≡ k
      by zero n = refl
      by (suc k) n = refl

      told : (running_told r).refusal ≡ P.number
      told = ap (λ (x : RunningTold). x.refusal) P.answer ∙ by P.number (length cells)

-- ---- one result

-- Costs that run along the same neighbours are the same.
one_run : {p : Plan} {cells a b : List ℕ} → Joined p cells → Runs p cells a → Runs p cells b → (i : ℕ) → i < length cells → get_or a i 0 ≡ get_or b i 0
one_run J R S zero l = R.first ∙ sym S.first
one_run J R S (suc i) l =
    let n = J i l in
    omega (arith, R.next i n.direction l n.leads, S.next i n.direction l n.leads, one_run J R S i (omega arith))

-- Two lists with the same first n entries and the same behind them are one.
same_list : (n : ℕ) (a b : List ℕ) → n ≤ length a → length a ≡ length b → ((i : ℕ) → i < n → get_or a i 0 ≡ get_or b i 0) → drop n a ≡ drop n b → a ≡ b
same_list n a b l e h rest = sym (take-append-drop n a) ∙ ap (λ (x : List ℕ). x ++ drop n a) first ∙ ap (λ (x : List ℕ). take n b ++ x) rest ∙ take-append-drop n b
  where
    short : length (take n a) ≡ n
    short = length-take-le n a l

    first : take n a ≡ take n b
    first =
        ext_get_or 0 (take n a) (take n b) (short ∙ sym (length-take-le n b (omega arith)))
        (λ i m. let k : i < n = omega (arith, short) in get_or-take n a i 0 k ∙ h i k ∙ sym (get_or-take n b i 0 k))

-- Two results that the statement allows are equal, every cost and what lies behind them too.
pub one_along : {width height : ℕ} {plan cells costs a b : List ℕ} {r s : Result ℕ Refusal}
    → Costed width height plan cells costs r a → Costed width height plan cells costs s b → (r ≡ s) × (a ≡ b)
one_along {plan = plan} {cells = cells} {a = a} {b = b} P Q =
    (along_answer P ∙ ap (λ x. ran x (length cells)) e ∙ sym (along_answer Q), at (ℕ_discrete P.number 0))
  where
    e : P.number ≡ Q.number
    e = one_number plan cells P.rules Q.rules

    at : Dec (P.number ≡ 0) → a ≡ b
    at (yes z) =
        let C = along_granted plan cells P.rules z in
        same_list (length cells) a b (omega (arith, C.roomy, P.long)) (P.long ∙ sym Q.long)
        (one_run C.way.joined (P.done z) (Q.done (sym e ∙ z)))
        (P.rest ∙ sym Q.rest)
    at (no n) = P.refused n ∙ sym (Q.refused (λ z. n (e ∙ z)))

-- ---- the cost at each cell

-- Up to each listed cell the list is a chain of open moves, and the running cost is its cost.
chain_to : {width height room : ℕ} {plan cells costs : List ℕ} → Costable width height plan cells room → Runs (plan_of width height plan) cells costs → (i : ℕ) → i < length cells
    → Chain (graph_of (plan_of width height plan)) (cell_at cells 0) (take (suc i) cells) (cell_at cells i) (get_or costs i 0)
chain_to {width} {height} {room} {plan} {cells} {costs} C R zero l =
    let G = graph_of (plan_of width height plan) in
    let a = cell_at cells 0 in
    subst (λ (w : List ℕ). Chain G a w a (get_or costs 0 0)) (sym (take-suc cells 0 0 l)) (subst (Chain G a (a ∷ []) a) (sym R.first) stay)
chain_to {width} {height} {room} {plan} {cells} {costs} C R (suc i) l =
    let p = plan_of width height plan in
    let G = graph_of p in
    let b = cell_at cells (suc i) in
    let n = C.way.joined i l in
    let d = n.direction in
    let w = chain_more (chain_to C R i (omega arith)) (leads_open p C.way.size.wide n.leads (open_cost C i d l n.leads)) in
    subst (λ (x : List ℕ). Chain G (cell_at cells 0) x b (get_or costs (suc i) 0)) (sym (take-suc cells (suc i) 0 l))
    (subst (Chain G (cell_at cells 0) (take (suc i) cells ++ (b ∷ [])) b) (sym (R.next i d l n.leads)) w)

-- The cost written at each listed cell is that of the chain of open moves up to it.
pub along_costs : {width height n : ℕ} {plan cells costs costs' : List ℕ} {r : Result ℕ Refusal} → Costed width height plan cells costs r costs' → r ≡ Ok n → (i : ℕ) → i < length cells
    → Chain (graph_of (plan_of width height plan)) (cell_at cells 0) (take (suc i) cells) (cell_at cells i) (get_or costs' i 0)
along_costs {plan = plan} {cells = cells} P e =
    let C = along_granted plan cells ((along_number P 0).0 (ap (λ (x : Result ℕ Refusal). (running_told x).refusal) e)) refl in
    chain_to C (along_done P C).1
