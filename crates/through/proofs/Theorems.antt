-- What the statement of `through` settles: its number, and that the cost is the least of any walk through the move, or that there is none.
use mathlib.Core.Path.{◌≡◌, refl, sym, ap, subst, ◌∙◌}
use mathlib.Core.Logic.{◌≢◌, ◌↔◌}
use mathlib.Core.List.{List}
use Prim.Native.Nat.{ℕ}
use native.Mathlib.Omega.{arith}
use native.Mathlib.Decide.{ℕ_discrete}
use Rattle.std.specs.Prelude.{Option, Some, None, Result, Ok, Err}
use Rattle.refusal.specs.declared.Refusal.{Refusal}
use Rattle.refusal.specs.Numbers.{refusal_of}
use Rattle.refusal.proofs.NumberLaws.{refusal_is}
use Rattle.plan.specs.Cells.{entered}
use Rattle.plan.specs.Costs.{Plan, plan_of}
use Rattle.through.specs.Through.{LeastThrough, NoneThrough, Askable, ThroughRules, ThroughTold, through_told, Answers, Passes}
use Rattle.through.proofs.ThroughLaws.{through_one, through_passes}

-- ---- one answer

-- The least cost through a move is one number.
one_least : {p : Plan} {h t u v d e : ℕ} → LeastThrough p h t u v d → LeastThrough p h t u v e → d ≡ e
one_least A B = omega (arith, A.least _ _ B.leads B.uses, B.least _ _ A.leads A.uses)

-- Two answers of which each is right are one.
one_answer : (p : Plan) (h t u v : ℕ) (r s : Result (Option ℕ) Refusal) → Answers p h t u v r → Answers p h t u v s → r ≡ s
one_answer p h t u v (Ok (Some d)) (Ok (Some e)) A B = ap (λ x. Ok (Some x)) (one_least A B)
one_answer p h t u v (Ok (Some d)) (Ok None) A B = absurd (B _ _ A.leads A.uses)
one_answer p h t u v (Ok None) (Ok (Some e)) A B = absurd (A _ _ B.leads B.uses)
one_answer p h t u v (Ok None) (Ok None) A B = refl
one_answer p h t u v (Ok x) (Err k) A B = absurd B
one_answer p h t u v (Err k) s A B = absurd A

-- An answer that tells a refusal's number only is that refusal.
abbrev told_refusal : ℕ → ThroughTold
told_refusal k = record { refusal = k; walk = 0; cost = 0 }

refused_is : (r : Result (Option ℕ) Refusal) {k : ℕ} → k ≢ 0 → through_told r ≡ told_refusal k → r ≡ Err (refusal_of k)
refused_is (Ok (Some d)) n e = absurd (n (sym (ap (λ (x : ThroughTold). x.refusal) e)))
refused_is (Ok None) n e = absurd (n (sym (ap (λ (x : ThroughTold). x.refusal) e)))
refused_is (Err q) n e = ap Err (sym (refusal_is q) ∙ ap (λ (x : ThroughTold). refusal_of x.refusal) e)

module _ {width height hunter target : ℕ} {plan : List ℕ} {cell direction : ℕ} {r : Result (Option ℕ) Refusal} (P : Passes width height hunter target plan cell direction r) where
  -- Refused by the number of the first rule broken, and nothing else is told ..
  pub through_refused_told : {k : ℕ} → ThroughRules width height hunter target plan cell direction k → k ≢ 0 → through_told r ≡ record { refusal = k; walk = 0; cost = 0 }
  through_refused_told rules n =
      let e = through_one plan P.rules rules in
      P.refused (λ z. n (sym e ∙ z)) ∙ ap told_refusal e

  pub through_refused : {k : ℕ} → ThroughRules width height hunter target plan cell direction k → k ≢ 0 → r ≡ Err (refusal_of k)
  through_refused rules n = refused_is r n (through_refused_told rules n)

  -- .. and where no rule is broken, answered.
  pub through_done : Askable width height hunter target plan cell direction → Answers (plan_of width height plan) hunter target cell (entered width cell direction) r
  through_done A = P.done (through_passes plan P.rules A)

  told : (through_told r).refusal ≡ P.number
  told = at (ℕ_discrete P.number 0)
    where
      not_refused : (r : Result (Option ℕ) Refusal) → Answers (plan_of width height plan) hunter target cell (entered width cell direction) r → (through_told r).refusal ≡ 0
      not_refused (Ok (Some d)) A = refl
      not_refused (Ok None) A = refl
      not_refused (Err k) A = absurd A

      at : Dec (P.number ≡ 0) → (through_told r).refusal ≡ P.number
      at (yes z) = not_refused r (P.done z) ∙ sym z
      at (no n) = ap (λ (x : ThroughTold). x.refusal) (P.refused n)

  -- The number told is k exactly if k is the number of the first rule broken, and 0 exactly if none is.
  pub through_number : (k : ℕ) → ((through_told r).refusal ≡ k) ↔ ThroughRules width height hunter target plan cell direction k
  through_number k = (λ e. subst (ThroughRules width height hunter target plan cell direction) (sym told ∙ e) P.rules, λ rules. told ∙ through_one plan P.rules rules)

  -- Where no rule is broken: the cost is d exactly if d is the least of any walk through the move, ..
  pub least_walk : Askable width height hunter target plan cell direction → (d : ℕ) → (r ≡ Ok (Some d)) ↔ LeastThrough (plan_of width height plan) hunter target cell (entered width cell direction) d
  least_walk A d = (
    λ e. subst (Answers (plan_of width height plan) hunter target cell (entered width cell direction)) e (through_done A),
    λ L. one_answer (plan_of width height plan) hunter target cell (entered width cell direction) r (Ok (Some d)) (through_done A) L,
  )

  -- .. and there is "no walk" exactly if no chain of open moves uses it.
  pub no_walk : Askable width height hunter target plan cell direction → (r ≡ Ok None) ↔ NoneThrough (plan_of width height plan) hunter target cell (entered width cell direction)
  no_walk A = (
    λ e. subst (Answers (plan_of width height plan) hunter target cell (entered width cell direction)) e (through_done A),
    λ L. one_answer (plan_of width height plan) hunter target cell (entered width cell direction) r (Ok None) (through_done A) L,
  )

-- Two results that the statement allows are equal.
pub one_through : {width height hunter target : ℕ} {plan : List ℕ} {cell direction : ℕ} {r s : Result (Option ℕ) Refusal} → Passes width height hunter target plan cell direction r
    → Passes width height hunter target plan cell direction s → r ≡ s
one_through {width} {height} {hunter} {target} {plan} {cell} {direction} {r} {s} P Q = at (ℕ_discrete P.number 0)
  where
    e : P.number ≡ Q.number
    e = through_one plan P.rules Q.rules

    at : Dec (P.number ≡ 0) → r ≡ s
    at (yes z) = one_answer (plan_of width height plan) hunter target cell (entered width cell direction) r s (P.done z) (Q.done (sym e ∙ z))
    at (no n) = through_refused P P.rules n ∙ sym (through_refused Q P.rules n)
