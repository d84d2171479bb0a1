-- What the call's promise comes to: the cells reached and their number, the moves that lead out, "none", the refusals, and that nothing is left open.
use mathlib.Core.Path.{◌≡◌, refl, sym, ap, subst, ◌∙◌}
use mathlib.Core.Logic.{◌↔◌, ◌≢◌}
use mathlib.Core.List.Memᴰ
use mathlib.Core.List.{List, [], ◌∷◌, Memᴰ}
use Prim.Native.Nat.{ℕ, ◌+◌, ◌*◌, ◌/◌, ◌%◌, ◌≤◌, ◌<◌}
use native.Mathlib.Decide.{ℕ_discrete, dec_lt}
use native.Mathlib.Omega.{arith}
use lib.Arith.{digits_lt}
use lib.ListN.{length, get_or}
use lib.Seq.{ext_get_or}
use Rattle.std.specs.Prelude.{Result, Ok, Err}
use Rattle.decide.proofs.RuledLaws.{ruled_one, passed_one, passed_zero, onward}
use Rattle.refusal.specs.declared.Refusal.{Refusal}
use Rattle.refusal.specs.Numbers.{refusal_of}
use Rattle.refusal.proofs.NumberLaws.{refusal_is}
use Rattle.method.specs.Walk.{NoChain}
use Rattle.plan.specs.Costs.{Plan, plan_of, cells, Obeys}
use Rattle.plan.specs.Grid.{graph_of}
use Rattle.reach.specs.Bits.{bit_of, Marked, ones_of, sum_to}
use Rattle.reach.specs.Reachable.{Reachable, Part, Number}
use Rattle.reach.specs.Outs.{LeadsOut, Listed}
use Rattle.reach.specs.Promise.{ReachTold, reach_told, Room, ReachRules, Kept, Written, Reports}
use Rattle.reach.specs.declared.Counts.{Counts}
use Rattle.reach.proofs.BitLaws.{same_bits, row_bit, bit_of_le, ones_cells, those}
use Rattle.reach.proofs.FillLaws.{reach_self}
use Rattle.reach.proofs.OutLaws.{one_outs}
use Rattle.reach.proofs.ReportLaws.{plan_granted}

-- ---- the part and what leads out of it

module _ {p : Plan} {h : ℕ} {rows moves : List ℕ} {told : ReachTold} {rows' moves' : List ℕ} (W : Written p h rows moves told rows' moves') where
  -- A bit is 1 exactly if a chain of open moves leads there.
  pub reached_exactly : (s : ℕ) → s < cells p → Marked p.width rows' s ↔ Reachable p h s
  reached_exactly s l = (W.part.so s l, W.part.whenever s l)

  -- The sum of the ones counts is how many cells have bit 1, and how many can be reached: as many as stand in a list of them, each once.
  pub reached_count : (told.cells ≡ ones_of rows' p.height) × (told.cells ≡ sum_to (bit_of p.width rows') (cells p)) × Number (Reachable p h) (cells p) told.cells
  reached_count = (
    W.counted,
    summed,
    record {
      list = T.list;
      once = T.once;
      so = λ s i. let q = T.so s i in (q.0, W.part.so s q.0 q.1);
      whenever = λ s l R. T.whenever s l (W.part.whenever s l R);
      long = T.long ∙ sym summed;
    },
  )
    where
      summed : told.cells ≡ sum_to (bit_of p.width rows') (cells p)
      summed = W.counted ∙ ones_cells rows' p.width p.height W.part.narrow

      T : Number (Marked p.width rows') (cells p) (sum_to (bit_of p.width rows') (cells p))
      T = those (bit_of p.width rows') (bit_of_le p.width rows') (cells p)

  -- The target is not among the reached cells exactly if no chain leads there: the search's "none".
  pub none_shut_in : (t : ℕ) → t < cells p → (Marked p.width rows' t → ⊥) ↔ NoChain (graph_of p) h t
  none_shut_in t l = (
    λ n m d c. n (W.part.whenever t l (record { over = m; cost = d; chain = c })),
    λ n m. let R = W.part.so t l m in n R.over R.cost R.chain,
  )

  -- A place is listed exactly if its move is shut, stays in the plan and leads out of the part; the places rise, so that each is listed once.
  pub out_exactly : ((s d : ℕ) → d < 4 → Listed moves' told.moves (4 * s + d) ↔ LeadsOut p (Reachable p h) s d)
      × ((i j : ℕ) → i < j → j < told.moves → get_or moves' i 0 < get_or moves' j 0)
  out_exactly = (λ s d ld. exactly s d (omega arith) (omega arith), W.outs.ordered)
    where
      exactly : (s d : ℕ) → (4 * s + d) / 4 ≡ s → (4 * s + d) % 4 ≡ d → Listed moves' told.moves (4 * s + d) ↔ LeadsOut p (Reachable p h) s d
      exactly s d q m = (
        λ L. rw (L.is, q, m) at (W.outs.each L.place L.low),
        λ o. W.outs.all (4 * s + d) (omega (arith, o.stays_in.from_in)) (rw (q, m) o),
      )

  -- The hunter's own cell is among them, so the number is not 0.
  some_cells : h < cells p → told.cells ≢ 0
  some_cells l z = let N = reached_count.2 in mem_long N.list (N.whenever h l (reach_self h)) (N.long ∙ z)
    where
      mem_long : (list : List ℕ) {s : ℕ} → Memᴰ s list → length list ≡ 0 → ⊥
      mem_long [] i e = Memᴰ.not-nil i
      mem_long (x ∷ l) i e = omega arith

-- ---- the refusals

-- The rules give one number.
one_number : (width height hunter : ℕ) (plan rows moves : List ℕ) {k l : ℕ} → ReachRules width height hunter plan rows moves k → ReachRules width height hunter plan rows moves l → k ≡ l
one_number width height hunter plan rows moves {k} {l} = ruled_one (ruled_one (ruled_one (ruled_one (ruled_one (ruled_one passed_one))))) k l

-- An answer by what it tells.
by_refusal : (r : Result Counts Refusal) {k : ℕ} → (reach_told r).refusal ≡ k → k ≢ 0 → r ≡ Err (refusal_of k)
by_refusal (Ok n) e z = absurd (z (sym e))
by_refusal (Err e) q z = rw (← q) (ap Err (sym (refusal_is e)))

by_cells : (r : Result Counts Refusal) → (reach_told r).cells ≢ 0 → r ≡ Ok (record { cells = (reach_told r).cells; moves = (reach_told r).moves })
by_cells (Ok n) z = refl
by_cells (Err e) z = absurd (z refl)

module _ {width height hunter : ℕ} {plan rows moves : List ℕ} {r : Result Counts Refusal} {rows' moves' : List ℕ} (P : Reports width height hunter plan rows moves r rows' moves') where
  -- The number told is k exactly if k is the number of the first rule broken, and 0 exactly if none is.
  pub reach_number : (k : ℕ) → ((reach_told r).refusal ≡ k) ↔ ReachRules width height hunter plan rows moves k
  reach_number k = (
    λ e. subst (ReachRules width height hunter plan rows moves) (sym P.answer ∙ e) P.rules,
    λ rules. P.answer ∙ one_number width height hunter plan rows moves P.rules rules,
  )

  -- Refused by the number of the first rule broken, and nothing has changed ..
  pub reach_refused : {k : ℕ} → ReachRules width height hunter plan rows moves k → k ≢ 0 → (r ≡ Err (refusal_of k)) × (rows' ≡ rows) × (moves' ≡ moves)
  reach_refused {k} rules n =
      let e = one_number width height hunter plan rows moves P.rules rules in
      let U = P.refused (λ z. n (sym e ∙ z)) in
      (by_refusal r (P.answer ∙ e) n, U.same_rows, U.same_moves)

  granted_done : P.number ≡ 0 → (r ≡ Ok (record { cells = (reach_told r).cells; moves = (reach_told r).moves })) × Written (plan_of width height plan) hunter rows moves (reach_told r) rows' moves'
  granted_done z = let W = P.done z in (by_cells r (some_cells W (plan_granted {plan = plan} P.rules z).0.1), W)

  -- .. and where no rule is broken, the part and what leads out of it are written.
  pub reach_done : Obeys (plan_of width height plan) → hunter < height * width → Room (plan_of width height plan) hunter rows moves
      → (r ≡ Ok (record { cells = (reach_told r).cells; moves = (reach_told r).moves })) × Written (plan_of width height plan) hunter rows moves (reach_told r) rows' moves'
  reach_done O l m = granted_done (passed_zero (onward m (onward O.bytes (onward O.edges (onward l (onward O.sized (onward O.size P.rules)))))))

-- ---- one result

one_bit : {x y : ℕ} → x ≤ 1 → y ≤ 1 → (x ≡ 1 → y ≡ 1) → (y ≡ 1 → x ≡ 1) → x ≡ y
one_bit {x} {y} a b f g = at (ℕ_discrete x 1) (ℕ_discrete y 1)
  where
    at : Dec (x ≡ 1) → Dec (y ≡ 1) → x ≡ y
    at (yes e) q = e ∙ sym (f e)
    at (no n) (yes e) = absurd (n (g e))
    at (no n) (no m) = omega arith

-- Two lists of which the same first ones are written.
kept_same : {n : ℕ} {before a b : List ℕ} → Kept n before a → Kept n before b → ((i : ℕ) → i < n → get_or a i 0 ≡ get_or b i 0) → a ≡ b
kept_same {n} {before} {a} {b} K L h = ext_get_or 0 a b (K.long ∙ sym L.long) (λ i l. at i (dec_lt i n))
  where
    at : (i : ℕ) → Dec (i < n) → get_or a i 0 ≡ get_or b i 0
    at i (yes l) = h i l
    at i (no m) = K.rest i (omega arith) ∙ sym (L.rest i (omega arith))

-- A part has one row of bits for each of the plan's rows.
pub one_part : {p : Plan} {h : ℕ} {a b : List ℕ} → Part p h a → Part p h b → (i : ℕ) → i < p.height → get_or a i 0 ≡ get_or b i 0
one_part {p} {h} {a} {b} A B i l =
    same_bits p.width (get_or a i 0) (get_or b i 0) (A.narrow i l) (B.narrow i l)
    (λ c k. sym (row_bit p.width a i k) ∙ bits (i * p.width + c) (digits_lt {q = i} {m = p.height} {r = c} {c = p.width} l k) ∙ row_bit p.width b i k)
  where
    bits : (s : ℕ) → s < cells p → bit_of p.width a s ≡ bit_of p.width b s
    bits s l = one_bit (bit_of_le p.width a s) (bit_of_le p.width b s) (λ m. B.whenever s l (A.so s l m)) (λ m. A.whenever s l (B.so s l m))

module _ {p : Plan} {h : ℕ} {rows moves : List ℕ} {t₁ t₂ : ReachTold} {rows₁ moves₁ rows₂ moves₂ : List ℕ}
    (A : Written p h rows moves t₁ rows₁ moves₁) (B : Written p h rows moves t₂ rows₂ moves₂) where
  rows_same : rows₁ ≡ rows₂
  rows_same = kept_same A.rows_kept B.rows_kept (one_part A.part B.part)

  cells_same : t₁.cells ≡ t₂.cells
  cells_same = A.counted ∙ ap (λ x. ones_of x p.height) rows_same ∙ sym B.counted

  count_same : t₁.moves ≡ t₂.moves
  count_same = (one_outs A.outs B.outs).0

  moves_same : moves₁ ≡ moves₂
  moves_same = kept_same A.moves_kept (rw (← count_same) at B.moves_kept) (one_outs A.outs B.outs).1

-- Two results that the promise allows are equal: the answer, every row and every move.
pub one_reach : {width height hunter : ℕ} {plan rows moves : List ℕ} {r₁ r₂ : Result Counts Refusal} {rows₁ moves₁ rows₂ moves₂ : List ℕ}
    → Reports width height hunter plan rows moves r₁ rows₁ moves₁ → Reports width height hunter plan rows moves r₂ rows₂ moves₂ → (r₁ ≡ r₂) × (rows₁ ≡ rows₂) × (moves₁ ≡ moves₂)
one_reach {r₁ = r₁} {r₂ = r₂} {rows₁ = rows₁} {moves₁ = moves₁} {rows₂ = rows₂} {moves₂ = moves₂} P Q = at (ℕ_discrete P.number 0)
  where
    e : Q.number ≡ P.number
    e = one_number _ _ _ _ _ _ Q.rules P.rules

    at : Dec (P.number ≡ 0) → (r₁ ≡ r₂) × (rows₁ ≡ rows₂) × (moves₁ ≡ moves₂)
    at (yes z) =
        let A = granted_done P z in
        let B = granted_done Q (e ∙ z) in
        (A.0 ∙ rw (cells_same A.1 B.1, count_same A.1 B.1) (sym B.0), rows_same A.1 B.1, moves_same A.1 B.1)
    at (no n) =
        let a = reach_refused P P.rules n in
        let b = reach_refused Q P.rules n in
        (a.0 ∙ sym b.0, a.1 ∙ sym b.1, a.2 ∙ sym b.2)
