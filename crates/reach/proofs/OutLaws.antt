-- The shut moves that lead out, as the walk over the places finds them; two lists of them are equal.
use mathlib.Core.Path.{◌≡◌, refl, ap, ◌∙◌}
use mathlib.Core.Bool.{Bool, true, false, not}
use mathlib.Core.List.{List}
use Prim.Native.Nat.{ℕ, zero, suc, ◌+◌, ◌/◌, ◌%◌, ◌≤◌, ◌<◌}
use native.Mathlib.Decide.{ℕ_discrete, dec_lt}
use native.Mathlib.Omega.{arith}
use lib.ListN.{length, get_or, set}
use lib.Seq.{get_or-set_same, get_or-set_other}
use borrow.Author.Count.{below_more}
use borrow.Author.Tests.{not-true}
use Rattle.decide.specs.Decides.{Decides}
use Rattle.decide.proofs.DecideLaws.{refuted}
use Rattle.plan.specs.Cells.{Stays, entered}
use Rattle.plan.specs.Costs.{Plan, cells, byte, shut, Obeys}
use Rattle.plan.proofs.CellLaws.{enters}
use Rattle.reach.specs.Outs.{LeadsOut, Listed, Outs}

-- ---- one move

-- Shut, inside the plan and from a cell of the part: it leads out exactly if the cell that it enters is not of the part.
pub leads : {p : Plan} {In : ℕ → Type 0} {s d : ℕ} {q : Bool} → In s → Stays p.width p.height s d → byte p s d ≡ shut
    → Decides q (In (entered p.width s d)) → Decides (not q) (LeadsOut p In s d)
leads {q = q} i m e D = record { so = λ n. record { within = i; stays_in = m; is_shut = e; leaves = refuted D (not-true q n) }; whenever = λ o. flip q (λ t. o.leaves (D.so t)) }
  where
    flip : (x : Bool) → (x ≡ true → ⊥) → not x ≡ true
    flip true h = absurd (h refl)
    flip false h = refl

leads_as : {p : Plan} {In Is : ℕ → Type 0} {s d : ℕ} → Obeys p → ((s : ℕ) → s < cells p → In s → Is s) → ((s : ℕ) → s < cells p → Is s → In s)
    → LeadsOut p In s d → LeadsOut p Is s d
leads_as {p} {s = s} {d = d} O f g o = record {
  within = f s o.stays_in.from_in o.within;
  stays_in = o.stays_in;
  is_shut = o.is_shut;
  leaves = λ i. o.leaves (g (entered p.width s d) (enters O.size.wide o.stays_in).inside i);
}

-- ---- the walk

module _ {p : Plan} {In : ℕ → Type 0} where
  module _ {list : List ℕ} {count place : ℕ} (O : Outs p In list count place) where
    pub outs_put : count < length list → LeadsOut p In (place / 4) (place % 4) → Outs p In (set list count place) (count + 1) (place + 1)
    outs_put room o = record {
      few = omega (arith, O.few);
      below = below_more (λ i. get_or (set list count place) i 0 < place + 1) count (λ i l. rw (kept i l) (omega (arith, O.below i l))) (rw last_is (omega arith));
      each = below_more (λ i. LeadsOut p In (get_or (set list count place) i 0 / 4) (get_or (set list count place) i 0 % 4)) count
          (λ i l. rw (kept i l) (O.each i l)) (rw last_is o);
      all = below_more (λ x. LeadsOut p In (x / 4) (x % 4) → Listed (set list count place) (count + 1) x) place
          (λ x l k. later (O.all x l k)) (λ k. record { place = count; low = omega arith; is = last_is });
      ordered = λ i j l m. ordered j m i l;
    }
      where
        last_is : get_or (set list count place) count 0 ≡ place
        last_is = get_or-set_same list count place 0 room

        kept : (i : ℕ) → i < count → get_or (set list count place) i 0 ≡ get_or list i 0
        kept i l = get_or-set_other list count i place 0 (λ e. omega arith)

        later : {x : ℕ} → Listed list count x → Listed (set list count place) (count + 1) x
        later L = record { place = L.place; low = omega (arith, L.low); is = kept L.place L.low ∙ L.is }

        ordered : (j : ℕ) → j < count + 1 → (i : ℕ) → i < j → get_or (set list count place) i 0 < get_or (set list count place) j 0
        ordered =
            below_more (λ j. (i : ℕ) → i < j → get_or (set list count place) i 0 < get_or (set list count place) j 0) count
            (λ j m i l. rw (kept i (omega arith), kept j m) (O.ordered i j l m))
            (λ i l. rw (kept i l, last_is) (O.below i l))

  -- No list of them is shorter: each stands in it at its own number or later.
  module _ {l m : List ℕ} {k n z : ℕ} (A : Outs p In l k z) (B : Outs p In m n z) where
    found : (i : ℕ) → i < k → Listed m n (get_or l i 0)
    found i lt = B.all (get_or l i 0) (A.below i lt) (A.each i lt)

    step : {a b i : ℕ} (L : Listed m n a) (M : Listed m n b) → a < b → i ≤ L.place → suc i ≤ M.place
    step {a} {b} {i} L M lt h = at (dec_lt L.place M.place)
      where
        equal : Dec (L.place ≡ M.place) → M.place ≤ L.place → ⊥
        equal (yes e) q = omega (arith, L.is, M.is, ap (λ x. get_or m x 0) e)
        equal (no e) q = omega (arith, L.is, M.is, B.ordered M.place L.place (omega arith) L.low)

        at : Dec (L.place < M.place) → suc i ≤ M.place
        at (yes q) = omega arith
        at (no q) = absurd (equal (ℕ_discrete L.place M.place) (omega arith))

    later : (i : ℕ) (lt : i < k) → i ≤ (found i lt).place
    later zero lt = omega arith
    later (suc i) lt = let lt' : i < k = omega arith in step (found i lt') (found (suc i) lt) (A.ordered i (suc i) (omega arith) lt) (later i lt')

    pub fewest : k ≤ n
    fewest = at k refl
      where
        at : (x : ℕ) → x ≡ k → k ≤ n
        at zero e = omega arith
        at (suc x) e = let lt : x < k = omega arith in omega (arith, later x lt, (found x lt).low)

    -- and the one at a number is no greater
    at_most : (i : ℕ) → i < k → get_or m i 0 ≤ get_or l i 0
    at_most i lt = at (ℕ_discrete i (found i lt).place)
      where
        at : Dec (i ≡ (found i lt).place) → get_or m i 0 ≤ get_or l i 0
        at (yes e) = omega (arith, ap (λ x. get_or m x 0) e, (found i lt).is)
        at (no e) = omega (arith, B.ordered i (found i lt).place (omega (arith, later i lt)) (found i lt).low, (found i lt).is)

-- So a part has one list of them.
pub one_outs : {p : Plan} {In : ℕ → Type 0} {l m : List ℕ} {k n z : ℕ} → Outs p In l k z → Outs p In m n z → (k ≡ n) × ((i : ℕ) → i < k → get_or l i 0 ≡ get_or m i 0)
one_outs {k = k} {n = n} A B =
    let e : k ≡ n = omega (arith, fewest A B, fewest B A) in
    (e, λ i l. omega (arith, at_most A B i l, at_most B A i (omega (arith, e))))

-- The same places in another list, for a part of the same cells.
pub outs_as : {p : Plan} {In Is : ℕ → Type 0} {list : List ℕ} {count n : ℕ} (list' : List ℕ) → Obeys p → ((s : ℕ) → s < cells p → In s → Is s) → ((s : ℕ) → s < cells p → Is s → In s)
    → ((i : ℕ) → i < count → get_or list' i 0 ≡ get_or list i 0) → Outs p In list count n → Outs p Is list' count n
outs_as {list = list} {count = count} list' Q f g same O = record {
  few = O.few;
  below = λ i l. rw (same i l) (O.below i l);
  each = λ i l. rw (same i l) (leads_as Q f g (O.each i l));
  all = λ x l o. there (O.all x l (leads_as Q g f o));
  ordered = λ i j l m. rw (same i (omega arith), same j m) (O.ordered i j l m);
}
  where
    there : {x : ℕ} → Listed list count x → Listed list' count x
    there L = record { place = L.place; low = L.low; is = same L.place L.low ∙ L.is }
