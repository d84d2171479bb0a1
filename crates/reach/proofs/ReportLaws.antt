-- The call's answers by what its parts found.
use mathlib.Core.Path.{◌≡◌, refl, sym, ap, ◌∙◌}
use mathlib.Core.Logic.{◌≢◌}
use mathlib.Core.List.{List, ◌++◌}
use Prim.Native.Nat.{ℕ, zero, suc, ◌-◌, ◌*◌, ◌/◌, ◌%◌, ◌≤◌, ◌<◌}
use native.Mathlib.Omega.{arith}
use lib.ListN.{length, length-append, take, drop, get_or}
use Rattle.std.specs.Prelude.{Ok, Err, sum_by}
use Rattle.std.specs.Int.Count.{ones}
use Rattle.std.proofs.Math.Seq.{take-suc}
use Rattle.std.proofs.lemmas.List.{get_or_append_left, get_or-append_right, get_or-take, get_or-drop, length-take-le, length-drop}
use Rattle.std.proofs.lemmas.List.Sums.{sum_by-append}
use Rattle.refusal.specs.declared.Refusal.{Refusal}
use Rattle.refusal.specs.declared.Refusal.TheVariants.{Room as NoRoom}
use Rattle.refusal.specs.Numbers.{number_of}
use Rattle.refusal.proofs.NumberLaws.{numbered}
use Rattle.decide.specs.Ruled.{fails, holds, Passed, passed}
use Rattle.decide.proofs.RuledLaws.{granted, further, passed_not}
use Rattle.plan.specs.Costs.{Plan, plan_of, cells, Obeys}
use Rattle.plan.proofs.CellLaws.{row_lt}
use Rattle.reach.specs.Bits.{bit, bit_of, Marked, ones_of, sum_to}
use Rattle.reach.specs.Reachable.{Reachable, Part}
use Rattle.reach.specs.Outs.{Outs}
use Rattle.reach.specs.Promise.{PlanRules, Room, Kept, Reports}
use Rattle.reach.proofs.BitLaws.{sum_same}
use Rattle.reach.proofs.OutLaws.{outs_as, fewest}

-- The part rests on the plan's rows alone.
part_same : {p : Plan} {h : ℕ} {rows : List ℕ} (rows' : List ℕ) → Obeys p → ((r : ℕ) → r < p.height → get_or rows' r 0 ≡ get_or rows r 0) → Part p h rows → Part p h rows'
unfolding bit_of
part_same {p} {h} {rows} rows' O same P = record {
  so = λ s l m. P.so s l (sym (bits s l) ∙ m);
  whenever = λ s l R. bits s l ∙ P.whenever s l R;
  narrow = λ r l. rw (same r l) (P.narrow r l);
}
  where
    bits : (s : ℕ) → s < cells p → bit (get_or rows' (s / p.width) 0) (s % p.width) ≡ bit (get_or rows (s / p.width) 0) (s % p.width)
    bits s l = rw (same (s / p.width) (row_lt O.size.wide l)) refl

-- ---- the copies

-- The first n are those of another list, the rest stays.
record Copied (from to : List ℕ) (n : ℕ) (to' : List ℕ) : Type 0 where
  first : (i : ℕ) → i < n → get_or to' i 0 ≡ get_or from i 0
  kept : Kept n to to'

copied : {from to : List ℕ} (n : ℕ) → n ≤ length from → n ≤ length to → Copied from to n (take n from ++ drop n to)
copied {from} {to} n lf lt =
    let long : length (take n from) ≡ n = length-take-le n from lf in
    record {
      first = λ i l. get_or_append_left (take n from) (drop n to) 0 i (omega arith) ∙ get_or-take n from i 0 l;
      kept = record {
        long = length-append (take n from) (drop n to) ∙ omega (arith, long, length-drop n to);
        rest = λ i l. get_or-append_right (take n from) (drop n to) n i 0 long l ∙ get_or-drop n to (i - n) 0 ∙ ap (λ k. get_or to k 0) (omega arith);
      };
    }

-- The ones of the first rows, row by row.
ones_first : (rows : List ℕ) (n : ℕ) → n ≤ length rows → sum_by ones (take n rows) ≡ ones_of rows n
unfolding sum_to
ones_first rows zero l = refl
ones_first rows (suc n) l =
    let h = ones_first rows n (omega arith) in rw (take-suc rows n 0 l, sum_by-append ones) (omega (arith, h))

-- ---- the answers

-- A plan that breaks a rule.
pub reports_refused : (width height hunter : ℕ) (plan rows moves : List ℕ) (e : Refusal) → PlanRules width height hunter plan Passed (number_of e)
    → Reports width height hunter plan rows moves (Err e) rows moves
reports_refused width height hunter plan rows moves e R = record {
  number = number_of e;
  rules = further (further (further (further (further passed_not)))) R some;
  answer = refl;
  refused = λ _. record { no_cells = refl; no_moves = refl; same_rows = refl; same_moves = refl };
  done = λ z. absurd (some z);
}
  where
    some : number_of e ≢ 0
    some = omega (arith, numbered e)

-- A plan that breaks none.
pub plan_granted : {width height hunter : ℕ} {plan : List ℕ} {rest : ℕ → Type 0} {number : ℕ} → PlanRules width height hunter plan rest number → number ≡ 0
    → (Obeys (plan_of width height plan) × (hunter < height * width)) × rest number
plan_granted R e =
    let a = granted R e in
    let b = granted a.1 e in
    let c = granted b.1 e in
    let d = granted c.1 e in
    let f = granted d.1 e in
    ((record { size = a.0; sized = b.0; bytes = f.0; edges = d.0 }, c.0), f.1)

module _ {width height hunter : ℕ} {plan : List ℕ} (rows moves : List ℕ) (O : Obeys (plan_of width height plan)) (lh : hunter < height * width) where
  by_rules : {rest : ℕ → Type 0} {k : ℕ} → rest k → PlanRules width height hunter plan rest k
  by_rules r = holds O.size (holds O.sized (holds lh (holds O.edges (holds O.bytes r))))

  no_room : (Room (plan_of width height plan) hunter rows moves → ⊥) → Reports width height hunter plan rows moves (Err NoRoom) rows moves
  no_room n = record {
    number = 7;
    rules = by_rules (fails n);
    answer = refl;
    refused = λ _. record { no_cells = refl; no_moves = refl; same_rows = refl; same_moves = refl };
    done = λ e. absurd (omega arith);
  }

  pub few_rows : length rows < height → Reports width height hunter plan rows moves (Err NoRoom) rows moves
  few_rows l = no_room (λ R. omega (arith, R.for_rows))

  module _ {bits outs : List ℕ} {count : ℕ} (P : Part (plan_of width height plan) hunter bits)
      (U : Outs (plan_of width height plan) (Marked width bits) outs count (4 * (height * width))) where
    found : (list : List ℕ) → ((i : ℕ) → i < count → get_or list i 0 ≡ get_or outs i 0) → Outs (plan_of width height plan) (Reachable (plan_of width height plan) hunter) list count (4 * (height * width))
    found list same = outs_as list O P.so P.whenever same U

    pub few_moves : length moves < count → Reports width height hunter plan rows moves (Err NoRoom) rows moves
    few_moves l = no_room (λ R. omega (arith, R.for_moves outs count (found outs (λ i _. refl))))

    pub written : {first moved : List ℕ} {number : ℕ} → height ≤ length rows → count ≤ length moves → height ≤ length bits → count ≤ length outs
        → first ≡ take height bits → moved ≡ take count outs → number ≡ sum_by ones (take height bits)
        → Reports width height hunter plan rows moves (Ok (record { cells = number; moves = count })) (first ++ drop height rows) (moved ++ drop count moves)
    written lr lm lb lo a b e = rw (a, b) (done (copied height lb lr) (copied count lo lm) (e ∙ ones_first bits height lb))
      where
        done : {rows' moves' : List ℕ} {number : ℕ} → Copied bits rows height rows' → Copied outs moves count moves' → number ≡ ones_of bits height
            → Reports width height hunter plan rows moves (Ok (record { cells = number; moves = count })) rows' moves'
        done {rows'} {moves'} A B e = record {
          number = 0;
          rules = by_rules (holds (record { for_rows = lr; for_moves = λ l n W. room n (fewest W (found outs (λ i _. refl))) }) passed);
          answer = refl;
          refused = λ n. absurd (n refl);
          done = λ _. record {
            part = part_same rows' O A.first P;
            counted = e ∙ sum_same (λ r. ones (get_or bits r 0)) (λ r. ones (get_or rows' r 0)) height (λ i l. ap ones (sym (A.first i l)));
            outs = found moves' B.first;
            rows_kept = A.kept;
            moves_kept = B.kept;
          };
        }
          where
            room : (n : ℕ) → n ≤ count → n ≤ length moves
            room n l = omega arith
