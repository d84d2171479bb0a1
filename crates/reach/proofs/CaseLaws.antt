-- Small plans by computation: tests that give a part and the moves that lead out of it, and what the call answers on four of them.
use mathlib.Core.Path.{◌≡◌, refl, sym, ap, subst, ◌∙◌}
use mathlib.Core.Bool.{Bool, true, false, not, ◌&&◌, ◌||◌}
use mathlib.Core.Logic.Dec
use mathlib.Core.Logic.{◌≢◌}
use mathlib.Core.List.{List, [], ◌∷◌}
use Prim.Native.Nat.{ℕ, zero, suc, ◌*◌, ◌/◌, ◌%◌, ◌^◌, ◌≤◌, ◌<◌}
use native.Mathlib.Decide.{ℕ_discrete, dec_lt}
use native.Mathlib.Omega.{arith}
use lib.Dec.{T, ltb, eqb, ltb→lt, eqb→eq, eqb_refl, T_not}
use lib.Count.{ones}
use lib.ListN.{get_or}
use Rattle.plan.specs.Directions.{shifts}
use Rattle.plan.specs.Cells.{Stays, stays, entered}
use Rattle.plan.specs.Costs.{Plan, plan_of, cells, byte, shut, Obeys}
use Rattle.reach.specs.Bits.{bit, bit_of, Marked, ones_of, sum_to}
use Rattle.reach.specs.Reachable.{Reachable, Part}
use Rattle.reach.specs.Outs.{LeadsOut, Listed, Outs}
use Rattle.reach.specs.Promise.{reach_told, Reports}
use Rattle.reach.specs.declared.Counts.{Counts}
use Rattle.std.specs.Prelude.{Result}
use Rattle.refusal.specs.declared.Refusal.{Refusal}
use Rattle.reach.proofs.BitLaws.{sum_same}
use Rattle.reach.proofs.FillLaws.{reach_self, reach_join, reach_one, closed_holds}
use Rattle.reach.proofs.OutLaws.{one_outs, outs_as}
use Rattle.reach.proofs.ReportLaws.{plan_granted}
use Rattle.reach.proofs.Theorems.{one_part}

-- ---- tests

both : (a b : Bool) → T (a && b) → T a × T b
both true b t = (tt, t)
both false b t = absurd t

other : (a b : Bool) → T (a || b) → (T a → ⊥) → T b
other true b t n = absurd (n tt)
other false b t n = t

eq_test : {a b : ℕ} → a ≡ b → T (eqb a b)
eq_test {a} e = subst (λ k. T (eqb a k)) e (eqb_refl a)

-- A test of every number below n.
unfoldable all : (ℕ → Bool) → ℕ → Bool
all f zero = true
all f (suc n) = f n && all f n

all_at : (f : ℕ → Bool) (n : ℕ) → T (all f n) → (i : ℕ) → i < n → T (f i)
unfolding all
all_at f zero t i l = absurd (omega arith)
all_at f (suc n) t i l = let b = both (f n) (all f n) t in at (λ k. all_at f n b.1 i k) b.0 (ℕ_discrete i n)
  where
    at : (i < n → T (f i)) → T (f n) → Dec (i ≡ n) → T (f i)
    at h u (yes e) = rw e u
    at h u (no m) = h (omega arith)

-- ---- a part by tests

-- Where moves of some directions lead to, and whether each is open.
unfoldable goes : Plan → ℕ → List ℕ → ℕ
goes p s [] = s
goes p s (d ∷ l) = goes p (entered p.width s d) l

unfoldable opens : Plan → ℕ → List ℕ → Bool
opens p s [] = true
opens p s (d ∷ l) = (ltb s (cells p) && ltb d 4) && (not (eqb (byte p s d) 255) && opens p (entered p.width s d) l)

goes_there : (p : Plan) → Obeys p → (s : ℕ) (l : List ℕ) → T (opens p s l) → Reachable p s (goes p s l)
unfolding goes opens
goes_there p O s [] t = reach_self s
goes_there p O s (d ∷ l) t =
    let a = both (ltb s (cells p) && ltb d 4) (not (eqb (byte p s d) 255) && opens p (entered p.width s d) l) t in
    let b = both (ltb s (cells p)) (ltb d 4) a.0 in
    let c = both (not (eqb (byte p s d) 255)) (opens p (entered p.width s d) l) a.1 in
    let n : byte p s d ≢ shut = λ e. T_not (eqb (byte p s d) 255) c.0 (eq_test e) in
    reach_join (reach_one p O s d (ltb→lt s (cells p) b.0) (ltb→lt d 4 b.1) n).chain (goes_there p O (entered p.width s d) l c.1)

module _ (p : Plan) (h : ℕ) (rows : List ℕ) (way : ℕ → List ℕ) where
  abbrev marks : ℕ → Bool
  marks s = eqb (bit_of p.width rows s) 1

  abbrev fits : ℕ → Bool
  fits r = ltb (get_or rows r 0) (2 ^ p.width)

  abbrev led : ℕ → Bool
  led s = not (marks s) || (opens p h (way s) && eqb (goes p h (way s)) s)

  abbrev ends : ℕ → ℕ → Bool
  ends s d = eqb (byte p s d) 255 || marks (entered p.width s d)

  -- The hunter's cell is marked, the rows are narrow, `way` leads to each marked cell by open moves, and no open move leads from one to a cell that is not.
  part_by : T (marks h) → T (all fits p.height) → T (all led (cells p)) → T (all (λ s. not (marks s) || all (ends s) 4) (cells p)) → Obeys p → Part p h rows
  part_by own narrow reached closed O = record {
    so = λ s l m. so s (both (opens p h (way s)) (eqb (goes p h (way s)) s) (if_marked s m (opens p h (way s) && eqb (goes p h (way s)) s) (all_at led (cells p) reached s l)));
    whenever = λ s l R. closed_holds p O rows holds R.chain (eqb→eq (bit_of p.width rows h) 1 own);
    narrow = λ r l. ltb→lt (get_or rows r 0) (2 ^ p.width) (all_at fits p.height narrow r l);
  }
    where
      if_marked : (s : ℕ) → Marked p.width rows s → (b : Bool) → T (not (marks s) || b) → T b
      if_marked s m b t = other (not (marks s)) b t (λ u. T_not (marks s) u (eq_test m))

      so : (s : ℕ) → T (opens p h (way s)) × T (eqb (goes p h (way s)) s) → Reachable p h s
      so s b = subst (Reachable p h) (eqb→eq (goes p h (way s)) s b.1) (goes_there p O h (way s) b.0)

      holds : (s d : ℕ) → s < cells p → d < 4 → Marked p.width rows s → byte p s d ≢ shut → Marked p.width rows (entered p.width s d)
      holds s d l ld m n =
          let t = all_at (ends s) 4 (if_marked s m (all (ends s) 4) (all_at (λ s. not (marks s) || all (ends s) 4) (cells p) closed s l)) d ld in
          eqb→eq (bit_of p.width rows (entered p.width s d)) 1 (other (eqb (byte p s d) 255) (marks (entered p.width s d)) t (λ u. n (eqb→eq (byte p s d) 255 u)))

-- ---- the moves that lead out, by tests

unfoldable is_yes : {P : Type 0} → Dec P → Bool
is_yes (yes _) = true
is_yes (no _) = false

yes_is : {P : Type 0} (d : Dec P) → T (is_yes d) → P
unfolding is_yes
yes_is (yes a) t = a
yes_is (no n) t = absurd t

is_yes_where : {P : Type 0} (d : Dec P) → P → T (is_yes d)
unfolding is_yes
is_yes_where (yes a) b = tt
is_yes_where (no n) b = absurd (n b)

unfoldable leads_out : (p : Plan) (rows : List ℕ) (s d : ℕ) → Dec (LeadsOut p (Marked p.width rows) s d)
leads_out p rows s d =
    at (ℕ_discrete (bit_of p.width rows s) 1) (stays p.width p.height s d) (ℕ_discrete (byte p s d) shut) (ℕ_discrete (bit_of p.width rows (entered p.width s d)) 1)
  where
    at : Dec (Marked p.width rows s) → Dec (Stays p.width p.height s d) → Dec (byte p s d ≡ shut) → Dec (Marked p.width rows (entered p.width s d))
        → Dec (LeadsOut p (Marked p.width rows) s d)
    at (yes i) (yes m) (yes e) (no n) = yes (record { within = i; stays_in = m; is_shut = e; leaves = n })
    at (no n) m e i = no (λ o. n o.within)
    at (yes i) (no n) e j = no (λ o. n o.stays_in)
    at (yes i) (yes m) (no n) j = no (λ o. n o.is_shut)
    at (yes i) (yes m) (yes e) (yes j) = no (λ o. o.leaves j)

module _ (p : Plan) (rows list : List ℕ) (count : ℕ) (where_is : ℕ → ℕ) where
  abbrev out : ℕ → Bool
  out x = is_yes (leads_out p rows (x / 4) (x % 4))

  abbrev right : ℕ → Bool
  right i = ltb (get_or list i 0) (4 * cells p) && out (get_or list i 0)

  abbrev there : ℕ → Bool
  there x = not (out x) || (ltb (where_is x) count && eqb (get_or list (where_is x) 0) x)

  abbrev rises : ℕ → Bool
  rises j = all (λ i. ltb (get_or list i 0) (get_or list j 0)) j

  -- Each listed place is one that leads out, each such place is listed where `where_is` says, and the places rise.
  outs_by : count ≤ 4 * cells p → T (all right count) → T (all there (4 * cells p)) → T (all rises count) → Outs p (Marked p.width rows) list count (4 * cells p)
  outs_by few each every rising = record {
    few = few;
    below = λ i l. ltb→lt (get_or list i 0) (4 * cells p) (each_at i l).0;
    each = λ i l. yes_is (leads_out p rows (get_or list i 0 / 4) (get_or list i 0 % 4)) (each_at i l).1;
    all = λ x l o. listed x (both (ltb (where_is x) count) (eqb (get_or list (where_is x) 0) x) (other (not (out x)) (ltb (where_is x) count && eqb (get_or list (where_is x) 0) x)
        (all_at there (4 * cells p) every x l) (λ n. T_not (out x) n (is_yes_where (leads_out p rows (x / 4) (x % 4)) o))));
    ordered = λ i j l m. ltb→lt (get_or list i 0) (get_or list j 0) (all_at (λ i. ltb (get_or list i 0) (get_or list j 0)) j (all_at rises count rising j m) i l);
  }
    where
      each_at : (i : ℕ) → i < count → T (ltb (get_or list i 0) (4 * cells p)) × T (out (get_or list i 0))
      each_at i l = both (ltb (get_or list i 0) (4 * cells p)) (out (get_or list i 0)) (all_at right count each i l)

      listed : (x : ℕ) → T (ltb (where_is x) count) × T (eqb (get_or list (where_is x) 0) x) → Listed list count x
      listed x b = record { place = where_is x; low = ltb→lt (where_is x) count b.0; is = eqb→eq (get_or list (where_is x) 0) x b.1 }

-- ---- what is answered

-- The rows of a plan and a hunter, and the moves that lead out.
record Known (p : Plan) (h : ℕ) (rows moves : List ℕ) (count : ℕ) : Type 0 where
  part : Obeys p → Part p h rows
  outs : Outs p (Marked p.width rows) moves count (4 * cells p)

-- What is told and written where nothing is refused.
record Answers (r : Result Counts Refusal) (height : ℕ) (known list : List ℕ) (count : ℕ) (rows' moves' : List ℕ) : Type 0 where
  cells_told : (reach_told r).cells ≡ ones_of known height
  moves_told : (reach_told r).moves ≡ count
  row : (i : ℕ) → i < height → get_or rows' i 0 ≡ get_or known i 0
  move : (i : ℕ) → i < count → get_or moves' i 0 ≡ get_or list i 0

answers : {width height hunter : ℕ} {plan known list : List ℕ} {count : ℕ} → Known (plan_of width height plan) hunter known list count
    → {rows moves rows' moves' : List ℕ} {r : Result Counts Refusal} → Reports width height hunter plan rows moves r rows' moves' → (reach_told r).refusal ≡ 0 → Answers r height known list count rows' moves'
answers {height = height} {plan = plan} {known = known} {list = list} K {rows' = rows'} P e =
    let z = sym P.answer ∙ e in
    let W = P.done z in
    let O = (plan_granted {plan = plan} P.rules z).0.0 in
    let part = K.part O in
    let same = one_part W.part part in
    let outs = one_outs (outs_as list O part.so part.whenever (λ i l. refl) K.outs) W.outs in
    record {
      cells_told = W.counted ∙ sum_same (λ r. ones (get_or rows' r 0)) (λ r. ones (get_or known r 0)) height (λ i l. ap ones (same i l));
      moves_told = sym outs.0;
      row = same;
      move = λ i l. sym (outs.1 i l);
    }

-- ---- the plans

-- One cell: nothing leads out.
abbrev single : List ℕ
single = 255 ∷ 255 ∷ 255 ∷ 255 ∷ []

single_known : Known (plan_of 1 1 single) 0 (1 ∷ []) [] 0
unfolding bit bit_of all goes opens shifts is_yes leads_out stays ℕ_discrete dec_lt Dec.and
single_known = record { part = part_by _ _ _ (λ s. []) tt tt tt tt; outs = outs_by _ (1 ∷ []) _ _ (λ x. 0) (omega arith) tt tt tt }

pub one_cell : {rows moves rows' moves' : List ℕ} {r : Result Counts Refusal} → Reports 1 1 0 single rows moves r rows' moves' → (reach_told r).refusal ≡ 0
    → ((reach_told r).cells ≡ 1) × ((reach_told r).moves ≡ 0) × (get_or rows' 0 0 ≡ 1)
unfolding ones sum_to
one_cell P e = let a = answers single_known P e in (a.cells_told, a.moves_told, a.row 0 (omega arith))

-- Two cells beside each other, and a door that opens to the east only. From the west both are reached ..
abbrev one_way : List ℕ
one_way = 255 ∷ 1 ∷ 255 ∷ 255 ∷ 255 ∷ 255 ∷ 255 ∷ 255 ∷ []

west_known : Known (plan_of 2 1 one_way) 0 (3 ∷ []) [] 0
unfolding bit bit_of all goes opens shifts is_yes leads_out stays ℕ_discrete dec_lt Dec.and
west_known = record { part = part_by _ _ _ (λ s. get_or ([] ∷ (1 ∷ []) ∷ []) s []) tt tt tt tt; outs = outs_by _ (3 ∷ []) _ _ (λ x. 0) (omega arith) tt tt tt }

pub from_west : {rows moves rows' moves' : List ℕ} {r : Result Counts Refusal} → Reports 2 1 0 one_way rows moves r rows' moves' → (reach_told r).refusal ≡ 0
    → ((reach_told r).cells ≡ 2) × ((reach_told r).moves ≡ 0) × (get_or rows' 0 0 ≡ 3)
unfolding ones sum_to
from_west P e = let a = answers west_known P e in (a.cells_told, a.moves_told, a.row 0 (omega arith))

-- .. and from the east the eastern one alone, column 1; its move to the west, 4 × 1 + 3, leads out.
east_known : Known (plan_of 2 1 one_way) 1 (2 ∷ []) (7 ∷ []) 1
unfolding bit bit_of all goes opens shifts is_yes leads_out stays ℕ_discrete dec_lt Dec.and
east_known = record { part = part_by _ _ _ (λ s. []) tt tt tt tt; outs = outs_by _ (2 ∷ []) _ _ (λ x. 0) (omega arith) tt tt tt }

pub from_east : {rows moves rows' moves' : List ℕ} {r : Result Counts Refusal} → Reports 2 1 1 one_way rows moves r rows' moves' → (reach_told r).refusal ≡ 0
    → ((reach_told r).cells ≡ 1) × ((reach_told r).moves ≡ 1) × (get_or rows' 0 0 ≡ 2) × (get_or moves' 0 0 ≡ 7)
unfolding ones sum_to
from_east P e = let a = answers east_known P e in (a.cells_told, a.moves_told, a.row 0 (omega arith), a.move 0 (omega arith))

-- Two rows of two: open are south from cell 0 and then east from cell 2. Cell 1 is not reached: east from cell 0 and north from cell 3 lead out.
abbrev corner : List ℕ
corner = 255 ∷ 255 ∷ 5 ∷ 255 ∷ 255 ∷ 255 ∷ 255 ∷ 255 ∷ 255 ∷ 7 ∷ 255 ∷ 255 ∷ 255 ∷ 255 ∷ 255 ∷ 255 ∷ []

corner_known : Known (plan_of 2 2 corner) 0 (1 ∷ 3 ∷ []) (1 ∷ 12 ∷ []) 2
unfolding bit bit_of all goes opens shifts is_yes leads_out stays ℕ_discrete dec_lt Dec.and
corner_known = record { part = part_by _ _ _ (λ s. get_or ([] ∷ [] ∷ (2 ∷ []) ∷ (2 ∷ 1 ∷ []) ∷ []) s []) tt tt tt tt; outs = outs_by _ (1 ∷ 3 ∷ []) _ _ (λ x. x / 12) (omega arith) tt tt tt }

pub round_the_corner : {rows moves rows' moves' : List ℕ} {r : Result Counts Refusal} → Reports 2 2 0 corner rows moves r rows' moves' → (reach_told r).refusal ≡ 0
    → (((reach_told r).cells ≡ 3) × ((reach_told r).moves ≡ 2)) × ((get_or rows' 0 0 ≡ 1) × (get_or rows' 1 0 ≡ 3)) × ((get_or moves' 0 0 ≡ 1) × (get_or moves' 1 0 ≡ 12))
unfolding ones sum_to
round_the_corner P e = let a = answers corner_known P e in ((a.cells_told, a.moves_told), (a.row 0 (omega arith), a.row 1 (omega arith)), (a.move 0 (omega arith), a.move 1 (omega arith)))
