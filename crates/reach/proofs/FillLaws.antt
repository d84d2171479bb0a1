-- What can be reached, what the fill keeps from one look to the next, and what it has found at its end.
use mathlib.Core.Path.{◌≡◌, refl, sym, ◌∙◌}
use mathlib.Core.Logic.{◌≢◌}
use mathlib.Core.List.{List, [], ◌∷◌}
use Prim.Native.Nat.{ℕ, ◌+◌, ◌*◌, ◌/◌, ◌%◌, ◌^◌, ◌≤◌, ◌<◌}
use native.Mathlib.Nat.{mod-lt, div-add-mod'}
use native.Mathlib.Decide.{ℕ_discrete, dec_lt}
use native.Mathlib.Omega.{arith}
use lib.Arith.{digits_lt}
use lib.ListN.{length, get_or, set, length-set, replicate, length-replicate, get_or-replicate, get_or-eq_default}
use lib.Pow.{pow_pos}
use lib.Seq.{get_or-set_same, get_or-set_other}
use borrow.Author.Count.{below_more}
use Rattle.method.specs.Graph.{Comes}
use Rattle.method.specs.Walk.{Chain, stay, go}
use Rattle.plan.specs.Cells.{Size, entered}
use Rattle.plan.specs.Costs.{Plan, cells, byte, shut, Obeys}
use Rattle.plan.specs.Grid.{graph_of}
use Rattle.plan.specs.Reached.{At}
use Rattle.plan.specs.Toward.{Leads}
use Rattle.plan.specs.declared.Spot.{Spot}
use Rattle.plan.proofs.CellLaws.{stands_row, stands_column, row_lt}
use Rattle.plan.proofs.GridLaws.{graph_laws}
use Rattle.plan.proofs.MoveLaws.{area, open_stays, spot_placed, entered_in, cost_of}
use Rattle.plan.proofs.TowardLaws.{leads_open, open_leads}
use Rattle.reach.specs.Bits.{bit, bit_of, Marked, sum_to}
use Rattle.reach.specs.Reachable.{Reachable, Part}
use Rattle.reach.specs.Outs.{Listed}
use Rattle.reach.specs.Filling.{cell_by, code_of, Within, Clean, Filled, Markable, Put, Looks, Looked, Grown, Going}
use Rattle.reach.proofs.BitLaws.{bit_none, bit_set, bit_other, set_narrow, sum_more, sum_none, sum_le, bit_of_le}

-- ---- what can be reached

pub reach_self : {p : Plan} (h : ℕ) → Reachable p h h
reach_self h = record { over = h ∷ []; cost = 0; chain = stay }

-- There and on.
pub reach_join : {p : Plan} {a b e d : ℕ} {l : List ℕ} → Chain (graph_of p) a l b d → Reachable p b e → Reachable p a e
reach_join stay r = r
reach_join (go {a} {c = c} o q) r = let t = reach_join q r in record { over = a ∷ t.over; cost = c + t.cost; chain = go o t.chain }

module _ (p : Plan) (O : Obeys p) where
  -- An open move reaches the cell that it enters ..
  pub reach_one : (u d : ℕ) → u < cells p → d < 4 → byte p u d ≢ shut → Reachable p u (entered p.width u d)
  reach_one u d lu ld n =
      let l : Leads p.width p.height u d (entered p.width u d) = record { direction = ld; stays_in = open_stays p O u d lu ld n; enters = refl } in
      record { over = u ∷ entered p.width u d ∷ []; cost = byte p u d + 0; chain = go (leads_open p O.size.wide l (cost_of (O.bytes u d lu ld) n)) stay }

  -- .. and each open move is the one of some direction.
  leaves_by : (b k a c : ℕ) → Comes (graph_of p) b k a c → (d : ℕ) × (d < 4) × (byte p a d ≢ shut) × (b ≡ entered p.width a d)
  leaves_by b k a c o =
      let q = open_leads p O.size.wide o in
      (q.0, q.1.direction, (λ e. omega (arith, q.2, (graph_laws p O.size).cost_le b k a c o)), sym q.1.enters)

  -- Marked cells that no open move leads out of hold all that one of them can reach.
  pub closed_holds : (rows : List ℕ) → ((s d : ℕ) → s < cells p → d < 4 → Marked p.width rows s → byte p s d ≢ shut → Marked p.width rows (entered p.width s d))
      → {a e d : ℕ} {l : List ℕ} → Chain (graph_of p) a l e d → Marked p.width rows a → Marked p.width rows e
  closed_holds rows h stay m = m
  closed_holds rows h (go {a} {b} {k} {c} o q) m =
      let w = leaves_by b k a c o in
      closed_holds rows h q (rw w.3 (h a w.0 ((graph_laws p O.size).from_in b k a c o) w.1 m w.2))

-- ---- a cell as the list has it

-- The cell of a row and a column, as the list has it; a cell comes back from how it is written, and is one of the plan.
cell_by_row : (w r c : ℕ) → c < 64 → cell_by w (64 * r + c) ≡ r * w + c
cell_by_row w r c l =
    let q : (64 * r + c) / 64 ≡ r = omega arith in
    let m : (64 * r + c) % 64 ≡ c = omega arith in
    rw (q, m) refl

code_cell : {width height : ℕ} → Size width height → (s : ℕ) → cell_by width (code_of width s) ≡ s
code_cell {width} z s = cell_by_row width (s / width) (s % width) (omega (arith, mod-lt s z.wide, z.narrow)) ∙ div-add-mod' s width

pub in_plan : {width height x : ℕ} → Within width height x → cell_by width x < height * width
in_plan {width} {height} {x} I = digits_lt {q = x / 64} {m = height} {r = x % 64} {c = width} I.row_lt I.column_lt

-- ---- one cell more

-- Cell v is marked and stands at the list's end, the rest is kept.
record Added (p : Plan) (rows list : List ℕ) (count v : ℕ) (rows' list' : List ℕ) (count' : ℕ) : Type 0 where
  filled : Filled p rows' list' count'
  adds : Marked p.width rows' v
  grows : (s : ℕ) → Marked p.width rows s → Marked p.width rows' s
  kept : (i : ℕ) → i < count → get_or list' i 0 ≡ get_or list i 0
  last : cell_by p.width (get_or list' count 0) ≡ v
  one_more : count' ≡ count + 1

module _ {p : Plan} (O : Obeys p) {rows list : List ℕ} {count v : ℕ} {at : Spot}
    (F : Filled p rows list count) (A : At p.width v at) (lv : v < cells p) (clear : bit_of p.width rows v ≡ 0) where
  abbrev new : ℕ
  new = get_or rows at.row 0 + 2 ^ at.column

  abbrev rows⁺ : List ℕ
  rows⁺ = set rows at.row new

  abbrev list⁺ : List ℕ
  list⁺ = set list count (64 * at.row + at.column)

  in_row : at.row < p.height
  in_row = rw (← stands_row A) (row_lt O.size.wide lv)

  low_column : at.column < 64
  low_column = omega (arith, A.column_lt, O.size.narrow)

  clear_bit : bit (get_or rows at.row 0) at.column ≡ 0
  unfolding bit_of
  clear_bit = rw (stands_row A, stands_column A) at clear

  row_is : get_or rows⁺ at.row 0 ≡ new
  row_is = get_or-set_same rows at.row new 0 (omega (arith, in_row, F.rowed))

  adds : Marked p.width rows⁺ v
  unfolding bit_of
  adds = rw (stands_row A, stands_column A, row_is) (bit_set (get_or rows at.row 0) at.column clear_bit)

  others : (s : ℕ) → s ≢ v → bit_of p.width rows⁺ s ≡ bit_of p.width rows s
  unfolding bit_of
  others s n = by (ℕ_discrete (s / p.width) at.row) (ℕ_discrete (s % p.width) at.column)
    where
      by : Dec (s / p.width ≡ at.row) → Dec (s % p.width ≡ at.column)
          → bit (get_or rows⁺ (s / p.width) 0) (s % p.width) ≡ bit (get_or rows (s / p.width) 0) (s % p.width)
      by (no q) m = rw (get_or-set_other rows at.row (s / p.width) new 0 q) refl
      by (yes q) (no m) = rw (q, row_is) (bit_other (get_or rows at.row 0) at.column (s % p.width) clear_bit m)
      by (yes q) (yes m) = absurd (n (sym (div-add-mod' s p.width) ∙ rw (q, m) (sym A.is)))

  grows : (s : ℕ) → Marked p.width rows s → Marked p.width rows⁺ s
  grows s m = by (ℕ_discrete s v)
    where
      by : Dec (s ≡ v) → Marked p.width rows⁺ s
      by (yes e) = rw e adds
      by (no n) = others s n ∙ m

  counted⁺ : count + 1 ≡ sum_to (bit_of p.width rows⁺) (cells p)
  counted⁺ = omega (arith, F.counted, sum_more (bit_of p.width rows) (bit_of p.width rows⁺) v (cells p) lv (omega (arith, adds, clear)) others)

  -- there is room for it: the bits are at most the cells
  fits : count < length list
  fits = omega (arith, counted⁺, sum_le (bit_of p.width rows⁺) (bit_of_le p.width rows⁺) (cells p), F.room)

  -- What `mark` asks.
  to_mark : Markable rows list count at
  to_mark = record { placed = spot_placed O.size A lv; row_lt = omega (arith, in_row, F.rowed); clear = clear_bit; room = fits }

  last_is : get_or list⁺ count 0 ≡ 64 * at.row + at.column
  last_is = get_or-set_same list count (64 * at.row + at.column) 0 fits

  kept : (i : ℕ) → i < count → get_or list⁺ i 0 ≡ get_or list i 0
  kept i l = get_or-set_other list count i (64 * at.row + at.column) 0 (λ e. omega arith)

  filled : Filled p rows⁺ list⁺ (count + 1)
  filled = record {
    rowed = rw length-set F.rowed;
    room = rw length-set F.room;
    narrow = λ r. narrow r (ℕ_discrete r at.row);
    listed = λ s l m. place s l m (ℕ_discrete s v);
    inside = below_more (λ i. Within p.width p.height (get_or list⁺ i 0)) count (λ i l. rw (kept i l) (F.inside i l)) (rw last_is within);
    counted = counted⁺;
  }
    where
      narrow : (r : ℕ) → Dec (r ≡ at.row) → get_or rows⁺ r 0 < 2 ^ p.width
      narrow r (yes e) = rw (e, row_is) (set_narrow (get_or rows at.row 0) at.column p.width clear_bit A.column_lt (F.narrow at.row))
      narrow r (no n) = rw (get_or-set_other rows at.row r new 0 n) (F.narrow r)

      place : (s : ℕ) → s < cells p → Marked p.width rows⁺ s → Dec (s ≡ v) → Listed list⁺ (count + 1) (code_of p.width s)
      place s l m (yes e) = record { place = count; low = omega arith; is = last_is ∙ rw (e, stands_row A, stands_column A) refl }
      place s l m (no n) = let L = F.listed s l (sym (others s n) ∙ m) in record { place = L.place; low = omega (arith, L.low); is = kept L.place L.low ∙ L.is }

      within : Within p.width p.height (64 * at.row + at.column)
      within = record { row_lt = omega (arith, in_row, low_column); column_lt = omega (arith, A.column_lt, low_column) }

  added : {rows' list' : List ℕ} {count' : ℕ} → Put rows list count at rows' list' count' → Added p rows list count v rows' list' count'
  added P =
      rw (P.rows_are, P.list_is, P.one_more) (record {
        filled = filled;
        adds = adds;
        grows = grows;
        kept = kept;
        last = rw last_is (cell_by_row p.width at.row at.column low_column) ∙ sym A.is;
        one_more = refl;
      })

-- A fresh array of zeros.
zeros : (n i : ℕ) → ◌≡◌ {A = ℕ} (get_or (replicate n 0) i 0) 0
zeros n i = at (dec_lt i n)
  where
    at : Dec (i < n) → ◌≡◌ {A = ℕ} (get_or (replicate n 0) i 0) 0
    at (yes l) = get_or-replicate n i 0 0 l
    at (no m) = get_or-eq_default (replicate {A = ℕ} n 0) 0 (omega (arith, length-replicate {A = ℕ} n 0))

-- Nothing is marked at first: fresh arrays are large enough for every plan ..
pub clean_at_first : {p : Plan} → Obeys p → Clean p (replicate 64 0) (replicate 4096 0)
clean_at_first O = record { rowed = omega (arith, O.size.low); room = omega (arith, area O.size); none = zeros 64 }

filled_none : {p : Plan} {rows list : List ℕ} → Clean p rows list → ((s : ℕ) → bit_of p.width rows s ≡ 0) × Filled p rows list 0
unfolding bit_of
filled_none {p} {rows} {list} C = (
  none,
  record {
    rowed = C.rowed;
    room = C.room;
    narrow = λ r. rw (C.none r) (pow_pos p.width);
    listed = λ s l m. absurd (omega (arith, none s));
    inside = λ i l. absurd (omega arith);
    counted = sym (sum_none (bit_of p.width rows) none (cells p));
  },
)
  where
    none : (s : ℕ) → bit (get_or rows (s / p.width) 0) (s % p.width) ≡ 0
    none s = rw (C.none (s / p.width)) (bit_none (s % p.width))

-- .. then the hunter's cell.
module _ {p : Plan} (O : Obeys p) {h : ℕ} (lh : h < cells p) {rows list : List ℕ} (C : Clean p rows list) {at : Spot} (A : At p.width h at) where
  pub first_asks : Markable rows list 0 at
  first_asks = let N = filled_none C in to_mark O N.1 A lh (N.0 h)

  pub going_first : {rows' list' : List ℕ} {count' : ℕ} → Put rows list 0 at rows' list' count' → Going p h rows' list' count' 0
  going_first P =
      let N = filled_none C in
      let B = added O N.1 A lh (N.0 h) P in
      record { filled = B.filled; le = omega arith; own = B.adds; reached = λ i l. first B i (omega (arith, B.one_more)); looks = λ j l. absurd (omega arith) }
    where
      first : {rows' list' : List ℕ} {count' : ℕ} → Added p rows list 0 h rows' list' count' → (i : ℕ) → i ≡ 0 → Reachable p h (cell_by p.width (get_or list' i 0))
      first B i e = rw (e, B.last) (reach_self h)

-- ---- one look

-- The cell that it enters is new.
module _ {p : Plan} (O : Obeys p) {rows list : List ℕ} {count : ℕ} (F : Filled p rows list count) {x d : ℕ} (I : Within p.width p.height x) (ld : d < 4)
    (n : byte p (cell_by p.width x) d ≢ shut) {at : Spot} (A : At p.width (entered p.width (cell_by p.width x) d) at)
    (m : Marked p.width rows (entered p.width (cell_by p.width x) d) → ⊥) where
  inside : entered p.width (cell_by p.width x) d < cells p
  inside = entered_in p O (cell_by p.width x) d (in_plan I) ld (open_stays p O (cell_by p.width x) d (in_plan I) ld n)

  clear : bit_of p.width rows (entered p.width (cell_by p.width x) d) ≡ 0
  clear = omega (arith, bit_of_le p.width rows (entered p.width (cell_by p.width x) d), m)

  pub new_asks : Markable rows list count at
  new_asks = to_mark O F A inside clear

  pub one_new : {rows' list' : List ℕ} {count' : ℕ} → Put rows list count at rows' list' count' → Grown p x rows list count rows' list' count' × Looks p rows' x d
  one_new P =
      let B = added O F A inside clear P in
      (record { filled = B.filled; le = omega (arith, B.one_more); kept = B.kept; grows = B.grows; from = λ i k l. last B i (omega (arith, B.one_more)) }, λ _. B.adds)
    where
      last : {rows' list' : List ℕ} {count' : ℕ} → Added p rows list count (entered p.width (cell_by p.width x) d) rows' list' count'
          → (i : ℕ) → i ≡ count → Reachable p (cell_by p.width x) (cell_by p.width (get_or list' i 0))
      last B i e = rw (e, B.last) (reach_one p O (cell_by p.width x) d (in_plan I) ld n)

-- ---- one look after the other

-- What was looked at stays so.
looked_on : {p : Plan} {y : ℕ} {rows list : List ℕ} {count : ℕ} {rows' list' : List ℕ} {count' : ℕ} (x n : ℕ) → Grown p y rows list count rows' list' count'
    → Looked p rows x n → Looked p rows' x n
looked_on {p} x n B h d l o = B.grows (entered p.width (cell_by p.width x) d) (h d l o)

-- ---- one cell after the other

module _ {p : Plan} {h : ℕ} {rows list : List ℕ} {count looked : ℕ} (G : Going p h rows list count looked) where
  pub going_le : count ≤ cells p
  going_le = omega (arith, G.filled.counted, sum_le (bit_of p.width rows) (bit_of_le p.width rows) (cells p))

  pub going_on : {rows' list' : List ℕ} {count' : ℕ} → looked < count → Grown p (get_or list looked 0) rows list count rows' list' count' → Looked p rows' (get_or list looked 0) 4
      → Going p h rows' list' count' (looked + 1)
  going_on {rows'} {list'} {count'} l B new = record {
    filled = B.filled;
    le = omega (arith, B.le);
    own = B.grows h G.own;
    reached = λ i k. reached i k (dec_lt i count);
    looks = below_more (λ i. Looked p rows' (get_or list' i 0) 4) looked
        (λ i k. rw (B.kept i (omega arith)) (looked_on (get_or list i 0) 4 B (G.looks i k)))
        (rw (B.kept looked l) new);
  }
    where
      reached : (i : ℕ) → i < count' → Dec (i < count) → Reachable p h (cell_by p.width (get_or list' i 0))
      reached i k (yes m) = rw (B.kept i m) (G.reached i m)
      reached i k (no m) = reach_join (G.reached looked l).chain (B.from i (omega arith) k)

  -- Every cell was looked at: the part is whole.
  pub whole : Obeys p → count ≤ looked → Part p h rows
  whole O done = record {
    so = λ s l m. let L = G.filled.listed s l m in rw (L.is, code_cell O.size s) at (G.reached L.place L.low);
    whenever = λ s l R. closed_holds p O rows closed R.chain G.own;
    narrow = λ r l. G.filled.narrow r;
  }
    where
      closed : (s d : ℕ) → s < cells p → d < 4 → Marked p.width rows s → byte p s d ≢ shut → Marked p.width rows (entered p.width s d)
      closed s d l ld m = let L = G.filled.listed s l m in rw (L.is, code_cell O.size s) at (G.looks L.place (omega (arith, L.low)) d ld)
