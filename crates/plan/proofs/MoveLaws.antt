-- What the functions that look at one move answer by.
use mathlib.Core.Path.{◌≡◌, refl, sym, ap, ◌∙◌}
use mathlib.Core.Bool.{Bool, true, false}
use mathlib.Core.Logic.{inl, inr, ◌≢◌}
use mathlib.Core.List.{[], ◌∷◌}
use Prim.Native.Nat.{ℕ, ◌+◌, ◌*◌, ◌/◌, ◌%◌, ◌≤◌, ◌<◌}
use native.Mathlib.Nat.{mul-le-mul, add-mul, mod-lt, div-add-mod'}
use native.Mathlib.Omega.{arith}
use lib.Dec.{lit<, ltb}
use lib.ListN.{get_or, length}
use Rattle.std.specs.Bool.{MatchBool}
use Rattle.std.specs.List.{AllWithin, HoldsAt}
use Rattle.decide.specs.Choose.{choose}
use Rattle.decide.specs.Decides.{Decides}
use Rattle.decide.proofs.DecideLaws.{decides_lt, decides_yes, decides_no}
use Rattle.method.specs.Numbers.{most_cells}
use Rattle.method.specs.Graph.{Move, move}
use Rattle.plan.specs.Directions.{shift_of, row_step, column_step, opposite}
use Rattle.plan.specs.Cells.{Size, Stands, Stays, stays, entered}
use Rattle.plan.specs.Costs.{Plan, cells, byte, shut, IsCost, is_cost, IsByte, Bytes, Obeys}
use Rattle.plan.specs.Grid.{out_by, into_by}
use Rattle.plan.specs.Reached.{At, Placed}
use Rattle.plan.specs.declared.Shift.{Shift}
use Rattle.plan.specs.declared.Spot.{Spot}
use Rattle.plan.proofs.DirectionLaws.{opposes}
use Rattle.plan.proofs.CellLaws.{stands, stands_row, stands_column, row_lt, entered_sum, enters, stays_back}

-- a step is at most 2 (plus 1), so its part of a sum is small
row_part : (width d : ℕ) → width ≤ 64 → d < 4 → row_step d * width ≤ 128
row_part width d l ld = let h : row_step d ≤ 2 = omega (arith, (opposes d ld).rows) in mul-le-mul h l

-- the sum of a cell and a direction's step, by the table: at most 4,096, 2 rows of 64 and 2 columns
module _ (width s d : ℕ) {step : Shift} (e : step ≡ shift_of d) where
  pub step_sum : s + step.row * width + step.column ≡ s + row_step d * width + column_step d
  step_sum = ap (λ x. s + x.row * width + x.column) e

  pub step_sum_le : width ≤ 64 → s < most_cells → d < 4 → s + step.row * width + step.column ≤ 4226
  step_sum_le l ls ld = omega (arith, step_sum, row_part width d l ld, (opposes d ld).columns)

pub area : {width height : ℕ} → Size width height → height * width ≤ 4096
area z = mul-le-mul z.low z.narrow

-- a cell of the plan stands at one of its spots
pub placed : {width height s r c : ℕ} → Size width height → Stands width s r c → s < height * width → (r < 64) × (c < 64)
placed {width} {height} {s} z a l = (omega (arith, stands_row a, row_lt {width = width} {height = height} {s = s} z.wide l, z.low), omega (arith, a.column_lt, z.narrow))

pub spot_placed : {width height s : ℕ} {at : Spot} → Size width height → At width s at → s < height * width → Placed at
spot_placed z a l = let p = placed z a l in record { row = p.0; column = p.1 }

-- a step neither up nor down
level : (d : ℕ) → d < 4 → row_step d ≢ 0 → row_step d ≢ 2 → row_step d ≡ 1
level d ld up down = omega (arith, (opposes d ld).rows)

-- .. leads to the left or to the right
aside : (d : ℕ) → d < 4 → row_step d ≡ 1 → column_step d ≢ 0 → column_step d ≡ 2
aside d ld e n = omega (arith, (opposes d ld).one_away)

-- the tests of a spot are those of its cell
module _ {width height s d r c : ℕ} (a : Stands width s r c) where
  stays_by : s < height * width → (1 ≤ r + row_step d) × (r + row_step d ≤ height) × (1 ≤ c + column_step d) × (c + column_step d ≤ width) → Stays width height s d
  stays_by l m = record {
    from_in = l;
    north = rw (stands_row a) m.0;
    south = rw (stands_row a) m.1;
    west = rw (stands_column a) m.2;
    east = rw (stands_column a) m.3;
  }

  stays_gives : Stays width height s d → (1 ≤ r + row_step d) × (r + row_step d ≤ height) × (1 ≤ c + column_step d) × (c + column_step d ≤ width)
  stays_gives m = (rw (stands_row a) at m.north, rw (stands_row a) at m.south, rw (stands_column a) at m.west, rw (stands_column a) at m.east)

  -- by the step's row and column, the one side on which the move could leave
  module _ (l : s < height * width) (ld : d < 4) where
    in_row : r < height
    in_row = rw (stands_row a) at (row_lt (omega (arith, a.column_lt)) l)

    pub stays_up : row_step d ≡ 0 → Decides (ltb 0 r) (Stays width height s d)
    stays_up e =
        decides_lt 0 r
        (λ k. stays_by l (omega (arith, in_row, a.column_lt, (opposes d ld).one_away)))
        (λ m. omega (arith, stays_gives m))

    pub stays_down : row_step d ≡ 2 → Decides (ltb (r + 1) height) (Stays width height s d)
    stays_down e =
        decides_lt (r + 1) height
        (λ k. stays_by l (omega (arith, in_row, a.column_lt, (opposes d ld).one_away)))
        (λ m. omega (arith, stays_gives m))

    pub stays_left : row_step d ≢ 0 → row_step d ≢ 2 → column_step d ≡ 0 → Decides (ltb 0 c) (Stays width height s d)
    stays_left up down e =
        decides_lt 0 c
        (λ k. stays_by l (omega (arith, level d ld up down, in_row, a.column_lt)))
        (λ m. omega (arith, stays_gives m))

    pub stays_right : row_step d ≢ 0 → row_step d ≢ 2 → column_step d ≢ 0 → Decides (ltb (c + 1) width) (Stays width height s d)
    stays_right up down n =
        let e = level d ld up down in
        let f = aside d ld e n in
        decides_lt (c + 1) width
        (λ k. stays_by l (omega (arith, in_row, a.column_lt)))
        (λ m. omega (arith, stays_gives m))

-- where a move leads to stands at the spot moved to
pub moved_at : {width height s d : ℕ} {at to : Spot} → 1 ≤ width → At width s at → Stays width height s d
    → (to.row + 1 ≡ at.row + row_step d) × (to.column + 1 ≡ at.column + column_step d) → At width (entered width s d) to
moved_at {width} {height} {s} {d} wide a m e =
    let E = enters wide m in
    let t = stands width (entered width s d) wide in
    stands_as t (omega (arith, E.to_row, stands_row a, e)) (omega (arith, E.to_column, stands_column a, e))
  where
    stands_as : {v r c r' c' : ℕ} → Stands width v r c → r ≡ r' → c ≡ c' → Stands width v r' c'
    stands_as t p q = rw (← p, ← q) t

pub cost_of : {c : ℕ} → IsByte c → c ≢ shut → IsCost c
cost_of (inl o) n = o
cost_of (inr e) n = absurd (n e)

pub not_a_cost : {c : ℕ} → c ≡ shut → IsCost c → ⊥
not_a_cost e o = omega (arith, o.1)

one : {P Q : Type 0} (p : Dec P) (q : Dec Q) (x : Move) → P → Q → x ∷ [] ≡ choose p (choose q (x ∷ []) []) []
unfolding choose
one (yes p) (yes q) x h k = refl
one (yes p) (no q) x h k = absurd (q k)
one (no p) q x h k = absurd (p h)

no_one : {P Q : Type 0} (p : Dec P) (q : Dec Q) (x : Move) → (P → Q → ⊥) → [] ≡ choose p (choose q (x ∷ []) []) []
unfolding choose
no_one (yes p) (yes q) x n = absurd (n p q)
no_one (yes p) (no q) x n = refl
no_one (no p) q x n = refl

module _ (p : Plan) (O : Obeys p) (s d : ℕ) (ls : s < cells p) (ld : d < 4) where
  wide : 1 ≤ p.width
  wide = O.size.wide

  -- a shut move is no open move
  pub out_shut : byte p s d ≡ shut → [] ≡ out_by p s d
  unfolding out_by
  out_shut e = no_one (stays p.width p.height s d) (is_cost (byte p s d)) _ (λ m o. not_a_cost e o)

  -- a move that is not shut stays in the plan
  pub open_stays : byte p s d ≢ shut → Stays p.width p.height s d
  open_stays n = at (stays p.width p.height s d)
    where
      at : Dec (Stays p.width p.height s d) → Stays p.width p.height s d
      at (yes m) = m
      at (no l) = absurd (n (O.edges s d ls ld l))

  pub out_open : byte p s d ≢ shut → move (opposite d + 1) (entered p.width s d) (byte p s d) ∷ [] ≡ out_by p s d
  unfolding out_by
  out_open n = one (stays p.width p.height s d) (is_cost (byte p s d)) _ (open_stays n) (cost_of (O.bytes s d ls ld) n)

  -- no neighbour there, or its move is shut
  pub into_shut : (Stays p.width p.height s d → byte p (entered p.width s d) (opposite d) ≡ shut) → [] ≡ into_by p s d
  unfolding into_by
  into_shut f = no_one (stays p.width p.height s d) (is_cost (byte p (entered p.width s d) (opposite d))) _ (λ m o. not_a_cost (f m) o)

  pub sum_long : Stays p.width p.height s d → p.width + 1 ≤ s + row_step d * p.width + column_step d
  sum_long m = omega (arith, entered_sum p.width s d wide m.north m.west)

  pub entered_in : Stays p.width p.height s d → entered p.width s d < cells p
  entered_in m = (enters wide m).inside

  -- the cell named by the sum has an open move here: then it is the neighbour
  neighbour_stays : p.width + 1 ≤ s + row_step d * p.width + column_step d → entered p.width s d < cells p → byte p (entered p.width s d) (opposite d) ≢ shut → Stays p.width p.height s d
  neighbour_stays long inside n = rw (opposes d ld).back at (rw back at (stays_back wide (opposes d ld).small way_back))
    where
      u : ℕ
      u = entered p.width s d

      way_back : Stays p.width p.height (entered p.width s d) (opposite d)
      way_back = at (stays p.width p.height (entered p.width s d) (opposite d))
        where
          at : Dec (Stays p.width p.height (entered p.width s d) (opposite d)) → Stays p.width p.height (entered p.width s d) (opposite d)
          at (yes m) = m
          at (no l) = absurd (n (O.edges (entered p.width s d) (opposite d) inside (opposes d ld).small l))

      steps : row_step d * p.width + row_step (opposite d) * p.width ≡ 2 * p.width
      steps = sym (add-mul (row_step d) (row_step (opposite d)) p.width) ∙ ap (λ x. x * p.width) (opposes d ld).rows

      back : entered p.width (entered p.width s d) (opposite d) ≡ s
      back = omega (arith, long, steps, (opposes d ld).columns)

  entered_open : p.width + 1 ≤ s + row_step d * p.width + column_step d → entered p.width s d < cells p → byte p (entered p.width s d) (opposite d) ≢ shut
      → move (d + 1) (entered p.width s d) (byte p (entered p.width s d) (opposite d)) ∷ [] ≡ into_by p s d
  unfolding into_by
  entered_open long inside n =
      one (stays p.width p.height s d) (is_cost (byte p (entered p.width s d) (opposite d))) _ (neighbour_stays long inside n)
      (cost_of (O.bytes (entered p.width s d) (opposite d) inside (opposes d ld).small) n)

  -- u is the cell that the sum names, `toward` the direction from there to s
  module _ {u toward : ℕ} (named : u ≡ entered p.width s d) (back : toward ≡ opposite d) where
    pub into_closed : byte p u toward ≡ shut → [] ≡ into_by p s d
    into_closed e = into_shut (λ _. rw (named, back) at e)

    pub into_open : p.width + 1 ≤ s + row_step d * p.width + column_step d → u < cells p → byte p u toward ≢ shut → move (d + 1) u (byte p u toward) ∷ [] ≡ into_by p s d
    into_open long inside n = rw (named, back) (entered_open long (rw named at inside) (rw (named, back) at n))

-- each byte is that of some cell and direction
pub byte_of : (p : Plan) → Bytes p → (i : ℕ) → i < 4 * cells p → IsByte (get_or p.bytes i 0)
byte_of p B i l = rw split (B (i / 4) (i % 4) (omega (arith, split, small)) small)
  where
    split : i ≡ 4 * (i / 4) + i % 4
    split = omega (arith, div-add-mod' i 4)

    small : i % 4 < 4
    small = mod-lt i (lit< tt)

-- so a test of each element of the list is one of each byte
pub bytes_by : (p : Plan) (r : Bool) → length p.bytes ≡ 4 * cells p
    → MatchBool r (AllWithin IsByte p.bytes 0 (length p.bytes)) ((k : ℕ) × (k < length p.bytes) × HoldsAt (λ b. IsByte b → ⊥) p.bytes k) → Decides r (Bytes p)
bytes_by p true sized h = decides_yes (λ s d ls ld. h (4 * s + d) 0 (omega arith) (omega (arith, mul-le-mul ls ld)))
bytes_by p false sized h = decides_no (λ B. h.2 0 (byte_of p B h.0 (omega (arith, h.1))))
