-- Leaving by a direction and coming back by its opposite returns to the cell; neighbours are different cells; their directions are unique.
use mathlib.Core.Path.{◌≡◌, sym, ap, ◌∙◌}
use Prim.Native.Nat.{ℕ, zero, suc, ◌+◌, ◌-◌, ◌*◌, ◌/◌, ◌%◌, ◌≤◌, ◌<◌}
use native.Mathlib.Nat.{div-add-mod', mod-lt, div-lt_iff_lt-mul, add-mul, suc-mul}
use native.Mathlib.Omega.{arith}
use lib.Arith.{digits_lt, digits_div, digits_mod}
use Rattle.plan.specs.Directions.{row_step, column_step, opposite}
use Rattle.plan.specs.Cells.{row, column, Stands, Stays, entered}
use Rattle.plan.proofs.DirectionLaws.{opposes}

-- A cell stands at its row and column, and nowhere else.
pub stands : (width s : ℕ) → 1 ≤ width → Stands width s (row width s) (column width s)
stands width s wide = record { column_lt = mod-lt s wide; is = sym (div-add-mod' s width) }

pub stands_row : {width s r c : ℕ} → Stands width s r c → row width s ≡ r
stands_row {width} {s} {r} {c} a = rw a.is (digits_div r a.column_lt)

pub stands_column : {width s r c : ℕ} → Stands width s r c → column width s ≡ c
stands_column {width} {s} {r} {c} a = rw a.is (digits_mod r a.column_lt)

pub row_lt : {width height s : ℕ} → 1 ≤ width → s < height * width → row width s < height
row_lt wide l = (div-lt_iff_lt-mul wide).1 l

-- (a - 1) · w, without the subtraction
less_one : (a w : ℕ) → 1 ≤ a → (a - 1) * w + w ≡ a * w
less_one zero w l = absurd (omega arith)
less_one (suc a) w l = rw (sub_one_suc a) (sym (suc-mul a w))
  where
    sub_one_suc : (a : ℕ) → suc a - 1 ≡ a
    sub_one_suc a = omega arith

-- Where a move enters: the step's row and column away.
pub record Enters (width height s d : ℕ) : Type 0 where
  pub inside : entered width s d < height * width
  pub to_row : row width (entered width s d) + 1 ≡ row width s + row_step d
  pub to_column : column width (entered width s d) + 1 ≡ column width s + column_step d

-- The number of the cell entered, before 1 + width is taken off.
pub entered_sum : (width s d : ℕ) → 1 ≤ width → 1 ≤ row width s + row_step d → 1 ≤ column width s + column_step d
    → s + row_step d * width + column_step d ≡ (row width s + row_step d - 1) * width + (column width s + column_step d - 1) + (width + 1)
entered_sum width s d wide n e =
    omega (
      arith,
      (stands width s wide).is,
      add-mul (row width s) (row_step d) width,
      less_one (row width s + row_step d) width n,
    )

pub enters : {width height s d : ℕ} → 1 ≤ width → Stays width height s d → Enters width height s d
enters {width} {height} {s} {d} wide m = record {
  inside = rw e (digits_lt {q = r} {m = height} {r = c} {c = width} (omega (arith, m.north, m.south)) lc);
  to_row = omega (arith, ap (λ x. x / width) e ∙ digits_div r lc, m.north);
  to_column = omega (arith, ap (λ x. x % width) e ∙ digits_mod r lc, m.west);
}
  where
    r : ℕ
    r = row width s + row_step d - 1

    c : ℕ
    c = column width s + column_step d - 1

    lc : column width s + column_step d - 1 < width
    lc = omega (arith, m.west, m.east)

    e : entered width s d ≡ (row width s + row_step d - 1) * width + (column width s + column_step d - 1)
    e = omega (arith, entered_sum width s d wide m.north m.west)

-- The way back stays in the plan too.
pub stays_back : {width height s d : ℕ} → 1 ≤ width → d < 4 → Stays width height s d → Stays width height (entered width s d) (opposite d)
stays_back {width} {height} {s} {d} wide ld m = record {
  from_in = E.inside;
  north = omega (arith, E.to_row, (opposes d ld).rows);
  south = omega (arith, E.to_row, (opposes d ld).rows, row_lt wide m.from_in);
  west = omega (arith, E.to_column, (opposes d ld).columns);
  east = omega (arith, E.to_column, (opposes d ld).columns, mod-lt s wide);
}
  where
    E : Enters width height s d
    E = enters wide m

-- Leaving by a direction and coming back by its opposite returns to the cell.
pub back_again : {width height s d : ℕ} → 1 ≤ width → d < 4 → Stays width height s d → entered width (entered width s d) (opposite d) ≡ s
back_again {width} {height} {s} {d} wide ld m =
    omega (
      arith,
      entered_sum width s d wide m.north m.west,
      step_mul,
      (opposes d ld).columns,
    )
  where
    step_mul : row_step d * width + row_step (opposite d) * width ≡ 2 * width
    step_mul = sym (add-mul (row_step d) (row_step (opposite d)) width) ∙ ap (λ x. x * width) (opposes d ld).rows

-- The two directions of a pair of neighbours are unique.
pub one_direction : {width height s d e : ℕ} → 1 ≤ width → d < 4 → e < 4 → Stays width height s d → Stays width height s e
    → entered width s d ≡ entered width s e → d ≡ e
one_direction {width} {height} {s} {d} {e} wide ld le m n q =
    omega (
      arith,
      (enters wide m).to_row,
      (enters wide m).to_column,
      (enters wide n).to_row,
      (enters wide n).to_column,
      ap (λ x. x / width) q,
      ap (λ x. x % width) q,
      (opposes d ld).named,
      (opposes e le).named,
    )
