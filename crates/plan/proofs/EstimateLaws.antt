-- The estimate: 0 at the cell itself, symmetric, the triangle, at most 126, and changed by at most 1 along a move.
use mathlib.Core.Path.{◌≡◌}
use Prim.Native.Nat.{ℕ, ◌+◌, ◌*◌, ◌≤◌, ◌<◌}
use native.Mathlib.Nat.{mod-lt}
use native.Mathlib.Omega.{arith}
use Rattle.method.specs.Numbers.{most_estimate}
use Rattle.plan.specs.Directions.{row_step, column_step}
use Rattle.plan.specs.Cells.{Size, row, column, Stays, entered, apart, estimate}
use Rattle.plan.proofs.DirectionLaws.{opposes}
use Rattle.plan.proofs.CellLaws.{row_lt, enters}

pub estimate_self : (width a : ℕ) → estimate width a a ≡ 0
unfolding estimate
estimate_self width a = omega arith

pub estimate_symmetric : (width a b : ℕ) → estimate width a b ≡ estimate width b a
unfolding estimate
estimate_symmetric width a b = omega arith

pub estimate_triangle : (width a b c : ℕ) → estimate width a c ≤ estimate width a b + estimate width b c
unfolding estimate
estimate_triangle width a b c = omega (arith, over (row width a) (row width b) (row width c), over (column width a) (column width b) (column width c))
  where
    over : (x y z : ℕ) → apart x z ≤ apart x y + apart y z
    over x y z = omega arith

pub estimate_le : {width height : ℕ} → Size width height → (s t : ℕ) → s < height * width → t < height * width → estimate width s t ≤ most_estimate
unfolding estimate
estimate_le {width} {height} z s t ls lt =
    omega (
      arith,
      within (row width s) (row width t) (omega (arith, row_lt z.wide ls, z.low)) (omega (arith, row_lt z.wide lt, z.low)),
      within (column width s) (column width t) (omega (arith, mod-lt s z.wide, z.narrow)) (omega (arith, mod-lt t z.wide, z.narrow)),
    )
  where
    within : (a b : ℕ) → a < 64 → b < 64 → apart a b < 64
    within a b la lb = omega arith

-- Along a move the estimate changes by at most 1, so it is consistent for every open cost.
pub estimate_step : {width height s d : ℕ} → 1 ≤ width → d < 4 → Stays width height s d → (t : ℕ) → estimate width (entered width s d) t ≤ 1 + estimate width s t
unfolding estimate
estimate_step {width} {height} {s} {d} wide ld m t =
    adds _ _ _ _ (apart (row_step d) 1) (apart (column_step d) 1)
    (along (row width (entered width s d)) (row width s) (row_step d) (row width t) (enters wide m).to_row)
    (along (column width (entered width s d)) (column width s) (column_step d) (column width t) (enters wide m).to_column)
    (opposes d ld).one_away
  where
    along : (x y step z : ℕ) → x + 1 ≡ y + step → apart x z ≤ apart step 1 + apart y z
    along x y step z e = omega arith

    adds : (a b e f i j : ℕ) → a ≤ i + b → e ≤ j + f → i + j ≡ 1 → a + e ≤ 1 + (b + f)
    adds a b e f i j h k l = omega arith
