-- What the functions that look at one move ask of its spot, and what its place says.
use mathlib.Core.Path.{◌≡◌, ap}
use mathlib.Core.List.{List}
use Prim.Native.Nat.{ℕ, ◌+◌, ◌/◌, ◌%◌, ◌≤◌, ◌<◌}
use native.Mathlib.Omega.{arith}
use lib.ListN.{length, get_or}
use Rattle.plan.specs.Directions.{row_step, column_step}
use Rattle.plan.specs.Cells.{Stays}
use Rattle.plan.specs.Costs.{Plan, cells, byte, Obeys}
use Rattle.plan.specs.Reached.{At, Placed}
use Rattle.plan.specs.declared.Spot.{Spot}
use Rattle.plan.proofs.CellLaws.{stands_row, stands_column, row_lt}
use Rattle.plan.proofs.MoveLaws.{spot_placed}

module _ {p : Plan} (O : Obeys p) {u : ℕ} (lu : u < cells p) {at : Spot} (A : At p.width u at) where
  pub marked_asks : (rows : List ℕ) → p.height ≤ length rows → (at.row < length rows) × (at.column < 64)
  marked_asks rows l = (omega (arith, stands_row A, row_lt {width = p.width} {height = p.height} {s = u} O.size.wide lu), omega (arith, A.column_lt, O.size.narrow))

  pub move_asks : {d : ℕ} → d < 4 → Stays p.width p.height u d → ((d < 4) × Placed at) × ((1 ≤ at.row + row_step d) × (1 ≤ at.column + column_step d))
  move_asks ld m = ((ld, spot_placed O.size A lu), (omega (arith, m.north, stands_row A), omega (arith, m.west, stands_column A)))

-- The byte of a place is that of its cell and direction.
pub byte_at : (p : Plan) (place : ℕ) → get_or p.bytes place 0 ≡ byte p (place / 4) (place % 4)
byte_at p place = ap (λ i. get_or p.bytes i 0) (omega arith)
