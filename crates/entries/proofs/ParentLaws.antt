-- Parent codes: a code names one cell, which is in the plan; each move of the graph is named by its code; and the cell named can be computed.
use mathlib.Core.Path.{◌≡◌, sym, ap, subst, ◌∙◌}
use mathlib.Core.List.{List}
use Prim.Native.Nat.{ℕ, ◌+◌, ◌-◌, ◌*◌, ◌≤◌, ◌<◌}
use native.Mathlib.Omega.{arith}
use lib.ListN.{get_or}
use Rattle.method.specs.Numbers.{most_cells}
use Rattle.method.specs.Graph.{Comes}
use Rattle.plan.specs.Cells.{Size, Stays, entered}
use Rattle.plan.specs.Directions.{row_step, column_step}
use Rattle.plan.proofs.CellLaws.{entered_sum, enters}
use Rattle.plan.proofs.MoveLaws as moves
use Rattle.plan.proofs.GridLaws.{into_is}
use Rattle.entries.specs.declared.Aim.{Aim}
use Rattle.entries.specs.Aims.{area, floor, hunt}
use Rattle.entries.specs.Parents.{Named, by_direction, Linked}

-- A code names one cell.
pub named_one : {a : Aim} {s k w v : ℕ} → Named a s k w → Named a s k v → w ≡ v
named_one {a} {s} (by_direction l e m) (by_direction l' e' m') = ap (entered a.width s) (same_direction e e')
  where
    same_direction : {d d' k : ℕ} → k ≡ d + 1 → k ≡ d' + 1 → d ≡ d'
    same_direction e e' = omega arith

-- It is in the plan.
pub named_in : {a : Aim} {s k w : ℕ} → Size a.width a.height → Named a s k w → w < area a
named_in z (by_direction l e m) = (enters z.wide m).inside

-- The open move with code k into s comes from the cell that k names.
pub comes_named : {a : Aim} (plan : List ℕ) → Size a.width a.height → {s k w c : ℕ} → Comes (hunt a plan).graph s k w c → Named a s k w
comes_named {a} plan z {s} {k} {w} {c} i =
    let o = into_is (floor a plan) z.wide s k w c i in
    subst (Named a s k) (sym o.from) (by_direction o.small o.named o.stays_in)

-- ---- the cell computed

-- A code is a direction plus 1, and names the neighbour there.
record Directed (a : Aim) (s k w : ℕ) : Type 0 where
  low : 1 ≤ k
  high : k ≤ 4
  stays : Stays a.width a.height s (k - 1)
  is : w ≡ entered a.width s (k - 1)

directed : {a : Aim} {s k w : ℕ} → Named a s k w → Directed a s k w
directed {a} {s} {k} (by_direction {d} l e m) = record {
  low = omega (arith, e);
  high = omega (arith, e);
  stays = subst (Stays a.width a.height s) less_one m;
  is = ap (entered a.width s) less_one;
}
  where
    less_one : d ≡ k - 1
    less_one = omega (arith, e)

module _ {a : Aim} {parent : List ℕ} {s : ℕ} (L : Linked a parent s) where
  -- the neighbour in its direction can be computed
  pub linked_asks : (get_or parent s 0 - 1 < 4) × ((a.width ≤ 64) × (s < most_cells) × (a.width + 1 ≤ s + row_step (get_or parent s 0 - 1) * a.width + column_step (get_or parent s 0 - 1)))
  linked_asks =
      let D = directed L.named in (
        omega (arith, D.high),
        (
          L.size.narrow,
          omega (arith, L.inside, moves.area L.size),
          omega (arith, entered_sum a.width s (get_or parent s 0 - 1) L.size.wide D.stays.north D.stays.west),
        ),
      )

  -- and is the cell that it names
  pub linked_is : {r : ℕ} → r ≡ entered a.width s (get_or parent s 0 - 1) → Named a s (get_or parent s 0) r
  linked_is e = subst (Named a s (get_or parent s 0)) ((directed L.named).is ∙ sym e) L.named
