-- What one open move from the cell u of a step asks of the cell that it enters.
use Rattle.std.specs.Prelude.{◌≡◌, ◌⊎◌, List, ℕ, ◌≤◌, ◌<◌, length, Option, Some, None}
use Prim.{Unit}
use Rattle.method.specs.Numbers.{infinite}
use Rattle.method.specs.Tables as method
use Rattle.method.specs.Steps.{relaxed_all, renewed_all}
use Rattle.plan.specs.Cells.{Stays, entered}
use Rattle.plan.specs.Grid.{out_by}
use Rattle.plan.specs.declared.Spot.{Spot}
use Rattle.entries.specs.declared.Aim.{Aim}
use Rattle.entries.specs.declared.Asked.{Asked}
use Rattle.entries.specs.Aims.{area, floor, hunt, most_g, most_rhs, Aimed, Small}
use Rattle.entries.specs.Became.{Sited, KeyFits, obeyed}

-- The cell s that the move from u in direction d enters.
pub record Enters (a : Aim) (u d s : ℕ) : Type 0 where
  pub stays_in : Stays a.width a.height u d
  pub cell : s ≡ entered a.width u d
  pub inside : s < area a

-- What is asked of it, if anything, can be done: it is this cell, and the sum leaves room.
abbrev pub Fair : Aim → ℕ → ℕ → Option Asked → Type 0
Fair a u d None = Unit {0}
Fair a u d (Some x) = Enters a u d x.cell × ((x.found.rhs ≡ infinite) ⊎ (x.found.rhs ≤ most_rhs))

-- A direction can be looked in from a cell of the plan.
pub record Leaving (a : Aim) (plan : List ℕ) (u d : ℕ) : Type 0 where
  pub aimed : Aimed a plan
  pub inside : u < area a
  pub direction : d < 4

-- Lower, where v is the new g(u): it leaves room for a cost.
pub record Relaxing (a : Aim) (plan rhs : List ℕ) (v u d : ℕ) : Type 0 where
  pub leaving : Leaving a plan u d
  pub long_rhs : length rhs ≡ area a
  pub room : v ≤ most_g

-- What is asked is what the method does.
pub record Relaxes (a : Aim) (plan rhs : List ℕ) (v u d : ℕ) (r : Option Asked) : Type 0 where
  pub fair : Fair a u d r
  pub is : (T : method.Tables) → T.rhs ≡ rhs → relaxed_all (hunt a plan) v T (out_by (floor a plan) u d) ≡ obeyed (hunt a plan) T r

-- Raise: a cell can be found anew.
pub record Renewing (a : Aim) (plan g parent : List ℕ) (u d : ℕ) : Type 0 where
  pub leaving : Leaving a plan u d
  pub long_g : length g ≡ area a
  pub small_g : Small most_g g
  pub long_parent : length parent ≡ area a

pub record Renews (a : Aim) (plan g parent : List ℕ) (u d : ℕ) (r : Option Asked) : Type 0 where
  pub fair : Fair a u d r
  pub is : (T : method.Tables) → T.g ≡ g → T.parent ≡ parent → renewed_all (hunt a plan) T (out_by (floor a plan) u d) ≡ obeyed (hunt a plan) T r

-- A table.
abbrev pub Numbers : Type 0
Numbers = List ℕ

-- The stored and the calculated key of cell u can be compared: it has both, and the calculated one fits.
pub record Keyed (a : Aim) (u : ℕ) (at : Spot) (g rhs k1 k2 : List ℕ) : Type 0 where
  pub sited : Sited a u at g rhs
  pub long_k1 : length k1 ≡ area a
  pub long_k2 : length k2 ≡ area a
  pub fits : KeyFits a g rhs u
