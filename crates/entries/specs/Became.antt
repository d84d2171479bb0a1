-- What the inner functions promise.
use Rattle.std.specs.Prelude.{◌≡◌, List, ℕ, ◌+◌, ◌<◌, min, get_or, length, set, Option, Some, None}
use Rattle.method.specs.Numbers.{infinite, most_estimate}
use Rattle.method.specs.Graph.{Hunt}
use Rattle.method.specs.Tables as method
use Rattle.queue.specs.Queue.{Heap, EntryKept}
use Rattle.plan.specs.Cells.{Size}
use Rattle.plan.specs.Reached.{At}
use Rattle.plan.specs.declared.Spot.{Spot}
use Rattle.tables.specs.declared.Ahead.{Ahead}
use Rattle.tables.specs.Lent.{Tables, tables, lent, core}
use Rattle.entries.specs.declared.Aim.{Aim}
use Rattle.entries.specs.declared.Found.{Found}
use Rattle.entries.specs.declared.Asked.{Asked}
use Rattle.entries.specs.Aims.{area, hunt}

-- What the method has as m is what the tables are now, and they hold a true heap again, of `count` cells.
pub record Became (a : Aim) (count : ℕ) (t : Tables) (m : method.Tables) : Type 0 where
  pub is : core t ≡ m
  pub heap : Heap a.width (area a) count t.k1 t.k2 t.place t.list

-- A cell and the target stand where they are said to, and each cell has a g and a rhs: what a cell's key is calculated from.
pub record Sited (a : Aim) (cell : ℕ) (at : Spot) (g rhs : List ℕ) : Type 0 where
  pub size : Size a.width a.height
  pub target_in : a.target < area a
  pub target_at : At a.width a.target a.target_at
  pub inside : cell < area a
  pub stands : At a.width cell at
  pub long_g : length g ≡ area a
  pub long_rhs : length rhs ≡ area a

-- Its key fits.
abbrev pub KeyFits : Aim → List ℕ → List ℕ → ℕ → Type 0
KeyFits a g rhs cell = min (get_or g cell 0) (get_or rhs cell 0) + most_estimate + a.km < infinite

-- Its entry can be set right: where it is to be queued its key fits.
pub record Entering (a : Aim) (count cell : ℕ) (at : Spot) (g rhs k1 k2 place list : List ℕ) : Type 0 where
  pub sited : Sited a cell at g rhs
  pub heap : Heap a.width (area a) count k1 k2 place list
  pub fits : (get_or g cell 0 ≡ get_or rhs cell 0 → ⊥) → KeyFits a g rhs cell

-- So in the tables ahead of g.
abbrev pub EnteringIn : Aim → ℕ → ℕ → Spot → List ℕ → Ahead → Type 0
EnteringIn a count cell at g t = Entering a count cell at g t.rhs.now t.k1.now t.k2.now t.place.now t.list.now

-- It was set right, whatever the plan and the parents are.
abbrev pub Entered : Aim → ℕ → List ℕ → List ℕ → List ℕ → List ℕ → List ℕ → List ℕ → ℕ → List ℕ → List ℕ → List ℕ → List ℕ → Type 0
Entered a cell g rhs k1 k2 place list count k1' k2' place' list' =
    (plan parent : List ℕ) → Became a count (tables plan g rhs parent k1' k2' place' list')
    (method.set_right (hunt a plan) (core (tables plan g rhs parent k1 k2 place list)) cell)

-- It was set right in the tables ahead of g, whatever the plan is; rhs and the parents stay.
pub record EnteredIn (a : Aim) (cell : ℕ) (g : List ℕ) (t : Ahead) (count : ℕ) (t' : Ahead) : Type 0 where
  pub became : (plan : List ℕ) → Became a count (lent plan g t') (method.set_right (hunt a plan) (core (lent plan g t)) cell)
  pub rhs_is : t'.rhs.now ≡ t.rhs.now
  pub parent_is : t'.parent.now ≡ t.parent.now

-- The queue's promise of an entry that stays what it was, in the tables ahead of g.
abbrev pub KeptIn : ℕ → Ahead → ℕ → Ahead → Type 0
KeptIn count t count' t' = EntryKept count t.k1.now t.k2.now t.place.now t.list.now count' t'.k1.now t'.k2.now t'.place.now t'.list.now

-- What is asked of a cell, done to the method's tables: nothing, or that it takes a sum and its parent.
abbrev pub obeyed : Hunt → method.Tables → Option Asked → method.Tables
obeyed H T None = T
obeyed H T (Some x) = method.set_right H (method.with_rhs T x.cell x.found.rhs x.found.parent) x.cell

-- A cell can take a sum and its parent: with them its entry can be set right.
pub record Taking (a : Aim) (count cell : ℕ) (at : Spot) (f : Found) (g : List ℕ) (t : Ahead) : Type 0 where
  pub entering : Entering a count cell at g (set t.rhs.now cell f.rhs) t.k1.now t.k2.now t.place.now t.list.now
  pub long_parent : length t.parent.now ≡ area a

-- It took them, and its entry was set right, whatever the plan is.
pub record Taken (a : Aim) (cell : ℕ) (f : Found) (g : List ℕ) (t : Ahead) (count : ℕ) (t' : Ahead) : Type 0 where
  pub became : (plan : List ℕ) → Became a count (lent plan g t') (obeyed (hunt a plan) (core (lent plan g t)) (Some (record { cell = cell; found = f })))
  pub rhs_is : t'.rhs.now ≡ set t.rhs.now cell f.rhs

-- A sum and a parent as the method has them.
abbrev pub found_of : Found → method.Found
found_of f = method.found f.rhs f.parent
