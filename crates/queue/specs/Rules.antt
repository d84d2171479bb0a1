-- The rules of a true heap, one place of the list and one cell at a time: what a check of the tables looks at.
use Rattle.std.specs.Prelude.{◌≡◌, false, List, ℕ, ◌-◌, ◌/◌, ◌≤◌, ◌<◌, get_or, length}
use Rattle.queue.specs.Order.{before}
use Rattle.queue.specs.Queue.{absent}

-- Place i of the list is not the first: the entry above it names a cell, which the entry at i does not come before.
pub record Above (width room : ℕ) (k1 k2 list : List ℕ) (i : ℕ) : Type 0 where
  pub named : get_or list ((i - 1) / 2) 0 < room
  pub ordered : before width k1 k2 (get_or list i 0) (get_or list ((i - 1) / 2) 0) ≡ false

-- Place i of the list: used, it names a cell that has that place; else it is absent.
pub record EntryRule (width room count : ℕ) (k1 k2 place list : List ℕ) (i : ℕ) : Type 0 where
  pub used : i < count → (get_or list i 0 < room) × (get_or place (get_or list i 0) 0 ≡ i)
  pub above : i < count → 0 < i → Above width room k1 k2 list i
  pub unused : count ≤ i → get_or list i 0 ≡ absent

-- Cell c is absent from the queue, and both its key numbers are 0.
pub record AbsentRule (k1 k2 place : List ℕ) (c : ℕ) : Type 0 where
  pub gone : get_or place c 0 ≡ absent
  pub first : get_or k1 c 0 ≡ 0
  pub second : get_or k2 c 0 ≡ 0

-- Cell c has a used place of the list, and is named there.
pub record QueuedRule (count : ℕ) (place list : List ℕ) (c : ℕ) : Type 0 where
  pub used : get_or place c 0 < count
  pub named : get_or list (get_or place c 0) 0 ≡ c

-- The four tables have a place for each of `room` cells.
pub record Lengths (room : ℕ) (k1 k2 place list : List ℕ) : Type 0 where
  pub in1 : length k1 ≡ room
  pub in2 : length k2 ≡ room
  pub in_place : length place ≡ room
  pub in_list : length list ≡ room
