-- Inner notions, not part of the queue's promise: what its private functions promise each other while one cell is on its way to its place.
-- The cell is in hand and a place of the list is empty. The tables are read as if it stood there: `set place cell i` and `set list i cell`.
use Rattle.std.specs.Prelude.{◌≡◌, Bool, false, List, ℕ, ◌+◌, ◌*◌, ◌≤◌, ◌<◌, get_or, set, length}
use Rattle.queue.specs.declared.Entry.{Entry}
use Rattle.queue.specs.declared.Queue.{Queue}
use Rattle.queue.specs.Order.{before}
use Rattle.queue.specs.Queue.{absent, members, Tables, Under, Ordered}

-- The list is a binary heap but for the entry at place i, which may belong higher or lower.
pub record Loose (lt : ℕ → ℕ → Bool) (count i : ℕ) (list : List ℕ) : Type 0 where
  pub inside : i < count
  pub off : (x y : ℕ) → Under x y → y < count → (x ≡ i → ⊥) → (y ≡ i → ⊥) → lt (get_or list y 0) (get_or list x 0) ≡ false
  -- The entries under place i belong under the entry above it.
  pub over : (x y : ℕ) → Under x i → Under i y → y < count → lt (get_or list y 0) (get_or list x 0) ≡ false

-- The same, and the entry at place i can belong lower only.
pub record Low (lt : ℕ → ℕ → Bool) (count i : ℕ) (list : List ℕ) : Type 0 where
  pub loose : Loose lt count i list
  pub up : (x : ℕ) → Under x i → lt (get_or list i 0) (get_or list x 0) ≡ false

-- The entry has gone up from `start` to i and belongs no higher; where it has moved at all, no lower either.
pub record Risen (lt : ℕ → ℕ → Bool) (count start i : ℕ) (list : List ℕ) : Type 0 where
  pub low : Low lt count i list
  pub ordered : (i ≡ start → ⊥) → Ordered lt count list

-- A list that is a binary heap already stays as it is, and so do the places.
abbrev pub KeepsHeap : (ℕ → ℕ → Bool) → ℕ → List ℕ → List ℕ → List ℕ → List ℕ → Type 0
KeepsHeap lt count place list place' list' = Ordered lt count list → (place' ≡ place) × (list' ≡ list)

-- A cell in hand and the empty place i: read as if the cell stood there, the tables have their lengths, and list and places agree.
pub record Held (width room count cell i : ℕ) (k1 k2 place list : List ℕ) : Type 0 where
  pub inside : i < count
  pub tables : Tables width room count k1 k2 (set place cell i) (set list i cell)

-- What is left of the places and the list when the empty place has gone from `start` to i, in the same reading:
-- they agree, the same cells are queued, the list has the shape P under their order, and one that was a binary heap already is as it was.
pub record Sifted (width count cell start i : ℕ) (k1 k2 place list place' list' : List ℕ) (P : (ℕ → ℕ → Bool) → List ℕ → Type 0) : Type 0 where
  pub held : Held width (length list) count cell i k1 k2 place' list'
  pub membership : members (set place' cell i) ≡ members (set place cell start)
  pub shape : P (before width k1 k2) (set list' i cell)
  pub keeps : KeepsHeap (before width k1 k2) count (set place cell start) (set list start cell) (set place' cell i) (set list' i cell)
  -- Where the place has not moved, nothing was written.
  pub unmoved : i ≡ start → (place' ≡ place) × (list' ≡ list)

-- The cell can be written at place i of the list: both are in the tables, and both numbers fit into 16 bits.
pub record Stands (i cell : ℕ) (place list : List ℕ) : Type 0 where
  pub in_list : i < length list
  pub in_place : cell < length place
  pub small_list : length list ≤ absent
  pub small_place : length place ≤ absent

-- The two tables after the entries at places i and j were exchanged. That is what passing an entry does, in this reading (proofs/HoleLaws.antt).
abbrev pub place_after : ℕ → ℕ → List ℕ → List ℕ → List ℕ
place_after i j place list = set (set place (get_or list j 0) i) (get_or list i 0) j

abbrev pub list_after : ℕ → ℕ → List ℕ → List ℕ
list_after i j list = set (set list i (get_or list j 0)) j (get_or list i 0)

-- The entry in hand is that of cell c, and its key is one number, k1 in its upper half.
pub record EntryOf (k1 k2 : List ℕ) (c : ℕ) (entry : Entry) : Type 0 where
  pub cell : entry.cell ≡ c
  pub number : entry.key ≡ get_or k1 c 0 * 4294967296 + get_or k2 c 0
  pub half : get_or k2 c 0 < 4294967296

-- Any two entries right under place i can be compared. What stands at i itself may be no cell.
pub record Compares (width count i : ℕ) (k1 k2 list : List ℕ) : Type 0 where
  pub wide : 0 < width
  pub long : count ≤ length list
  pub lengths : length k2 ≡ length k1
  pub named : (x : ℕ) → Under i x → x < count → get_or list x 0 < length k1

-- Place m is right under place i, and no entry there comes before its entry.
pub record Lesser (lt : ℕ → ℕ → Bool) (count i m : ℕ) (list : List ℕ) : Type 0 where
  pub under : Under i m
  pub inside : m < count
  pub least : (y : ℕ) → Under i y → y < count → lt (get_or list y 0) (get_or list m 0) ≡ false

-- ---- of a Queue, in its fields

-- The cell is in hand and place i of the list is empty.
abbrev pub HeldIn : Queue → (cell i : ℕ) → Type 0
HeldIn q cell i = Held q.width (length q.list.now) q.count cell i q.k1.now q.k2.now q.place.now q.list.now

-- With the cell at place i the list is a binary heap, but that the cell may belong higher or lower.
abbrev pub LooseIn : Queue → (cell i : ℕ) → Type 0
LooseIn q cell i = Loose (before q.width q.k1.now q.k2.now) q.count i (set q.list.now i cell)

-- The same, and it can belong lower only.
abbrev pub LowIn : Queue → (cell i : ℕ) → Type 0
LowIn q cell i = Low (before q.width q.k1.now q.k2.now) q.count i (set q.list.now i cell)

-- Carrying the cell leaves the keys, with the width and the count.
pub record KeysStay (q q' : Queue) : Type 0 where
  pub width : q'.width ≡ q.width
  pub count : q'.count ≡ q.count
  pub first : q'.k1.now ≡ q.k1.now
  pub second : q'.k2.now ≡ q.k2.now

-- What is left of q when the empty place has gone from `start` to i.
abbrev pub SiftedIn : Queue → Queue → (cell start i : ℕ) → ((ℕ → ℕ → Bool) → List ℕ → Type 0) → Type 0
SiftedIn q q' cell start i P = Sifted q.width q.count cell start i q.k1.now q.k2.now q.place.now q.list.now q'.place.now q'.list.now P
