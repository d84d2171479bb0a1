-- The tables that hold a queue, and what the calls promise.
-- `room` is the number of cells, `count` how many are queued; k1 and k2 are the key numbers, `place` each cell's place in the queue, and `list` holds the queue.
use Rattle.std.specs.Prelude.{◌≡◌, Bool, true, false, not, List, map, ℕ, ◌+◌, ◌≤◌, ◌<◌, get_or, set, length, eqb}
use Rattle.queue.specs.Order.{before}

-- The place of a cell that is not queued, and the content of an unused place of the list.
abbrev pub absent : ℕ
absent = 65535

-- The most cells that a plan has.
abbrev pub most : ℕ
most = 4096

-- A cell with this place is queued.
unfoldable pub is_place : ℕ → Bool
is_place x = not (eqb x absent)

-- Membership: for each cell, whether it is queued.
unfoldable pub members : List ℕ → List Bool
members place = map is_place place

-- List and places agree: the first `count` places of the list name the queued cells, each once.
pub record Agree (room count : ℕ) (place list : List ℕ) : Type 0 where
  pub small : room ≤ most
  pub fits : count ≤ room
  pub length_place : length place ≡ room
  pub length_list : length list ≡ room
  -- Each used place of the list names a cell, and this cell has that place.
  pub named : (i : ℕ) → i < count → get_or list i 0 < room
  pub placed : (i : ℕ) → i < count → get_or place (get_or list i 0) 0 ≡ i
  -- A cell with a used place is named there; every other cell is absent.
  pub listed : (c : ℕ) → c < room → get_or place c 0 < count → get_or list (get_or place c 0) 0 ≡ c
  pub gone : (c : ℕ) → c < room → count ≤ get_or place c 0 → get_or place c 0 ≡ absent
  pub unused : (i : ℕ) → count ≤ i → i < room → get_or list i 0 ≡ absent

-- All tables have their lengths, and list and places agree.
pub record Tables (width room count : ℕ) (k1 k2 place list : List ℕ) : Type 0 where
  pub wide : 0 < width
  pub length1 : length k1 ≡ room
  pub length2 : length k2 ≡ room
  pub agree : Agree room count place list

-- Place y of a binary heap is right under place x: it is 2x + 1 or 2x + 2.
pub record Under (x y : ℕ) : Type 0 where
  pub low : x + x < y
  pub high : y ≤ x + x + 2

-- The list is a binary heap: no cell comes before the one that it is right under.
pub record Ordered (lt : ℕ → ℕ → Bool) (count : ℕ) (list : List ℕ) : Type 0 where
  pub holds : (x y : ℕ) → Under x y → y < count → lt (get_or list y 0) (get_or list x 0) ≡ false

-- A true heap: tables that hold a queue of `count` cells. A cell not queued has both key numbers 0.
pub record Heap (width room count : ℕ) (k1 k2 place list : List ℕ) : Type 0 where
  pub tables : Tables width room count k1 k2 place list
  pub blank : (c : ℕ) → c < room → get_or place c 0 ≡ absent → (get_or k1 c 0 ≡ 0) × (get_or k2 c 0 ≡ 0)
  pub ordered : Ordered (before width k1 k2) count list

-- What each change promises. Primes mark the tables afterwards.
-- Determined: both key tables, which cells are queued and so the count; and with them, by `heap`, the entries of absent cells and of unused places.
-- Left open: the order inside the list, with the places; the list is a binary heap again. Where nothing changes, `EntryKept` leaves nothing open.
pub record Changed (width room count cell first second : ℕ) (queued : Bool) (k1 k2 place k1' k2' place' list' : List ℕ) : Type 0 where
  pub key1 : k1' ≡ set k1 cell first
  pub key2 : k2' ≡ set k2 cell second
  pub membership : members place' ≡ set (members place) cell queued
  pub heap : Heap width room count k1' k2' place' list'

-- Where every entry is what it was, under the same keys, still queued or still absent, the count, the list and the places stay as they were, order and all.
abbrev pub EntryKept : (count : ℕ) (k1 k2 place list : List ℕ) (count' : ℕ) (k1' k2' place' list' : List ℕ) → Type 0
EntryKept count k1 k2 place list count' k1' k2' place' list' =
    k1' ≡ k1 → k2' ≡ k2 → members place' ≡ members place → (count' ≡ count) × (place' ≡ place) × (list' ≡ list)

-- `cell` is queued, and no queued cell comes before it. There is one such cell: `least_only` in proofs/QueueLaws.antt.
pub record Least (width : ℕ) (k1 k2 : List ℕ) (queued : List Bool) (cell : ℕ) : Type 0 where
  pub member : get_or queued cell false ≡ true
  pub first : (x : ℕ) → get_or queued x false ≡ true → before width k1 k2 x cell ≡ false

-- `cell` is the least of every queue that has this list; of an empty one, which has none, it is 65,535.
unfoldable pub LeastOf : List ℕ → ℕ → Type 0
LeastOf list cell =
    (width count : ℕ) (k1 k2 place : List ℕ) → Heap width (length list) count k1 k2 place list
    → (0 < count → Least width k1 k2 (members place) cell) × (count ≡ 0 → cell ≡ absent)
