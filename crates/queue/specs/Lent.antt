-- What a call promises of a Queue, whose tables the caller lends: the promises of Queue.antt in its fields.
use Rattle.std.specs.Prelude.{◌≡◌, Bool, ℕ, length}
use Rattle.queue.specs.declared.Queue.{Queue}
use Rattle.queue.specs.Queue.{Heap, Changed, EntryKept}

-- The call keeps the caller's own tables: it writes in them, and puts none in another's place.
pub record SameTables (q q' : Queue) : Type 0 where
  pub k1 : q'.k1.ghost_name ≡ q.k1.ghost_name
  pub k2 : q'.k2.ghost_name ≡ q.k2.ghost_name
  pub place : q'.place.ghost_name ≡ q.place.ghost_name
  pub list : q'.list.ghost_name ≡ q.list.ghost_name

-- The tables hold a queue of as many cells as it counts, and their room is the list's length.
abbrev pub HeapIn : Queue → Type 0
HeapIn q = Heap q.width (length q.list.now) q.count q.k1.now q.k2.now q.place.now q.list.now

-- The queue q has become q': the cell has the key (first, second) there, and is queued or not.
abbrev pub ChangedIn : Queue → Queue → (cell first second : ℕ) → Bool → Type 0
ChangedIn q q' cell first second queued =
    Changed q.width (length q.list.now) q'.count cell first second queued q.k1.now q.k2.now q.place.now q'.k1.now q'.k2.now q'.place.now q'.list.now

-- Where every entry is what it was in q, all of q' is.
abbrev pub EntryKeptIn : Queue → Queue → Type 0
EntryKeptIn q q' =
    EntryKept q.count q.k1.now q.k2.now q.place.now q.list.now q'.count q'.k1.now q'.k2.now q'.place.now q'.list.now
