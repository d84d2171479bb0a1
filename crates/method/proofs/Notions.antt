-- What the proofs speak of: each kind of step as facts about every cell.
use mathlib.Core.Path.{◌≡◌}
use mathlib.Core.Logic.{◌⊎◌, ◌≢◌}
use Prim.Native.Nat.{ℕ, ◌+◌, ◌≤◌, ◌<◌}
use Rattle.method.specs.Numbers.{infinite}
use Rattle.method.specs.Graph.{Graph, Comes, Hunt}
use Rattle.method.specs.Tables.{Tables, g_at, rhs_at, parent_at, queued_at, stored_key, Reached, LeastAt}
use Rattle.method.specs.Steps.{Kind, put_back, lower, raise}
use Rattle.method.specs.During.{key, Inconsistent, QueueRight}

-- The queue is right at s, and holds it under the calculated key: its entry has been set right.
pub record EntryRight (H : Hunt) (T : Tables) (s : ℕ) : Type 0 where
  pub queue : QueueRight T s
  pub full : Inconsistent T s → stored_key T s ≡ key H T s

-- How rhs and parent of s came about.
abbrev pub ReachedAt : Graph → Tables → ℕ → Type 0
ReachedAt G T s = Reached G (λ w. g_at T w) s (rhs_at T s) (parent_at T s)

-- u is a least queued cell; how ties are broken does not matter here.
pub record Pick (H : Hunt) (T : Tables) (u : ℕ) : Type 0 where
  pub u_in : u < H.graph.cells
  pub queued : Inconsistent T u
  pub first : (s : ℕ) → s < H.graph.cells → Inconsistent T s → stored_key T u ≤ stored_key T s

pub record SameEntry (T T' : Tables) (s : ℕ) : Type 0 where
  pub stored : stored_key T' s ≡ stored_key T s
  pub queued : queued_at T' s ≡ queued_at T s

pub record Same (T T' : Tables) (s : ℕ) : Type 0 where
  pub rhs : rhs_at T' s ≡ rhs_at T s
  pub parent : parent_at T' s ≡ parent_at T s
  pub entry : SameEntry T T' s

pub record PutBack (H : Hunt) (T T' : Tables) (u : ℕ) : Type 0 where
  pub behind : stored_key T u < key H T u
  pub g : (s : ℕ) → s < H.graph.cells → g_at T' s ≡ g_at T s
  pub rhs : (s : ℕ) → s < H.graph.cells → rhs_at T' s ≡ rhs_at T s
  pub parent : (s : ℕ) → s < H.graph.cells → parent_at T' s ≡ parent_at T s
  pub entry_u : EntryRight H T' u
  pub entry : (s : ℕ) → s < H.graph.cells → s ≢ u → SameEntry T T' s

-- s got a smaller rhs from u
pub record Lowered (H : Hunt) (T T' : Tables) (u s : ℕ) : Type 0 where
  pub not_hunter : s ≢ H.hunter
  pub cost : ℕ
  pub comes : Comes H.graph s (parent_at T' s) u cost
  pub sum : rhs_at T' s ≡ rhs_at T u + cost
  pub less : rhs_at T' s < rhs_at T s
  pub entry : EntryRight H T' s

pub record Lower (H : Hunt) (T T' : Tables) (u : ℕ) : Type 0 where
  pub ready : stored_key T u ≡ key H T u
  pub over : rhs_at T u < g_at T u
  pub g_u : g_at T' u ≡ rhs_at T u
  pub rhs_u : rhs_at T' u ≡ rhs_at T u
  pub parent_u : parent_at T' u ≡ parent_at T u
  pub entry_u : EntryRight H T' u
  pub g : (s : ℕ) → s < H.graph.cells → s ≢ u → g_at T' s ≡ g_at T s
  pub cells : (s : ℕ) → s < H.graph.cells → s ≢ u → Same T T' s ⊎ Lowered H T T' u s
  pub all : (s k c : ℕ) → s ≢ H.hunter → s ≢ u → Comes H.graph s k u c → rhs_at T' s ≤ rhs_at T u + c

-- s keeps its rhs: it is the hunter, or u is not its parent
pub record Kept (H : Hunt) (T T' : Tables) (u s : ℕ) : Type 0 where
  pub rhs : rhs_at T' s ≡ rhs_at T s
  pub parent : parent_at T' s ≡ parent_at T s
  pub entry : s ≢ u → SameEntry T T' s
  pub not_parent : s ≢ H.hunter → (c : ℕ) → Comes H.graph s (parent_at T s) u c → ⊥

-- u was the parent of s: rhs and parent found anew
pub record Renewed (H : Hunt) (T T' : Tables) (u s : ℕ) : Type 0 where
  pub not_hunter : s ≢ H.hunter
  pub cost : ℕ
  pub comes : Comes H.graph s (parent_at T s) u cost
  pub found : LeastAt H.graph T' s
  pub entry : s ≢ u → EntryRight H T' s

pub record Raise (H : Hunt) (T T' : Tables) (u : ℕ) : Type 0 where
  pub ready : stored_key T u ≡ key H T u
  pub under : g_at T u < rhs_at T u
  pub g_u : g_at T' u ≡ infinite
  pub g : (s : ℕ) → s < H.graph.cells → s ≢ u → g_at T' s ≡ g_at T s
  pub entry_u : EntryRight H T' u
  pub cells : (s : ℕ) → s < H.graph.cells → Kept H T T' u s ⊎ Renewed H T T' u s

-- The hunter keeps rhs and parent.
pub record HunterKept (H : Hunt) (T T' : Tables) : Type 0 where
  pub rhs : rhs_at T' H.hunter ≡ rhs_at T H.hunter
  pub parent : parent_at T' H.hunter ≡ parent_at T H.hunter

-- What a step of a kind did on u.
pub data Did (H : Hunt) (T T' : Tables) (u : ℕ) : Kind → Type 0 where
  did_put_back : PutBack H T T' u → Did H T T' u put_back
  did_lower : Lower H T T' u → Did H T T' u lower
  did_raise : Raise H T T' u → Did H T T' u raise
