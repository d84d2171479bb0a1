-- The tables as lists, the calculated key, "found anew" and "the queue entry is set right".
use Rattle.std.specs.Prelude.{◌≡◌, Bool, true, false, ◌⊎◌, List, [], ◌∷◌, ℕ, ◌+◌, ◌*◌, ◌≤◌, ◌<◌, min, length, get_or, set}
use Rattle.std.proofs.Math.Decide.{ℕ_discrete, dec_lt}
use Rattle.decide.specs.Choose.{choose}
use Rattle.method.specs.Numbers.{infinite}
use Rattle.method.specs.Graph.{Move, Graph, Comes, Hunt}

-- "For each cell: g and rhs, a parent byte, two key numbers k1 and k2", and whether it is queued.
pub record Tables : Type 0 where
  pub g : List ℕ
  pub rhs : List ℕ
  pub parent : List ℕ
  pub k1 : List ℕ
  pub k2 : List ℕ
  pub queued : List Bool

abbrev pub g_at : Tables → ℕ → ℕ
g_at T s = get_or T.g s 0

abbrev pub rhs_at : Tables → ℕ → ℕ
rhs_at T s = get_or T.rhs s 0

abbrev pub parent_at : Tables → ℕ → ℕ
parent_at T s = get_or T.parent s 0

abbrev pub queued_at : Tables → ℕ → Bool
queued_at T s = get_or T.queued s false

-- Every table has a place for each of n cells.
pub record Sized (n : ℕ) (T : Tables) : Type 0 where
  pub g : length T.g ≡ n
  pub rhs : length T.rhs ≡ n
  pub parent : length T.parent ≡ n
  pub k1 : length T.k1 ≡ n
  pub k2 : length T.k2 ≡ n
  pub queued : length T.queued ≡ n

-- One cell's g; its rhs and parent; its queue entry.
abbrev pub with_g : Tables → ℕ → ℕ → Tables
with_g T s v = record { g = set T.g s v; rhs = T.rhs; parent = T.parent; k1 = T.k1; k2 = T.k2; queued = T.queued }

abbrev pub with_rhs : Tables → ℕ → ℕ → ℕ → Tables
with_rhs T s r p = record { g = T.g; rhs = set T.rhs s r; parent = set T.parent s p; k1 = T.k1; k2 = T.k2; queued = T.queued }

abbrev pub with_entry : Tables → ℕ → ℕ → ℕ → Bool → Tables
with_entry T s a b q = record { g = T.g; rhs = T.rhs; parent = T.parent; k1 = set T.k1 s a; k2 = set T.k2 s b; queued = set T.queued s q }

-- A key (k1, k2) as one number: both are below 2³², so its order compares k1 first.
abbrev pub key_number : ℕ → ℕ → ℕ
key_number a b = 4294967296 * a + b

-- Key (a, b) is not above key (c, d), "compared k1 first": `key_order` in proofs/Theorems says that it is the order of those numbers.
abbrev pub NotAbove : ℕ → ℕ → ℕ → ℕ → Type 0
NotAbove a b c d = (a < c) ⊎ ((a ≡ c) × (b ≤ d))

abbrev pub stored_key : Tables → ℕ → ℕ
stored_key T s = key_number (get_or T.k1 s 0) (get_or T.k2 s 0)

-- "m the lesser of g and rhs"
abbrev pub lesser : Tables → ℕ → ℕ
lesser T s = min (g_at T s) (rhs_at T s)

-- "The calculated key of s is (m + estimate(s, target) + km, m); both infinite if m is": the first number.
unfoldable pub first_key : Hunt → ℕ → ℕ → ℕ
first_key H s m = choose (ℕ_discrete m infinite) infinite (m + H.graph.estimate s H.target + H.km)

abbrev pub calculated_key : Hunt → Tables → ℕ → ℕ
calculated_key H T s = key_number (first_key H s (lesser T s)) (lesser T s)

-- The cell is queued under its calculated key.
unfoldable pub enter : Hunt → Tables → ℕ → Tables
enter H T s = with_entry T s (first_key H s (lesser T s)) (lesser T s) true

-- The cell leaves the queue: "a cell not queued has both key numbers 0".
abbrev pub leave : Tables → ℕ → Tables
leave T s = with_entry T s 0 0 false

-- "the cell's queue entry is set right: queued under the calculated key if g ≠ rhs, else absent"
unfoldable pub set_right : Hunt → Tables → ℕ → Tables
set_right H T s = choose (ℕ_discrete (g_at T s) (rhs_at T s)) (leave T s) (enter H T s)

-- A sum g + cost over a move into a cell, and the move's parent code.
pub record Found : Type 0 where
  pub sum : ℕ
  pub code : ℕ

abbrev pub found : ℕ → ℕ → Found
found r k = record { sum = r; code = k }

-- One more move is looked at: it is taken if its sum is smaller.
unfoldable pub better : List ℕ → Found → Move → Found
better g f m = choose (dec_lt (get_or g m.cell 0 + m.cost) f.sum) (found (get_or g m.cell 0 + m.cost) m.code) f

unfoldable pub least_over : List ℕ → Found → List Move → Found
least_over g f [] = f
least_over g f (m ∷ l) = least_over g (better g f m) l

-- "the first least neighbour in direction order": infinite and parent 0 if there is none.
unfoldable pub anew : Graph → List ℕ → ℕ → Found
anew G g s = least_over g (found infinite 0) (G.into s)

-- "rhs, parent and entry are found anew"
unfoldable pub found_anew : Hunt → Tables → ℕ → Tables
found_anew H T s = set_right H (with_rhs T s (anew H.graph T.g s).sum (anew H.graph T.g s).code) s

-- Parent code p gives cell s the sum r: the move from `from` at `cost`.
pub record Via (G : Graph) (g : ℕ → ℕ) (s r p : ℕ) : Type 0 where
  pub from : ℕ
  pub cost : ℕ
  pub comes : Comes G s p from cost
  pub sum : r ≡ g from + cost

-- The two ways in which a cell's rhs r and parent p come about: none, or by the parent's move.
abbrev pub Reached : Graph → (ℕ → ℕ) → ℕ → ℕ → ℕ → Type 0
Reached G g s r p = ((r ≡ infinite) × (p ≡ 0)) ⊎ ((r < infinite) × Via G g s r p)

-- "rhs is the least g + cost over its neighbours' open moves into it (infinite if none), and its parent is a neighbour that gives this least sum, 0 exactly if infinite"
pub record Least (G : Graph) (g : ℕ → ℕ) (s r p : ℕ) : Type 0 where
  pub le_inf : r ≤ infinite
  pub least : (k w c : ℕ) → Comes G s k w c → r ≤ g w + c
  pub reached : Reached G g s r p

-- rhs and parent of s are the least over the moves into it.
abbrev pub LeastAt : Graph → Tables → ℕ → Type 0
LeastAt G T s = Least G (λ w. g_at T w) s (rhs_at T s) (parent_at T s)
