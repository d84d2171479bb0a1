-- Soundness as the check looks at it: rules that are local to the record, to one cell, or to one cell and direction; and the first place at fault, where it stops.
use Rattle.std.specs.Prelude.{◌≡◌, ◌⊎◌, ◌≢◌, List, ℕ, ◌+◌, ◌*◌, ◌≤◌, ◌<◌, min, get_or, Option, Some, None}
use Rattle.method.specs.Numbers.{infinite, most_estimate, most_searches, growth}
use Rattle.method.specs.Tables.{NotAbove}
use Rattle.queue.specs.Rules.{EntryRule, AbsentRule, QueuedRule}
use Rattle.plan.specs.Directions.{opposite}
use Rattle.plan.specs.Cells.{Stays, entered, estimate}
use Rattle.plan.specs.Costs.{Plan, byte, shut, IsByte}
use Rattle.tables.specs.declared.Session.{Session}
use Rattle.tables.specs.declared.Fault.{Fault}
use Rattle.tables.specs.declared.Fault.TheVariants.{InRecord, InCell, InMove}
use Rattle.tables.specs.Lent.{Tables, cells, floor}

-- The greatest finite number after so many searches.
abbrev pub most : Session → ℕ
most s = growth * s.searches

-- The record's cells and numbers.
pub record Numbers (s : Session) : Type 0 where
  pub hunter : s.hunter < cells s
  pub target : s.target < cells s
  pub origin : s.origin < cells s
  pub goal : s.goal < cells s
  pub count : s.count ≤ cells s
  pub searches : s.searches ≤ most_searches
  pub km : s.km ≤ most_estimate * s.searches

-- The sum that an open move into cell v gives, k being its parent code: v's rhs r is this sum if v's parent p is there, and not above it, unless v is the search's hunter.
pub record SumRule (hunter v r p sum k : ℕ) : Type 0 where
  pub gives : p ≡ k → r ≡ sum
  pub least : v ≢ hunter → r ≤ sum

-- The move of byte b into cell v from a cell whose g is x: a cost or shut; if shut, v's parent is not there; if open, its g + cost obeys the rule of sums.
pub record MoveRule (hunter b x v r p k : ℕ) : Type 0 where
  pub is_byte : IsByte b
  pub closed : b ≡ shut → p ≢ k
  pub opened : b ≢ shut → SumRule hunter v r p (x + b) k

-- The move from cell u, whose g is x, in direction d: one that would leave the plan is shut, and u's parent is not there; any other is held against the cell entered.
pub record WayRule (p : Plan) (rhs parent : List ℕ) (hunter x u d : ℕ) : Type 0 where
  pub leaves : (Stays p.width p.height u d → ⊥) → (byte p u d ≡ shut) × (get_or parent u 0 ≢ d + 1)
  pub stays_in : Stays p.width p.height u d
      → MoveRule hunter (byte p u d) x (entered p.width u d) (get_or rhs (entered p.width u d) 0) (get_or parent (entered p.width u d) 0) (opposite d + 1)

-- A cell's own numbers: g in its bound; the hunter's rhs in its bound and its parent 0; another cell's parent 0 exactly if its rhs is infinite.
pub record OwnRule (bound hunter s g r p : ℕ) : Type 0 where
  pub g_le : (g ≡ infinite) ⊎ (g ≤ bound)
  pub hunter_le : s ≡ hunter → (r ≤ bound) × (p ≡ 0)
  pub unreached : s ≢ hunter → p ≡ 0 → r ≡ infinite
  pub reached : s ≢ hunter → p ≢ 0 → (p ≤ 4) × (r ≢ infinite)

-- Cell u, whose g is x and rhs y, is queued under a key not above the calculated one.
pub record WaitingRule (s : Session) (k1 k2 place list : List ℕ) (x y u : ℕ) : Type 0 where
  pub queued : QueuedRule s.count place list u
  pub key : NotAbove (get_or k1 u 0) (get_or k2 u 0) (min x y + estimate s.width u s.goal + s.km) (min x y)

-- The rules of cell u by itself, and the queue's rule of place u of the list. The cell is queued exactly if its g and rhs differ.
pub record AloneRule (s : Session) (g rhs parent k1 k2 place list : List ℕ) (u : ℕ) : Type 0 where
  pub entry : EntryRule s.width (cells s) s.count k1 k2 place list u
  pub own : OwnRule (most s) s.origin u (get_or g u 0) (get_or rhs u 0) (get_or parent u 0)
  pub idle : get_or g u 0 ≡ get_or rhs u 0 → AbsentRule k1 k2 place u
  pub waiting : get_or g u 0 ≢ get_or rhs u 0 → WaitingRule s k1 k2 place list (get_or g u 0) (get_or rhs u 0) u

-- The two rules that the walk tests, of the tables t: cell u by itself, and its move in direction d.
abbrev pub AloneIn : Session → Tables → ℕ → Type 0
AloneIn s t u = AloneRule s t.g t.rhs t.parent t.k1 t.k2 t.place t.list u

abbrev pub WayIn : Session → Tables → ℕ → ℕ → Type 0
WayIn s t u d = WayRule (floor s t.plan) t.rhs t.parent s.origin (get_or t.g u 0) u d

-- Every rule of cell u.
pub record CellRules (s : Session) (t : Tables) (u : ℕ) : Type 0 where
  pub alone : AloneIn s t u
  pub ways : (d : ℕ) → d < 4 → WayIn s t u d

-- Every rule before cell u: those of the record, and of each cell before u.
pub record RulesBefore (s : Session) (t : Tables) (u : ℕ) : Type 0 where
  pub numbers : Numbers s
  pub each_cell : (v : ℕ) → v < u → CellRules s t v

-- "The check of this stops at the first cell and direction at fault." The order: the record; then cell by cell, first the cell by itself, then its moves in direction order.
-- Every rule before the place named holds, and the rule there fails.
pub data FirstFault (s : Session) (t : Tables) : Option Fault → Type 0 where
  -- every rule holds
  nowhere : RulesBefore s t (cells s) → FirstFault s t None
  -- the record's own numbers fail
  in_record : (Numbers s → ⊥) → FirstFault s t (Some InRecord)
  -- cell u by itself fails
  in_cell : {u : ℕ} → u < cells s → RulesBefore s t u → (AloneIn s t u → ⊥) → FirstFault s t (Some (InCell u))
  -- cell u by itself holds, and so do its moves before direction d; the move in direction d fails
  in_move : {u d : ℕ} → u < cells s → d < 4 → RulesBefore s t u → AloneIn s t u → ((e : ℕ) → e < d → WayIn s t u e) → (WayIn s t u d → ⊥) → FirstFault s t (Some (InMove u d))
