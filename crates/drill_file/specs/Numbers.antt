-- The number by which a drill file is refused, 0 if none: its form, "then open's checks", each rule as a test, in the order of checking.
use Rattle.std.specs.Prelude.{◌≡◌, List, ℕ, zero, suc, ◌*◌, ◌<◌, take}
use Rattle.std.proofs.Common.{inl, inr, ⊎_elim, arith}
use Rattle.std.proofs.Math.Logic.Dec
use Rattle.std.proofs.Math.Decide.{ℕ_discrete, dec_lt}
use Rattle.decide.specs.Choose.{choose}
use Rattle.plan.specs.Cells.{Stays, stays}
use Rattle.plan.specs.Costs.{Plan, plan_of, cells, byte, shut, IsCost, is_cost, IsByte, Bytes, Edge, Edges}
use Rattle.drill_file.specs.File as drill_file

-- Whether a statement holds of every number below n.
unfoldable pub below : {P : ℕ → Type 0} → ((i : ℕ) → Dec (P i)) → (n : ℕ) → Dec ((i : ℕ) → i < n → P i)
below test zero = yes (λ i l. absurd (omega arith))
below {P} test (suc n) = at (test n) (below test n)
  where
    at : Dec (P n) → Dec ((i : ℕ) → i < n → P i) → Dec ((i : ℕ) → i < suc n → P i)
    at (no a) rest = no (λ h. a (h n (omega arith)))
    at (yes p) (no a) = no (λ h. a (λ i l. h i (omega arith)))
    at (yes p) (yes h) = yes (λ i l. last i l (ℕ_discrete i n))
      where
        last : (i : ℕ) → i < suc n → Dec (i ≡ n) → P i
        last i l (yes e) = rw e p
        last i l (no a) = h i (omega arith)

-- Whether a byte is a cost or shut.
unfoldable pub is_byte : (c : ℕ) → Dec (IsByte c)
is_byte c = at (is_cost c) (ℕ_discrete c shut)
  where
    at : Dec (IsCost c) → Dec (c ≡ shut) → Dec (IsByte c)
    at (yes p) e = yes (inl p)
    at (no a) (yes e) = yes (inr e)
    at (no a) (no b) = no (⊎_elim a b)

-- Whether every byte of a plan is one.
unfoldable pub bytes_hold : (p : Plan) → Dec (Bytes p)
bytes_hold p = at (below (λ s. below (λ d. is_byte (byte p s d)) 4) (cells p))
  where
    at : Dec ((s : ℕ) → s < cells p → (d : ℕ) → d < 4 → IsByte (byte p s d)) → Dec (Bytes p)
    at (yes h) = yes (λ s d l m. h s l d m)
    at (no a) = no (λ h. a (λ s l d m. h s d l m))

-- Whether a move that leaves the plan is shut, and every such move.
unfoldable pub edge_holds : (p : Plan) (s d : ℕ) → Dec (Edge p s d)
edge_holds p s d = at (stays p.width p.height s d) (ℕ_discrete (byte p s d) shut)
  where
    at : Dec (Stays p.width p.height s d) → Dec (byte p s d ≡ shut) → Dec (Edge p s d)
    at (yes m) e = yes (λ n. absurd (n m))
    at (no n) (yes e) = yes (λ _. e)
    at (no n) (no a) = no (λ h. a (h n))

unfoldable pub edges_hold : (p : Plan) → Dec (Edges p)
edges_hold p = at (below (λ s. below (edge_holds p s) 4) (cells p))
  where
    at : Dec ((s : ℕ) → s < cells p → (d : ℕ) → d < 4 → Edge p s d) → Dec (Edges p)
    at (yes h) = yes (λ s d l m. h s l d m)
    at (no a) = no (λ h. a (λ s l d m. h s d l m))

-- "then open's checks": "a given cell is N or more" (3), "at open: such a byte is not 255" (4), "byte 0 or 251 to 254" (5).
unfoldable pub open_number : Plan → ℕ → ℕ → ℕ
open_number p hunter target =
    choose (Dec.and (dec_lt hunter (cells p)) (dec_lt target (cells p)))
    (choose (edges_hold p)
    (choose (bytes_hold p) 0
    5)
    4)
    3

-- The plan of a file: its first 4N bytes.
abbrev pub plan_in : List ℕ → List ℕ
plan_in file = take (4 * drill_file.cells (drill_file.trailer_of file)) file

-- The floor plan that they make, of the size that the trailer tells.
abbrev pub floor_of : List ℕ → Plan
floor_of file = plan_of (drill_file.trailer_of file).width (drill_file.trailer_of file).height (plan_in file)

-- The number by which a file is refused, 0 if it is played: its form, "then open's checks".
unfoldable pub file_number : List ℕ → ℕ
file_number file =
    choose (ℕ_discrete (drill_file.form_number file) 0) (open_number (floor_of file) (drill_file.trailer_of file).hunter (drill_file.trailer_of file).target)
    (drill_file.form_number file)
