-- Neighbours, and the direction that leads from one to the other.
use Rattle.std.specs.Prelude.{◌≡◌, ℕ, ◌<◌, Option, Some, None}
use Rattle.plan.specs.Cells.{Stays, entered}

-- The move from cell a in direction d stays in the plan and enters cell b.
pub record Leads (width height a d b : ℕ) : Type 0 where
  pub direction : d < 4
  pub stays_in : Stays width height a d
  pub enters : entered width a d ≡ b

-- Cells a and b are neighbours: a move inside the plan leads from a to b.
pub record Neighbours (width height a b : ℕ) : Type 0 where
  pub direction : ℕ
  pub leads : Leads width height a direction b

-- What `toward` answers: the direction of the move that leads from cell a to cell b, or None where there is none.
pub data Toward (width height a b : ℕ) : Option ℕ → Type 0 where
  leading : {d : ℕ} → Leads width height a d b → Toward width height a b (Some d)
  nowhere : (Neighbours width height a b → ⊥) → Toward width height a b None
