-- A run from a fresh start between two cells, which may be one: 3N steps end it, and then the target's rhs gives the least cost, or shows that no chain leads there.
use mathlib.Core.Path.{◌≡◌, refl}
use mathlib.Core.Bool.{Bool, true, false}
use mathlib.Core.Logic.{◌⊎◌, inl, inr, ◌≢◌}
use mathlib.Core.List.{[]}
use Prim.Native.Nat.{ℕ, ◌-◌, ◌*◌, ◌≤◌, ◌<◌}
use native.Mathlib.Omega.{arith}
use Rattle.method.specs.Numbers.{infinite, most_cost, growth}
use Rattle.method.specs.Graph.{Graph, GraphLaws}
use Rattle.method.specs.Tables.{rhs_at}
use Rattle.method.specs.Loop.{Ran, run}
use Rattle.method.specs.Session.{hunt_of, opened, fresh, way_from}
use Rattle.method.specs.Walk.{NoChain, Cheapest}
use Rattle.method.specs.During.{most, During}
use Rattle.method.proofs.Facts.{rhs_le, to_come_le}
use Rattle.method.proofs.Answers.{Stopped, no_chain, cheapest, trail}
use Rattle.method.proofs.Bounds.{sum_fits, rhs_most}
use Rattle.method.proofs.Running.{Went, went}
use Rattle.method.proofs.Searching.{sound_during}
use Rattle.method.proofs.Theorems.{open_sound}

-- The run of a fresh start, up to three steps for each cell.
abbrev pub fresh_run : Graph → ℕ → ℕ → Ran
fresh_run G hunter target = run (hunt_of G (opened hunter target)) (3 * G.cells) (fresh G hunter target)

-- The rhs of cell s after it.
abbrev pub fresh_rhs : Graph → ℕ → ℕ → ℕ → ℕ
fresh_rhs G hunter target s = rhs_at (fresh_run G hunter target).tables s

module _ {G : Graph} (L : GraphLaws G) {hunter target : ℕ} (hunter_in : hunter < G.cells) (target_in : target < G.cells) where
  -- What holds between the steps of a search holds at a fresh start,
  pub fresh_during : During (hunt_of G (opened hunter target)) 0 (fresh G hunter target)
  fresh_during = sound_during L (open_sound L hunter target hunter_in target_in)

  ran : Went (hunt_of G (opened hunter target)) 0 fresh_during.last (3 * G.cells) (fresh G hunter target) (fresh_run G hunter target)
  ran = went (3 * G.cells) fresh_during

  -- so the run ends by itself,
  stopped : Stopped (hunt_of G (opened hunter target)) (fresh_run G hunter target).tables
  stopped = at (fresh_run G hunter target).ended refl
    where
      at : (b : Bool) → (fresh_run G hunter target).ended ≡ b → Stopped (hunt_of G (opened hunter target)) (fresh_run G hunter target).tables
      at true e = ran.stopped e
      at false e = absurd (omega (arith, ran.cut e, to_come_le (hunt_of G (opened hunter target)) fresh_during.last (fresh G hunter target)))

  pub fresh_ran : During (hunt_of G (opened hunter target)) 0 (fresh_run G hunter target).tables
  fresh_ran = ran.during

  -- the target's rhs is infinite only where no chain leads there,
  pub fresh_none : fresh_rhs G hunter target target ≡ infinite → NoChain G hunter target
  fresh_none i = no_chain fresh_ran.stands fresh_ran.right stopped (λ s l f. sum_fits fresh_ran s most_cost l f (omega arith)) i

  finite : fresh_rhs G hunter target target ≢ infinite → fresh_rhs G hunter target target < infinite
  finite n = omega (arith, n, rhs_le (hunt_of G (opened hunter target)) (fresh_run G hunter target).tables fresh_ran.right target target_in)

  -- else what it has above the hunter's is the least cost,
  pub fresh_cheapest : fresh_rhs G hunter target target ≢ infinite
      → Cheapest G hunter target (fresh_rhs G hunter target target - fresh_rhs G hunter target hunter)
      (way_from (hunt_of G (opened hunter target)) (fresh_run G hunter target).tables.parent G.cells target [])
  fresh_cheapest n = (cheapest fresh_ran.stands fresh_ran.right stopped (finite n)).0

  -- and both are small.
  pub fresh_above : fresh_rhs G hunter target target ≢ infinite → fresh_rhs G hunter target hunter ≤ fresh_rhs G hunter target target
  fresh_above n = (trail fresh_ran.stands fresh_ran.right stopped (finite n)).3

  pub fresh_small : fresh_rhs G hunter target target ≢ infinite → fresh_rhs G hunter target target ≤ growth
  fresh_small n = at (rhs_most fresh_ran target target_in)
    where
      at : (fresh_rhs G hunter target target ≡ infinite) ⊎ (fresh_rhs G hunter target target ≤ most (hunt_of G (opened hunter target)) 0) → fresh_rhs G hunter target target ≤ growth
      at (inl e) = absurd (n e)
      at (inr l) = omega (arith, L.few)
