-- One search raises the greatest finite number by at most 1,024,250: the take-over raises nothing, and then each cell is lowered at most once, by one cost each time.
use mathlib.Core.Path.{◌≡◌}
use mathlib.Core.Logic.{◌⊎◌, inl, inr}
use Prim.Native.Nat.{ℕ, ◌+◌, ◌*◌, ◌≤◌}
use native.Mathlib.Omega.{arith}
use native.Mathlib.Decide.{dec_le}
use Rattle.method.specs.Numbers.{infinite, growth}
use Rattle.method.specs.Graph.{Graph, GraphLaws, Hunt}
use Rattle.method.specs.Tables.{Tables}
use Rattle.method.specs.Session.{Session, taken_over, search}
use Rattle.method.specs.Sound.{Sound}
use Rattle.method.specs.Growth.{FiniteUpTo}
use Rattle.method.specs.During.{most, During}
use Rattle.method.proofs.Bounds.{starts, g_most, rhs_most}
use Rattle.method.proofs.Readying.{ready}
use Rattle.method.proofs.Running.{went}
use Rattle.method.proofs.Searching.{hunt_taken, bound_taken, run_taken, during_start, went_to, of_search}

-- A greater bound holds too.
pub up_to_more : {cells least greater : ℕ} {T : Tables} → least ≤ greater → FiniteUpTo cells least T → FiniteUpTo cells greater T
up_to_more {least = least} {greater = greater} h F = record { g = λ s l. at (F.g s l); rhs = λ s l. at (F.rhs s l) }
  where
    at : {n : ℕ} → (n ≡ infinite) ⊎ (n ≤ least) → (n ≡ infinite) ⊎ (n ≤ greater)
    at (inl e) = inl e
    at (inr l) = inr (omega arith)

-- Between the steps no finite number is above what the search's start allows.
pub during_up_to : {H : Hunt} {A : ℕ} {T : Tables} → During H A T → FiniteUpTo H.graph.cells (most H A) T
during_up_to {H} {A} D = record { g = λ s l. at (g_most D s l); rhs = rhs_most D }
  where
    at : {n : ℕ} → (n ≡ infinite) ⊎ (n + 250 ≤ most H A) → (n ≡ infinite) ⊎ (n ≤ most H A)
    at (inl e) = inl e
    at (inr l) = inr (omega arith)

module _ {G : Graph} (L : GraphLaws G) {σ : Session} {T : Tables} (S : Sound G σ T) {before : ℕ} (F : FiniteUpTo G.cells before T) where
  -- After so many steps: the start is within `before`, and within the bound of sound tables, which leaves room for the sums; the lesser of both counts.
  ran_up_to : (limit : ℕ) → FiniteUpTo G.cells (before + growth) (run_taken G σ T limit).tables
  ran_up_to limit = at (dec_le before (bound_taken G σ T))
    where
      D : During (hunt_taken G σ T) (bound_taken G σ T) (taken_over G σ T).tables
      D = during_start L S

      at : Dec (before ≤ bound_taken G σ T) → FiniteUpTo G.cells (before + growth) (run_taken G σ T limit).tables
      at (yes h) =
          up_to_more (omega (arith, L.few)) (during_up_to (went limit (starts D.stands (omega (arith, D.fits)) D.sized D.right ((ready L S).within before F))).during)
      at (no n) = up_to_more (omega (arith, L.few, n)) (during_up_to (went_to L S limit).during)

  pub search_up_to : FiniteUpTo G.cells (before + growth) (search G σ T).tables
  search_up_to = of_search G σ T (λ o. FiniteUpTo G.cells (before + growth) o.tables) (λ _. up_to_more (omega arith) F) (λ _. ran_up_to (3 * G.cells))
