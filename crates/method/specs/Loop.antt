-- The loop: which cell is taken, when it ends, and at most so many steps of it.
use Rattle.std.specs.Prelude.{Bool, true, false, List, [], ◌∷◌, ℕ, zero, suc}
use Rattle.std.proofs.Math.Bool.{Bool-discrete}
use Rattle.std.proofs.Math.Option.{Option, none, some}
use Rattle.std.proofs.Math.Decide.{dec_lt}
use Rattle.decide.specs.Choose.{choose}
use Rattle.method.specs.Graph.{Graph, Hunt}
use Rattle.method.specs.Tables.{Tables, g_at, rhs_at, queued_at, stored_key, calculated_key}
use Rattle.method.specs.Steps.{Kind, kind_of, stepped}

-- The one of two queued cells that is taken first: by stored key, then by the tie.
unfoldable pub sooner : Graph → Tables → ℕ → ℕ → ℕ
sooner G T a b =
    choose (dec_lt (stored_key T a) (stored_key T b)) a
    (choose (dec_lt (stored_key T b) (stored_key T a)) b (choose (Bool-discrete (G.earlier a b) true) a b))

unfoldable pub soonest : Graph → Tables → ℕ → Option ℕ → Option ℕ
soonest G T a none = some a
soonest G T a (some b) = some (sooner G T a b)

-- The least of the queued cells below n.
unfoldable pub least_queued : Graph → Tables → ℕ → Option ℕ
least_queued G T zero = none
least_queued G T (suc n) =
    choose (Bool-discrete (queued_at T n) true) (soonest G T n (least_queued G T n)) (least_queued G T n)

-- "While the least stored key is below the target's calculated key, or rhs of the target is above its g, take one step on the least cell. An empty queue has an infinite least key."
unfoldable pub goes_on : Hunt → Tables → Option ℕ → Option ℕ
goes_on H T none = none
goes_on H T (some u) =
    choose (dec_lt (stored_key T u) (calculated_key H T H.target)) (some u)
    (choose (dec_lt (g_at T H.target) (rhs_at T H.target)) (some u) none)

-- The cell of the next step; none if the search has ended.
unfoldable pub next_cell : Hunt → Tables → Option ℕ
next_cell H T = goes_on H T (least_queued H.graph T H.graph.cells)

-- A step taken: what was done, and on which cell.
pub record Step : Type 0 where
  pub kind : Kind
  pub cell : ℕ

-- The tables as the last step left them, the steps in order, and whether the search ended by itself.
pub record Ran : Type 0 where
  pub tables : Tables
  pub steps : List Step
  pub ended : Bool

abbrev pub after : Step → Ran → Ran
after x r = record { tables = r.tables; steps = x ∷ r.steps; ended = r.ended }

unfoldable pub is_none : Option ℕ → Bool
is_none none = true
is_none (some u) = false

unfoldable pub run_on : Hunt → (Tables → Ran) → Tables → Option ℕ → Ran
run_on H rest T none = record { tables = T; steps = []; ended = true }
run_on H rest T (some u) = after (record { kind = kind_of H T u; cell = u }) (rest (stepped H T u))

-- The search's loop, cut off after `limit` steps.
unfoldable pub run : Hunt → ℕ → Tables → Ran
run H zero T = record { tables = T; steps = []; ended = is_none (next_cell H T) }
run H (suc limit) T = run_on H (λ T'. run H limit T') T (next_cell H T)
