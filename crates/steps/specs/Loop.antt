-- The loop over the tables: what a run of it starts from, and what it leaves.
use Rattle.std.specs.Prelude.{◌≡◌, Bool, ℕ, ◌*◌, ◌≤◌, length}
use Rattle.method.specs.Numbers.{most_cells}
use Rattle.method.specs.Loop.{run}
use Rattle.method.specs.During.{most, During}
use Rattle.tables.specs.Lent.{Tables, core}
use Rattle.entries.specs.declared.Aim.{Aim}
use Rattle.entries.specs.Aims.{hunt, most_g, Held}
use Rattle.entries.specs.Became.{Became}

-- The greatest limit that a loop is given: three steps for each cell of the largest plan.
abbrev pub most_steps : ℕ
most_steps = 3 * most_cells

-- What the loop starts from: the tables have their lengths and a true heap, and there holds what holds between the steps of a search (the method's `During`), with numbers that fit, the limit among them.
pub record Started (a : Aim) (limit count : ℕ) (t : Tables) : Type 0 where
  pub held : Held a count t
  pub bound : ℕ
  pub during : During (hunt a t.plan) bound (core t)
  pub small : most (hunt a t.plan) bound ≤ most_g
  pub limited : limit ≤ most_steps

-- What it leaves of `count₀` queued cells and the tables t: the tables of the method's run of at most `limit` steps, a true heap again, the number of those steps, and whether the search ended.
pub record Finished (a : Aim) (limit count₀ : ℕ) (t t' : Tables) (count steps : ℕ) (ended : Bool) : Type 0 where
  pub tables : Became a count t' (run (hunt a t.plan) limit (core t)).tables
  pub steps_are : steps ≡ length (run (hunt a t.plan) limit (core t)).steps
  pub ended_is : ended ≡ (run (hunt a t.plan) limit (core t)).ended
  -- no steps: no table is written, list and places neither
  pub untouched : steps ≡ 0 → (count ≡ count₀) × (t' ≡ t)
