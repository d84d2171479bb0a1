-- The table's rule, by one test that is computed over all of its entries.
use mathlib.Core.Path.{◌≡◌}
use mathlib.Core.Bool.{Bool, true, false}
use Prim.Native.Nat.{ℕ, zero, suc, ◌+◌, ◌-◌, ◌*◌, ◌<◌}
use native.Mathlib.Omega.{arith}
use native.Mathlib.Decide.{ℕ_discrete}
use lib.Dec.{T, ltb, eqb, ltb→lt, eqb→eq}
use Rattle.plan.specs.Directions.{shifts, row_step, column_step, opposite}
use Rattle.plan.specs.Cells.{apart}

-- Direction d and the one that leads back.
pub record Opposes (d : ℕ) : Type 0 where
  pub rows : row_step d + row_step (opposite d) ≡ 2
  pub columns : column_step d + column_step (opposite d) ≡ 2
  pub back : opposite (opposite d) ≡ d
  pub small : opposite d < 4
  -- a step leads one row or one column away
  pub one_away : apart (row_step d) 1 + apart (column_step d) 1 ≡ 1
  -- no two directions have the same step
  pub named : row_step d + 2 * (1 - column_step d) ≡ d

both : Bool → Bool → Bool
both true b = b
both false b = false

both_is : (a b : Bool) → T (both a b) → T a × T b
unfolding both
both_is true b t = (tt, t)
both_is false b t = absurd t

-- the test holds of every number below n
every : (ℕ → Bool) → ℕ → Bool
every f zero = true
every f (suc n) = both (every f n) (f n)

every_at : (f : ℕ → Bool) (n : ℕ) → T (every f n) → (d : ℕ) → d < n → T (f d)
unfolding every
every_at f zero t d l = absurd (omega arith)
every_at f (suc n) t d l = at (λ k. every_at f n (both_is (every f n) (f n) t).0 d k) (ℕ_discrete d n)
  where
    at : (d < n → T (f d)) → Dec (d ≡ n) → T (f d)
    at ih (yes e) = rw e (both_is (every f n) (f n) t).1
    at ih (no m) = ih (omega arith)

opposing : ℕ → Bool
opposing d =
    both (both (eqb (row_step d + row_step (opposite d)) 2) (eqb (column_step d + column_step (opposite d)) 2))
    (both (both (eqb (opposite (opposite d)) d) (ltb (opposite d) 4))
    (both (eqb (apart (row_step d) 1 + apart (column_step d) 1) 1) (eqb (row_step d + 2 * (1 - column_step d)) d)))

opposing_is : (d : ℕ) → T (opposing d) → Opposes d
unfolding opposing
opposing_is d t =
    let p = both_is _ _ t in
    let q = both_is _ _ p.0 in
    let r = both_is _ _ p.1 in
    let s = both_is _ _ r.0 in
    let u = both_is _ _ r.1 in
    record {
      rows = eqb→eq _ _ q.0;
      columns = eqb→eq _ _ q.1;
      back = eqb→eq _ _ s.0;
      small = ltb→lt _ _ s.1;
      one_away = eqb→eq _ _ u.0;
      named = eqb→eq _ _ u.1;
    }

-- The opposite direction's law, over all entries.
pub opposes : (d : ℕ) → d < 4 → Opposes d
unfolding shifts every both opposing
opposes d l = opposing_is d (every_at opposing 4 tt d l)
