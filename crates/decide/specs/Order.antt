-- Orders of numbers, and the order of a plan's cells by column.
use Rattle.std.specs.Prelude.{◌≡◌, Bool, true, false, ◌&&◌, ◌||◌, ℕ, ◌%◌, ltb, eqb}

-- x is the smaller number, or the numbers are equal and `rest` says so.
unfoldable pub less_or : ℕ → ℕ → Bool → Bool
less_or x y rest = ltb x y || (eqb x y && rest)

-- "The smaller column, then the smaller row": in one column the smaller row has the smaller cell number (`column_row` in proofs/OrderLaws.antt).
unfoldable pub column_first : ℕ → ℕ → ℕ → Bool
column_first width a b = less_or (a % width) (b % width) (ltb a b)

-- The laws of an order; total says that two cells of which neither is before the other are one cell.
pub record Order (lt : ℕ → ℕ → Bool) : Type 0 where
  pub irreflexive : (a : ℕ) → lt a a ≡ false
  pub transitive : (a b c : ℕ) → lt a b ≡ true → lt b c ≡ true → lt a c ≡ true
  pub total : (a b : ℕ) → lt a b ≡ false → lt b a ≡ false → a ≡ b
