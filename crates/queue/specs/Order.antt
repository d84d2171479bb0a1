-- The order of cells in the queue: by (k1, k2, column, row).
use Rattle.std.specs.Prelude.{Bool, List, ℕ, get_or}
use Rattle.decide.specs.Order.{less_or, column_first}

-- Cell a comes before cell b, under the key numbers k1 and k2. It is an order: `before_order` in proofs/OrderLaws.antt.
unfoldable pub before : ℕ → List ℕ → List ℕ → ℕ → ℕ → Bool
before width k1 k2 a b = less_or (get_or k1 a 0) (get_or k1 b 0) (less_or (get_or k2 a 0) (get_or k2 b 0) (column_first width a b))
