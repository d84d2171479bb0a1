-- The tables while one cell is on its way: each entry has a key, and what an exchange of entries leaves.
use mathlib.Core.Path.{◌≡◌}
use mathlib.Core.Bool.{Bool}
use mathlib.Core.List.{List}
use Prim.Native.Nat.{ℕ, ◌<◌}
use native.Mathlib.Omega.{arith}
use lib.ListN.{get_or, set, length}
use Rattle.queue.specs.Queue.{members, Tables}
use Rattle.queue.specs.Order.{before}
use Rattle.queue.specs.Sift.{Sifted, place_after, list_after}
use Rattle.queue.proofs.HeapLaws.{Swapped}
use Rattle.queue.proofs.PlaceLaws.{list_swapped, exchange_agree, exchange_members}

-- The same tables, of another shape.
pub reshaped : {width count cell start i : ℕ} {k1 k2 place list place' list' : List ℕ} {P Q : (ℕ → ℕ → Bool) → List ℕ → Type 0}
    → Sifted width count cell start i k1 k2 place list place' list' P
    → Q (before width k1 k2) (set list' i cell)
    → Sifted width count cell start i k1 k2 place list place' list' Q
reshaped s q = record { held = s.held; membership = s.membership; shape = q; keeps = s.keeps; unmoved = s.unmoved }

module _ {width room count : ℕ} {k1 k2 place list : List ℕ} (t : Tables width room count k1 k2 place list) where
  -- The room by another name.
  pub tables_as : {room' : ℕ} → room ≡ room' → Tables width room' count k1 k2 place list
  tables_as e = rw e at t

  pub has_key : {i : ℕ} → i < count → (get_or list i 0 < length k1) × (length k2 ≡ length k1)
  has_key {i} b = (omega (arith, t.agree.named i b, t.length1), omega (arith, t.length1, t.length2))

  module _ {i j : ℕ} (bi : i < count) (bj : j < count) where
    pub exchanged : {place' list' : List ℕ} → place' ≡ place_after i j place list → list' ≡ list_after i j list
        → (Tables width room count k1 k2 place' list') × (members place' ≡ members place) × (Swapped i j list list')
    exchanged ep el =
        rw (ep, el) (
          record { wide = t.wide; length1 = t.length1; length2 = t.length2; agree = exchange_agree t.agree bi bj },
          exchange_members t.agree bi bj,
          list_swapped t.agree bi bj,
        )
