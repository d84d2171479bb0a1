-- Sound tables have small numbers, and hold a true heap.
use mathlib.Core.Path.{◌≡◌}
use mathlib.Core.Logic.{◌⊎◌, inl, inr, ⊎_elim}
use mathlib.Core.List.{List}
use Prim.Native.Nat.{ℕ, ◌+◌, ◌*◌, ◌≤◌, ◌<◌}
use native.Mathlib.Omega.{arith}
use native.Mathlib.Decide.{dec_lt}
use lib.ListN.{get_or, length, get_or-eq_default}
use Rattle.method.specs.Numbers.{infinite, most_cost, growth}
use Rattle.method.proofs.Theorems.{rhs_below}
use Rattle.plan.specs.declared.Spot.{Spot}
use Rattle.tables.specs.declared.Session.{Session}
use Rattle.tables.specs.Lent.{Tables, tables, frame, cells}
use Rattle.tables.specs.Sound.{Sound}
use Rattle.tables.proofs.FrameLaws.{graph_in_laws}
use Rattle.entries.specs.Aims.{aim_of, Held, Small, most_g, most_rhs}

-- A list is small if its cells' numbers are: behind its end stands 0.
pub small_by : (l : List ℕ) (n : ℕ) {bound : ℕ} → length l ≡ n → ((k : ℕ) → k < n → (get_or l k 0 ≡ infinite) ⊎ (get_or l k 0 ≤ bound)) → Small bound l
small_by l n {bound} z f k = at (dec_lt k n)
  where
    at : Dec (k < n) → (get_or l k 0 ≡ infinite) ⊎ (get_or l k 0 ≤ bound)
    at (yes h) = f k h
    at (no h) = inr (omega (arith, get_or-eq_default l 0 {n = k} (omega arith)))

module _ {s : Session} {t : Tables} (S : Sound s t) where
  pub sound_small_g : Small most_g t.g
  sound_small_g =
      small_by t.g (cells s) S.numbers.sized.g
      (λ k l. ⊎_elim (λ (e : get_or t.g k 0 ≡ infinite). inl e) (λ (h : get_or t.g k 0 ≤ growth * s.searches). inr (omega (arith, S.numbers.searches_le))) (S.numbers.g_le k l))

  pub sound_small_rhs : Small most_rhs t.rhs
  sound_small_rhs =
      small_by t.rhs (cells s) S.numbers.sized.rhs
      (λ k l. ⊎_elim (λ (e : get_or t.rhs k 0 ≡ infinite). inl e) (λ (h : get_or t.rhs k 0 ≤ growth * s.searches + most_cost). inr (omega (arith, S.numbers.searches_le)))
      (rhs_below (graph_in_laws (frame s) t.plan S.plan.size) S.numbers k l))

  -- .. whatever the plan
  pub sound_held : (plan : List ℕ) (at : Spot) → Held (aim_of s at) s.count (tables plan t.g t.rhs t.parent t.k1 t.k2 t.place t.list)
  sound_held plan at = record { sized = S.numbers.sized; heap = S.heap }
