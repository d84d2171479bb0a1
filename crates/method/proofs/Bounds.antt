-- How large the numbers grow, and that every step keeps what holds between the steps of a search.
use mathlib.Core.Path.{◌≡◌, refl}
use mathlib.Core.Logic.{◌⊎◌, inl, inr, ◌≢◌}
use Prim.Native.Nat.{ℕ, ◌+◌, ◌*◌, ◌≤◌, ◌<◌}
use native.Mathlib.Omega.{arith}
use native.Mathlib.Decide.{ℕ_discrete}
use Rattle.method.specs.Numbers.{infinite, most_cost, most_estimate}
use Rattle.method.specs.Graph.{Hunt}
use Rattle.method.specs.Tables.{Tables, Sized, g_at, rhs_at, parent_at, stored_key, lesser}
use Rattle.method.specs.Steps.{Kind, lower}
use Rattle.method.specs.During.{Stands, Inconsistent, Right, Bound, most, During}
use Rattle.method.proofs.Notions.{ReachedAt, Pick, Did, did_put_back, did_lower, did_raise}
use Rattle.method.proofs.Facts.{Due, rhs_le, floor_keep, lacking, lacking_lower, lacking_le, lacking_keep, lacking_drop}
use Rattle.method.proofs.Keeping.{keep, lower_hunter, raise_hunter}

-- A finite number is within its bound.
pub finite_le : {n B : ℕ} → (n ≡ infinite) ⊎ (n ≤ B) → n < infinite → n ≤ B
finite_le (inl e) f = absurd (omega arith)
finite_le (inr h) f = h

-- A number is infinite, or has what every finite one has.
pub or_infinite : {P : Type 0} (n : ℕ) → (n ≢ infinite → P) → (n ≡ infinite) ⊎ P
or_infinite {P} n f = at (ℕ_discrete n infinite)
  where
    at : Dec (n ≡ infinite) → (n ≡ infinite) ⊎ P
    at (yes e) = inl e
    at (no m) = inr (f m)

-- What is within a bound is within a greater one.
pub bound_more : {H : Hunt} {A B : ℕ} {T : Tables} → A ≤ B → Bound H A T → Bound H B T
bound_more l b = record { g = λ s i f. omega (arith, b.g s i f); hunter = omega (arith, b.hunter) }

-- then every finite rhs is at most one cost above B
pub rhs_bound : {H : Hunt} {B : ℕ} {T : Tables} → Stands H → Right H T → Bound H B T → (s : ℕ) → s < H.graph.cells → rhs_at T s < infinite → rhs_at T s ≤ B + most_cost
rhs_bound {H} {B} {T} L R b s l fin = at (ℕ_discrete s H.hunter)
  where
    via : ReachedAt H.graph T s → rhs_at T s ≤ B + most_cost
    via (inl z) = absurd (omega arith)
    via (inr v) =
        omega (
          arith,
          v.1.sum,
          L.laws.cost_le s (parent_at T s) v.1.from v.1.cost v.1.comes,
          b.g v.1.from (L.laws.from_in s (parent_at T s) v.1.from v.1.cost v.1.comes) (omega (arith, v.1.sum)),
        )

    at : Dec (s ≡ H.hunter) → rhs_at T s ≤ B + most_cost
    at (yes q) = rw q (omega (arith, b.hunter))
    at (no n) = via (R.least s l n).reached

-- What holds at the start of a search whose numbers are within A.
pub starts : {H : Hunt} {A : ℕ} {T : Tables} → Stands H → most H A + most_cost + most_estimate + H.km < infinite → Sized H.graph.cells T → Right H T → Bound H A T
    → During H A T
starts {H} {A} {T} L fits z R b = record {
  stands = L;
  fits = fits;
  sized = z;
  right = R;
  last = 0;
  floor = λ s l q. omega arith;
  B = A;
  bound = b;
  room = omega (arith, lacking_lower H 0 T, lacking_le lower H 0 T);
}

module _ {H : Hunt} {A : ℕ} {T : Tables} (D : During H A T) where
  pub due : {u : ℕ} → Pick H T u → Due H D.last T u
  due P = record { stands = D.stands; right = D.right; floor = D.floor; pick = P }

  -- a step at u: the bound goes up by one cost if u was lowered
  grown : (B' : ℕ) {T' : Tables} {u : ℕ} {k : Kind} → Pick H T u → Did H T T' u k → Sized H.graph.cells T' → Bound H B' T'
      → B' + most_cost * lacking lower H (stored_key T u) T' ≤ D.B + most_cost * lacking lower H D.last T → During H A T'
  grown B' {T'} {u} P d z b le = record {
    stands = D.stands;
    fits = D.fits;
    sized = z;
    right = keep D.stands D.right P d;
    last = stored_key T u;
    floor = floor_keep (due P) d;
    B = B';
    bound = b;
    room = omega (arith, D.room, lacking_lower H D.last T, lacking_lower H (stored_key T u) T');
  }

  pub during_keep : {T' : Tables} {u : ℕ} {k : Kind} → Pick H T u → Did H T T' u k → Sized H.graph.cells T' → During H A T'
  during_keep {T'} {u} P (did_put_back b) z =
      let d = did_put_back b in
      grown D.B P d z
      (record {
        g = λ s l f. omega (arith, b.g s l, D.bound.g s l (omega (arith, b.g s l)));
        hunter = omega (arith, b.rhs H.hunter D.stands.hunter_in, D.bound.hunter);
      })
      (omega (arith, lacking_keep (due P) d lower))
  during_keep {T'} {u} P (did_raise b) z =
      let d = did_raise b in
      grown D.B P d z
      (record { g = λ s l f. at s l f (ℕ_discrete s u); hunter = omega (arith, (raise_hunter D.stands D.right P b).rhs, D.bound.hunter) })
      (omega (arith, lacking_keep (due P) d lower))
    where
      at : (s : ℕ) → s < H.graph.cells → g_at T' s < infinite → Dec (s ≡ u) → g_at T' s ≤ D.B
      at s l f (yes e) =
          let f' : g_at T' u < infinite = rw e at f in
          absurd (omega (arith, b.g_u))
      at s l f (no n) = omega (arith, b.g s l n, D.bound.g s l (omega (arith, b.g s l n)))
  during_keep {T'} {u} P (did_lower b) z =
      let d = did_lower b in
      grown (D.B + most_cost) P d z
      (record { g = λ s l f. at s l f (ℕ_discrete s u); hunter = omega (arith, (lower_hunter D.stands D.right P b).rhs, D.bound.hunter) })
      (omega (arith, lacking_drop (due P) d))
    where
      at : (s : ℕ) → s < H.graph.cells → g_at T' s < infinite → Dec (s ≡ u) → g_at T' s ≤ D.B + most_cost
      at s l f (yes e) = rw e (omega (arith, b.g_u, rhs_bound D.stands D.right D.bound u P.u_in (omega (arith, b.over, D.right.g_le u P.u_in))))
      at s l f (no n) = omega (arith, b.g s l n, D.bound.g s l (omega (arith, b.g s l n)))

  pub during_last : {T' : Tables} {u : ℕ} {k : Kind} (P : Pick H T u) (d : Did H T T' u k) (z : Sized H.graph.cells T') → (during_keep P d z).last ≡ stored_key T u
  unfolding during_keep grown
  during_last P (did_put_back b) z = refl
  during_last P (did_raise b) z = refl
  during_last P (did_lower b) z = refl

  -- every number is infinite, or small enough to be added to
  pub g_most : (s : ℕ) → s < H.graph.cells → (g_at T s ≡ infinite) ⊎ (g_at T s + most_cost ≤ most H A)
  g_most s l = or_infinite (g_at T s) (λ n. omega (arith, D.bound.g s l (omega (arith, n, D.right.g_le s l)), D.room))

  pub rhs_most : (s : ℕ) → s < H.graph.cells → (rhs_at T s ≡ infinite) ⊎ (rhs_at T s ≤ most H A)
  rhs_most s l = or_infinite (rhs_at T s) (λ n. omega (arith, rhs_bound D.stands D.right D.bound s l (omega (arith, n, rhs_le H T D.right s l)), D.room))

  -- a queued cell's lesser number is finite, and a finite one is small
  pub lesser_finite : (s : ℕ) → s < H.graph.cells → Inconsistent T s → lesser T s < infinite
  lesser_finite s l q = omega (arith, q, D.right.g_le s l, rhs_le H T D.right s l)

  pub lesser_most : (s : ℕ) → s < H.graph.cells → lesser T s < infinite → lesser T s ≤ most H A
  lesser_most s l f = at (g_most s l) (rhs_most s l)
    where
      at : (g_at T s ≡ infinite) ⊎ (g_at T s + most_cost ≤ most H A) → (rhs_at T s ≡ infinite) ⊎ (rhs_at T s ≤ most H A) → lesser T s ≤ most H A
      at (inl e) (inl e') = absurd (omega arith)
      at (inl e) (inr h) = omega arith
      at (inr h) e = omega arith

  -- no sum reaches infinite
  pub sum_fits : (s c : ℕ) → s < H.graph.cells → g_at T s < infinite → c ≤ most_cost → g_at T s + c < infinite
  sum_fits s c l f h = at (g_most s l)
    where
      at : (g_at T s ≡ infinite) ⊎ (g_at T s + most_cost ≤ most H A) → g_at T s + c < infinite
      at (inl e) = absurd (omega arith)
      at (inr m) = omega (arith, D.fits)

  pub key_fits : (s : ℕ) → s < H.graph.cells → lesser T s < infinite → lesser T s + H.graph.estimate s H.target + H.km < infinite
  key_fits s l f = omega (arith, lesser_most s l f, D.stands.laws.estimate_le s H.target l D.stands.target_in, D.fits)
