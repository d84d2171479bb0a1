-- Each listed cell with the next: what a walk over these pairs finds, and that an answer of all decides what holds of each.
use mathlib.Core.Path.{◌≡◌, refl, sym, ap, subst, ◌∙◌}
use mathlib.Core.Bool.{Bool, true, false}
use mathlib.Core.Logic.{◌≢◌}
use mathlib.Core.List.{List, [], ◌∷◌}
use Prim.Native.Nat.{ℕ, suc, ◌-◌, ◌<◌}
use native.Mathlib.Omega.{arith}
use lib.ListN.{length, get_or, take, drop}
use Rattle.std.specs.Bool.{MatchBool}
use Rattle.std.specs.List.{zip, AllWithin, HoldsAt}
use Rattle.std.specs.Iterator.Adapters.{zip_first, zip_second}
use Rattle.std.specs.Slice.Iter.{iter_rest}
use Rattle.std.proofs.iter.Yields.{fronts}
use Rattle.std.proofs.lemmas.Iterator.{YieldsList, YieldsList-from_slice, YieldsList-from_zip, zips}
use Rattle.std.proofs.lemmas.List.{length-drop, take_all}
use Rattle.std.proofs.lemmas.Grind.{get_or_default_zero}
use Rattle.std.proofs.lemmas.Slice.Zip.{length-zip, get_or-zip}
use Rattle.decide.specs.Decides.{Decides}
use Rattle.decide.proofs.DecideLaws.{decides_yes, decides_no}
use Rattle.plan.specs.Costs.{Plan, shut, byte}
use Rattle.plan.specs.Toward.{Leads, Neighbours}
use Rattle.along.specs.Along.{cell_at, Listed, Joined}

-- Neighbours on a plan of a size; a pair whose move is open; and one whose move is shut.
abbrev pub Beside : ℕ → ℕ → ℕ × ℕ → Type 0
Beside width height x = Neighbours width height x.0 x.1

abbrev pub Opens : Plan → ℕ × ℕ → Type 0
Opens p x = (d : ℕ) → Leads p.width p.height x.0 d x.1 → byte p x.0 d ≢ shut

abbrev pub Shuts : Plan → ℕ × ℕ → Type 0
Shuts p x = (d : ℕ) → Leads p.width p.height x.0 d x.1 → byte p x.0 d ≡ shut

-- Each listed cell with the next.
abbrev pub pairs : List ℕ → List (ℕ × ℕ)
pairs cells = zip cells (drop 1 cells)

-- A walk over the cells and the cells from the second on goes over the pairs ..
pub pairs_from : (cells : List ℕ) {s : _} {t : _} → zip_first s ≡ t → iter_rest t ≡ cells → iter_rest (zip_second s) ≡ take (length cells - 1) (drop 1 cells)
    → YieldsList (zips fronts fronts) (λ p. (p.0.now, p.1.now)) s (pairs cells)
pairs_from cells a e b = YieldsList-from_zip (YieldsList-from_slice cells (ap iter_rest a ∙ e)) (YieldsList-from_slice (drop 1 cells) (b ∙ all))
  where
    all : take (length cells - 1) (drop 1 cells) ≡ drop 1 cells
    all = take_all (length cells - 1) (drop 1 cells) (omega (arith, length-drop 1 cells))

-- .. one fewer than the cells ..
pairs_long : (cells : List ℕ) → length (pairs cells) ≡ length cells - 1
pairs_long [] = refl
pairs_long (x ∷ xs) = omega (arith, length-zip (x ∷ xs) xs)

-- .. the i-th of the i-th cell and the next.
pub pair_at : (cells : List ℕ) (i : ℕ) (d : ℕ × ℕ) → i < length (pairs cells) → (suc i < length cells) × (get_or (pairs cells) i d ≡ (cell_at cells i, cell_at cells (suc i)))
pair_at [] i d l = absurd (omega arith)
pair_at (x ∷ xs) i d l =
    let e = pairs_long (x ∷ xs) in (
      omega (arith, e),
      get_or-zip (x ∷ xs) xs i d (omega (arith, e)) (omega (arith, e))
          ∙ rw (get_or_default_zero (x ∷ xs) i d.0 (omega (arith, e)), get_or_default_zero xs i d.1 (omega (arith, e))) refl,
    )

-- So its first is a cell of the plan ..
pub pair_first : (cells : List ℕ) (n i a b : ℕ) → Listed n cells → i < length (pairs cells) → ◌≡◌ {A = ℕ × ℕ} (a, b) (get_or (pairs cells) i (a, b)) → a < n
pair_first cells n i a b L l e =
    let p = pair_at cells i (a, b) l in
    omega (arith, L i (omega (arith, p.0)), ap (λ (x : ℕ × ℕ). x.0) (e ∙ p.1))

-- .. and on a way its second is a neighbour.
pub pair_joined : (p : Plan) (cells : List ℕ) (i a b : ℕ) → Joined p cells → i < length (pairs cells) → ◌≡◌ {A = ℕ × ℕ} (a, b) (get_or (pairs cells) i (a, b)) → Neighbours p.width p.height a b
pair_joined p cells i a b J l e =
    let q = pair_at cells i (a, b) l in
    subst (λ (x : ℕ × ℕ). Neighbours p.width p.height x.0 x.1) (sym (e ∙ q.1)) (J i q.0)

-- What holds of each pair, and of none.
pub each_pair : (cells : List ℕ) (Yes No : ℕ × ℕ → Type 0) (r : Bool)
    → MatchBool r (AllWithin Yes (pairs cells) 0 (length (pairs cells))) ((i : ℕ) × (i < length (pairs cells)) × HoldsAt No (pairs cells) i)
    → MatchBool r ((i : ℕ) → suc i < length cells → Yes (cell_at cells i, cell_at cells (suc i))) ((i : ℕ) × (suc i < length cells) × No (cell_at cells i, cell_at cells (suc i)))
each_pair cells Yes No true h =
    λ i l. let m : i < length (pairs cells) = omega (arith, pairs_long cells) in subst Yes (pair_at cells i (0, 0) m).1 (h i (0, 0) (omega arith) m)
each_pair cells Yes No false h = let p = pair_at cells h.0 (0, 0) h.1 in (h.0, p.0, subst No p.1 (h.2 (0, 0)))

-- Such an answer decides what holds of each.
pub decides_each : {P Q : Type 0} (r : Bool) → MatchBool r P Q → (Q → P → ⊥) → Decides r P
decides_each true p n = decides_yes p
decides_each false q n = decides_no (n q)
