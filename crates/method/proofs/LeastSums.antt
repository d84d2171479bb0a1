-- "Found anew" finds the least sum over the moves into a cell, and there is only one.
use mathlib.Core.Path.{◌≡◌, refl, ap}
use mathlib.Core.Logic.{◌⊎◌, inl, inr}
use mathlib.Core.List.Memᴰ
use mathlib.Core.List.{List, [], ◌∷◌, Memᴰ}
use Prim.Native.Nat.{ℕ, ◌+◌, ◌≤◌, ◌<◌}
use native.Mathlib.Omega.{arith}
use lib.ListN.{get_or}
use Rattle.decide.proofs.ChooseLaws.{choose_is}
use Rattle.method.specs.Numbers.{infinite}
use Rattle.method.specs.Graph.{Move, move, Graph}
use Rattle.method.specs.Tables.{Found, found, better, least_over, anew, Reached, Least}

-- r came from looking through the moves of l, f the least found before
record Over (g : List ℕ) (f : Found) (l : List Move) (r : Found) : Type 0 where
  le : r.sum ≤ f.sum
  least : (k w c : ℕ) → Memᴰ (move k w c) l → r.sum ≤ get_or g w 0 + c
  from : (r ≡ f) ⊎ ((r.sum < f.sum) × (w : ℕ) × (c : ℕ) × Memᴰ (move r.code w c) l × (r.sum ≡ get_or g w 0 + c))

over : (g : List ℕ) (f : Found) (l : List Move) → Over g f l (least_over g f l)
unfolding least_over better
over g f [] = record { le = omega arith; least = λ k w c m. absurd (Memᴰ.not-nil m); from = inl refl }
over g f (m ∷ l) =
    choose_is (λ b. Over g b l (least_over g b l) → Over g f (m ∷ l) (least_over g b l)) _
    (λ lt o. taken (least_over g (found (get_or g m.cell 0 + m.cost) m.code) l) lt o) (λ nlt o. left (least_over g f l) nlt o) (over g (better g f m) l)
  where
    first : (r : Found) → r.sum ≤ get_or g m.cell 0 + m.cost → ((k w c : ℕ) → Memᴰ (move k w c) l → r.sum ≤ get_or g w 0 + c)
        → (k w c : ℕ) → (move k w c ≡ m) ⊎ Memᴰ (move k w c) l → r.sum ≤ get_or g w 0 + c
    first r le more k w c (inl e) =
        let ew : w ≡ m.cell = ap (λ x. x.cell) e in
        let ec : c ≡ m.cost = ap (λ x. x.cost) e in
        rw (ew, ec) le
    first r le more k w c (inr i) = more k w c i

    taken : (r : Found) → get_or g m.cell 0 + m.cost < f.sum → Over g (found (get_or g m.cell 0 + m.cost) m.code) l r → Over g f (m ∷ l) r
    taken r lt o = record { le = omega (arith, o.le); least = λ k w c i. first r o.le o.least k w c (Memᴰ.cases_cons i); from = inr (at o.from) }
      where
        at : (r ≡ found (get_or g m.cell 0 + m.cost) m.code) ⊎ ((r.sum < get_or g m.cell 0 + m.cost) × (w : ℕ) × (c : ℕ) × Memᴰ (move r.code w c) l × (r.sum ≡ get_or g w 0 + c))
            → (r.sum < f.sum) × (w : ℕ) × (c : ℕ) × Memᴰ (move r.code w c) (m ∷ l) × (r.sum ≡ get_or g w 0 + c)
        at (inl e) = (omega (arith, ap (λ x. x.sum) e), m.cell, m.cost, Memᴰ.head (ap (λ x. move x.code m.cell m.cost) e), ap (λ x. x.sum) e)
        at (inr v) = (omega (arith, v.0), v.1, v.2, Memᴰ.tail v.3, v.4)

    left : (r : Found) → (get_or g m.cell 0 + m.cost < f.sum → ⊥) → Over g f l r → Over g f (m ∷ l) r
    left r nlt o = record { le = o.le; least = λ k w c i. first r (omega (arith, o.le)) o.least k w c (Memᴰ.cases_cons i); from = at o.from }
      where
        at : (r ≡ f) ⊎ ((r.sum < f.sum) × (w : ℕ) × (c : ℕ) × Memᴰ (move r.code w c) l × (r.sum ≡ get_or g w 0 + c))
            → (r ≡ f) ⊎ ((r.sum < f.sum) × (w : ℕ) × (c : ℕ) × Memᴰ (move r.code w c) (m ∷ l) × (r.sum ≡ get_or g w 0 + c))
        at (inl e) = inl e
        at (inr v) = inr (v.0, v.1, v.2, Memᴰ.tail v.3, v.4)

-- what is found anew is the least
pub anew_least : (G : Graph) (g : List ℕ) (s : ℕ) → Least G (λ w. get_or g w 0) s (anew G g s).sum (anew G g s).code
unfolding anew
anew_least G g s = record { le_inf = o.le; least = o.least; reached = at o.from }
  where
    r : Found
    r = least_over g (found infinite 0) (G.into s)

    o : Over g (found infinite 0) (G.into s) r
    o = over g (found infinite 0) (G.into s)

    at : (r ≡ found infinite 0) ⊎ ((r.sum < infinite) × (w : ℕ) × (c : ℕ) × Memᴰ (move r.code w c) (G.into s) × (r.sum ≡ get_or g w 0 + c))
        → Reached G (λ w. get_or g w 0) s r.sum r.code
    at (inl e) = inl (ap (λ x. x.sum) e, ap (λ x. x.code) e)
    at (inr v) = inr (v.0, record { from = v.1; cost = v.2; comes = v.3; sum = v.4 })

-- the same numbers under another name
pub least_cast : {G : Graph} {s : ℕ} {g g' : List ℕ} {r r' p p' : ℕ} → g' ≡ g → r' ≡ r → p' ≡ p → Least G (λ w. get_or g w 0) s r p → Least G (λ w. get_or g' w 0) s r' p'
least_cast eg er ep A = rw (eg, er, ep) A
