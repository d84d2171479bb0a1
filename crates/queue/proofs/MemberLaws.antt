-- Membership, read from the places: cell by cell, after a store, and how many cells are queued.
use mathlib.Core.Path.{◌≡◌, refl, sym, ap, ◌∙◌}
use mathlib.Core.Logic.{⊎_elim}
use mathlib.Core.Bool.{Bool, true, false}
use mathlib.Core.List.{List, [], ◌∷◌, map}
use Prim.Native.Nat.{ℕ, zero, suc, ◌≤◌, ◌<◌}
use native.Mathlib.Omega.{arith}
use lib.Dec.{eqb}
use lib.ListN.{get_or, set, length, length-map, get_or-eq_default}
use lib.Seq.{set-get_or, map-set_same}
use borrow.Author.Tests.{eqb-true, ne_eqb, not-false}
use Rattle.decide.proofs.OrderLaws.{side}
use Rattle.queue.specs.Queue.{absent, is_place, members}
use Rattle.queue.proofs.CaseLaws.{never}

-- ---- one place

pub present : {x : ℕ} → (x ≡ absent → ⊥) → is_place x ≡ true
unfolding is_place
present {x} h = cc (ne_eqb x absent h)

pub missing : {x : ℕ} → x ≡ absent → is_place x ≡ false
unfolding is_place
missing e = rw e

pub is_absent : {x : ℕ} → is_place x ≡ false → x ≡ absent
unfolding is_place
is_absent {x} h = eqb-true x absent (not-false (eqb x absent) h)

-- ---- all places

get_d_map : {A B : Type 0} (f : A → B) (l : List A) (c : ℕ) (d : A) (e : B) → c < length l → get_or (map f l) c e ≡ f (get_or l c d)
get_d_map f [] c d e h = absurd (omega arith)
get_d_map f (x ∷ xs) zero d e h = refl
get_d_map f (x ∷ xs) (suc c) d e h = get_d_map f xs c d e (omega arith)

map_set : {A B : Type 0} (f : A → B) (l : List A) (i : ℕ) (a : A) → map f (set l i a) ≡ set (map f l) i (f a)
map_set f [] i a = refl
map_set f (x ∷ xs) zero a = refl
map_set {B = B} f (x ∷ xs) (suc i) a = ap (λ (r : List B). f x ∷ r) (map_set f xs i a)

pub length_members : (place : List ℕ) → length (members place) ≡ length place
unfolding members
length_members place = length-map place is_place

pub member_at : (place : List ℕ) (c : ℕ) → c < length place → get_or (members place) c false ≡ is_place (get_or place c 0)
unfolding members
member_at place c h = get_d_map is_place place c 0 false h

pub members_set : (place : List ℕ) (c x : ℕ) → members (set place c x) ≡ set (members place) c (is_place x)
unfolding members
members_set place c x = map_set is_place place c x

-- A queued cell's place is another: the members are the same.
pub members_same : (place : List ℕ) (c x : ℕ) → (x ≡ absent → ⊥) → (get_or place c 0 ≡ absent → ⊥) → members (set place c x) ≡ members place
unfolding members
members_same place c x h g = map-set_same is_place place c x 0 (present h ∙ sym (present g))

-- A cell is a member exactly if it has a place.
pub member_place : (place : List ℕ) (c : ℕ) → get_or (members place) c false ≡ true → (c < length place) × (get_or place c 0 ≡ absent → ⊥)
member_place place c h =
    let inside : c < length place =
    ⊎_elim (λ l. l) (λ g. absurd (never h (get_or-eq_default (members place) false (omega (arith, length_members place))))) (side c (length place)) in
    (inside, λ o. never h (member_at place c inside ∙ missing o))

pub place_member : (place : List ℕ) (c : ℕ) → c < length place → (get_or place c 0 ≡ absent → ⊥) → get_or (members place) c false ≡ true
place_member place c b h = member_at place c b ∙ present h

-- What is stored already need not be.
pub set_same : (queued : List Bool) (c : ℕ) {q : Bool} → get_or queued c false ≡ q → queued ≡ set queued c q
set_same queued c e = sym (ap (λ (z : Bool). set queued c z) (sym e) ∙ set-get_or queued c false)

-- ---- how many are queued

pub tally : List Bool → ℕ
tally [] = 0
tally (true ∷ xs) = suc (tally xs)
tally (false ∷ xs) = tally xs

tally_le : (xs : List Bool) → tally xs ≤ length xs
unfolding tally
tally_le [] = omega arith
tally_le (true ∷ xs) = omega (arith, tally_le xs)
tally_le (false ∷ xs) = omega (arith, tally_le xs)

pub tally_lt : (xs : List Bool) (c : ℕ) → c < length xs → get_or xs c false ≡ false → tally xs < length xs
unfolding tally
tally_lt [] c b h = absurd (omega arith)
tally_lt (true ∷ xs) zero b h = absurd (never refl h)
tally_lt (true ∷ xs) (suc c) b h = omega (arith, tally_lt xs c (omega arith) h)
tally_lt (false ∷ xs) zero b h = omega (arith, tally_le xs)
tally_lt (false ∷ xs) (suc c) b h = omega (arith, tally_lt xs c (omega arith) h)

pub tally_none : (xs : List Bool) → ((c : ℕ) → c < length xs → get_or xs c false ≡ false) → tally xs ≡ 0
unfolding tally
tally_none [] h = refl
tally_none (true ∷ xs) h = absurd (never refl (h 0 (omega arith)))
tally_none (false ∷ xs) h = tally_none xs (λ c b. h (suc c) (omega arith))

pub tally_less : (xs : List Bool) (c : ℕ) → c < length xs → get_or xs c false ≡ true → suc (tally (set xs c false)) ≡ tally xs
unfolding tally
tally_less [] c b h = absurd (omega arith)
tally_less (true ∷ xs) zero b h = refl
tally_less (true ∷ xs) (suc c) b h = ap suc (tally_less xs c (omega arith) h)
tally_less (false ∷ xs) zero b h = absurd (never h refl)
tally_less (false ∷ xs) (suc c) b h = tally_less xs c (omega arith) h
