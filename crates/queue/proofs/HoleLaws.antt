-- A cell in hand and an empty place, read as if the cell stood there: passing an entry, which is one store in list and places, is an exchange of the tables so read.
use mathlib.Core.Path.{◌≡◌, sym, subst, ◌∙◌}
use mathlib.Core.Bool.{Bool, true, false}
use mathlib.Core.List.{List}
use Prim.Native.Nat.{ℕ, ◌+◌, ◌≤◌, ◌<◌}
use native.Mathlib.Omega.{arith}
use lib.ListN.{get_or, set, length, length-set}
use lib.Seq.{get_or-set_same, get_or-set_other, set-set, set_comm}
use Rattle.decide.specs.Order.{less_or, column_first, Order}
use Rattle.decide.proofs.OrderLaws.{split}
use Rattle.queue.specs.declared.Entry.{Entry}
use Rattle.queue.specs.Order.{before}
use Rattle.queue.specs.Queue.{members, Under, Ordered}
use Rattle.queue.specs.Sift.{Loose, Low, Risen, Held, Stands, place_after, list_after, EntryOf, Compares, Lesser}
use Rattle.queue.proofs.OrderLaws.{one_way}
use Rattle.queue.proofs.KeyLaws.{compared}
use Rattle.queue.proofs.HeapLaws.{Swapped, rise, stay_over, stay_last}
use Rattle.queue.proofs.PlaceLaws.{apart}
use Rattle.queue.proofs.SiftLaws.{has_key, exchanged}

-- ---- a store is an exchange

-- The entry at p is written at the empty place i; then p is the empty place.
module _ (list : List ℕ) {i p : ℕ} (c : ℕ) (away : p ≡ i → ⊥) (bi : i < length list) where
  pub passed_list : set (set list i (get_or list p 0)) p c ≡ list_after i p (set list i c)
  passed_list = cc (get_or-set_other list i p c 0 away, get_or-set_same list i c 0 bi, set-set list i c (get_or list p 0))

  pub passed_place : (place : List ℕ) → (c ≡ get_or list p 0 → ⊥) → set (set place (get_or list p 0) i) c p ≡ place_after i p (set place c i) (set list i c)
  passed_place place differ =
      let other = get_or list p 0 in
      cc (get_or-set_other list i p c 0 away, get_or-set_same list i c 0 bi, set_comm place c other i i differ, set-set (set place other i) c i p)

-- ---- the tables with cell c in hand and place i empty

module _ {width room count c i : ℕ} {k1 k2 place list : List ℕ} (h : Held width room count c i k1 k2 place list) where
  pub long_place : length place ≡ room
  long_place = sym (length-set place c i) ∙ h.tables.agree.length_place

  pub long_list : length list ≡ room
  long_list = sym (length-set list i c) ∙ h.tables.agree.length_list

  -- The room is the list's length, or another name for it.
  pub held_as : {room' : ℕ} → room ≡ room' → Held width room' count c i k1 k2 place list
  held_as e = rw e at h

  pub held_own : Held width (length list) count c i k1 k2 place list
  held_own = held_as (sym long_list)

  in_hand : get_or (set list i c) i 0 ≡ c
  in_hand = get_or-set_same list i c 0 (omega (arith, long_list, h.tables.agree.fits, h.inside))

  pub own_key : (c < length k1) × (length k2 ≡ length k1)
  own_key = rw in_hand at (has_key h.tables h.inside)

  -- The cell can be written there.
  pub may_stand : Stands i c place list
  may_stand = record {
    in_list = omega (arith, long_list, h.tables.agree.fits, h.inside);
    in_place = omega (arith, long_place, subst (λ (z : ℕ). z < room) in_hand (h.tables.agree.named i h.inside));
    small_list = omega (arith, long_list, h.tables.agree.small);
    small_place = omega (arith, long_place, h.tables.agree.small);
  }

  -- Cell o at another place, p.
  module _ {p o : ℕ} (bp : p < count) (away : p ≡ i → ⊥) (at : o ≡ get_or list p 0) where
    as_it_is : get_or (set list i c) p 0 ≡ o
    as_it_is = get_or-set_other list i p c 0 away ∙ sym at

    pub other_key : (o < length k1) × (length k2 ≡ length k1)
    other_key = rw as_it_is at (has_key h.tables bp)

    -- Their keys compare as the entries so read.
    pub first_before : {m n : Entry} {r : Bool} → EntryOf k1 k2 c m → EntryOf k1 k2 o n → r ≡ less_or m.key n.key (column_first width m.cell n.cell)
        → before width k1 k2 (get_or (set list i c) i 0) (get_or (set list i c) p 0) ≡ r
    first_before own other e = compared width own other in_hand as_it_is e

    pub second_before : {m n : Entry} {r : Bool} → EntryOf k1 k2 c m → EntryOf k1 k2 o n → r ≡ less_or n.key m.key (column_first width n.cell m.cell)
        → before width k1 k2 (get_or (set list i c) p 0) (get_or (set list i c) i 0) ≡ r
    second_before own other e = compared width other own as_it_is in_hand e

    -- The other can be written at the empty place.
    pub may_pass : Stands i o place list
    may_pass = record {
      in_list = may_stand.in_list;
      in_place = omega (arith, long_place, subst (λ (z : ℕ). z < room) as_it_is (h.tables.agree.named p bp));
      small_list = may_stand.small_list;
      small_place = may_stand.small_place;
    }

    -- Once it is, the two have exchanged their places.
    pub passed : {place' list' : List ℕ} → place' ≡ set place o i → list' ≡ set list i o
        → (Held width room count c p k1 k2 place' list') × (members (set place' c p) ≡ members (set place c i))
        × (Swapped i p (set list i c) (set list' p c))
    passed ep el =
        let b = may_stand.in_list in
        let differ : c ≡ get_or list p 0 → ⊥ = λ e. away (apart h.tables.agree bp h.inside (as_it_is ∙ at ∙ sym e ∙ sym in_hand)) in
        let x = exchanged h.tables h.inside bp (passed_place list c away b place differ) (passed_list list c away b) in
        rw (ep, el, at) (record { inside = bp; tables = x.0 }, x.1, x.2)

  -- Entries right under the empty place can be compared.
  pub compares : Compares width count i k1 k2 list
  compares = record {
    wide = h.tables.wide;
    long = omega (arith, long_list, h.tables.agree.fits);
    lengths = own_key.1;
    named = λ x u b. rw (get_or-set_other list i x c 0 (λ e. omega (arith, u.low))) at (has_key h.tables b).0;
  }

-- The lesser of the entries right under the empty place, whatever stands there.
pub lesser_meant : {lt : ℕ → ℕ → Bool} {count i m : ℕ} {list : List ℕ} (c : ℕ) → Lesser lt count i m list → Lesser lt count i m (set list i c)
lesser_meant {lt} {count} {i} {m} {list} c n = record {
  under = n.under;
  inside = n.inside;
  least = λ y u d.
      cc (
        get_or-set_other list i y c 0 (λ e. omega (arith, u.low)),
        get_or-set_other list i m c 0 (λ e. omega (arith, n.under.low)),
        n.least y u d,
      );
}

-- ---- on the way up, over any order

-- The entry at place i belongs no lower: the lesser of those right under it, at place m, does not come before it.
pub record Rests (lt : ℕ → ℕ → Bool) (count i : ℕ) (l : List ℕ) : Type 0 where
  pub m : ℕ
  pub lesser : Lesser lt count i m l
  pub over : lt (get_or l m 0) (get_or l i 0) ≡ false

-- The entry at place i is on its way up from `start`.
pub record Rising (lt : ℕ → ℕ → Bool) (count start i : ℕ) (l : List ℕ) : Type 0 where
  pub loose : Loose lt count i l
  pub higher : i ≤ start
  pub rests : (i ≡ start → ⊥) → Rests lt count i l

module _ {lt : ℕ → ℕ → Bool} (order : Order lt) {count start : ℕ} where
  -- It comes before the entry above it, at p, and goes up: that one, and the other under it, belong under it.
  pub rises : {i p : ℕ} {l m : List ℕ} → Rising lt count start i l → Under p i → lt (get_or l i 0) (get_or l p 0) ≡ true → Swapped i p l m → Rising lt count start p m
  rises {i} {p} {l} {m} r u h s =
      let away : p ≡ i → ⊥ = λ e. omega (arith, u.low) in
      record {
        loose = rise order r.loose u s;
        higher = omega (arith, u.low, r.higher);
        rests = λ _. record {
          m = i;
          lesser = record {
            under = u;
            inside = r.loose.inside;
            least = λ y v d. split y i
                (λ e. rw e (order.irreflexive _))
                (λ e. cc (s.first, s.other y e (λ q. omega (arith, v.low)), r.loose.off p y v d away e));
          };
          over = cc (s.first, s.second, one_way order h);
        };
      }

  -- It belongs no higher: it has risen.
  pub risen : {i : ℕ} {l : List ℕ} → Rising lt count start i l → Low lt count i l → Risen lt count start i l
  risen r g = record { low = g; ordered = λ moved. let q = r.rests moved in stay_over order g q.lesser q.over }

  -- From the last place it can have gone up only.
  pub risen_last : {i : ℕ} {l : List ℕ} → count ≡ start + 1 → Risen lt count start i l → Ordered lt count l
  risen_last {i} last r = split i start (λ e. stay_last order r.low (omega arith)) (λ moved. r.ordered moved)
