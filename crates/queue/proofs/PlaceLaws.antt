-- List and places agree: what an exchange, one cell more and one cell less keep, and that the count is the number of members.
use mathlib.Core.Path.{◌≡◌, refl, sym, ap, subst, ◌∙◌}
use mathlib.Core.Logic.{⊎_elim}
use mathlib.Core.Bool.{true, false}
use mathlib.Core.List.{List}
use Prim.Native.Nat.{ℕ, zero, suc, ◌+◌, ◌<◌}
use native.Mathlib.Omega.{arith}
use lib.ListN.{get_or, set, length, length-set}
use lib.Seq.{get_or-set_same, get_or-set_other, lt-length-set}
use Rattle.decide.proofs.OrderLaws.{split, side}
use Rattle.queue.specs.Queue.{absent, members, Agree}
use Rattle.queue.specs.Sift.{place_after, list_after}
use Rattle.queue.proofs.HeapLaws.{Two, Swapped}
use Rattle.queue.proofs.MemberLaws.{missing, length_members, member_at, members_set, members_same, place_member, tally, tally_lt, tally_none, tally_less}

-- Two stores, one after the other.
two : (l : List ℕ) (i j u v : ℕ) → i < length l → j < length l → (i ≡ j → u ≡ v) → Two l (set (set l i u) j v) i j u v
two l i j u v bi bj same =
    let bj' : j < length (set l i u) = lt-length-set l i u bj in
    record {
      first = split i j
          (λ q. ap (λ (z : ℕ). get_or (set (set l i u) j v) z 0) q ∙ get_or-set_same (set l i u) j v 0 bj' ∙ sym (same q))
          (λ q. get_or-set_other (set l i u) j i v 0 q ∙ get_or-set_same l i u 0 bi);
      second = get_or-set_same (set l i u) j v 0 bj';
      other = λ k ni nj. get_or-set_other (set l i u) j k v 0 nj ∙ get_or-set_other l i k u 0 ni;
    }

length_two : (l : List ℕ) (i j u v : ℕ) → length (set (set l i u) j v) ≡ length l
length_two l i j u v = length-set (set l i u) j v ∙ length-set l i u

module _ {room count : ℕ} {place list : List ℕ} (p : Agree room count place list) where
  -- Different places name different cells.
  pub apart : {i j : ℕ} → i < count → j < count → get_or list i 0 ≡ get_or list j 0 → i ≡ j
  apart {i} {j} bi bj e = cc (p.placed i bi, p.placed j bj)

  -- Places of the list are no absent value.
  pub not_absent : {i : ℕ} → i < count → i ≡ absent → ⊥
  not_absent b e = omega (arith, p.fits, p.small)

  -- A queued cell's place, and that this place names it.
  pub place_used : {c : ℕ} → c < room → (get_or place c 0 ≡ absent → ⊥) → (get_or place c 0 < count) × (get_or list (get_or place c 0) 0 ≡ c)
  place_used {c} b q =
      let d : get_or place c 0 < count = ⊎_elim (λ l. l) (λ g. absurd (q (p.gone c b g))) (side (get_or place c 0) count) in
      (d, p.listed c b d)

  -- ---- places i and j exchanged

  module _ {i j : ℕ} (bi : i < count) (bj : j < count) where
    pub list_swapped : Swapped i j list (list_after i j list)
    list_swapped = two list i j _ _ (omega (arith, p.fits, p.length_list)) (omega (arith, p.fits, p.length_list)) (λ q. cc)

    place_swapped : Two place (place_after i j place list) (get_or list j 0) (get_or list i 0) i j
    place_swapped =
        two place _ _ i j (omega (arith, p.named j bj, p.length_place)) (omega (arith, p.named i bi, p.length_place))
        (λ q. sym (apart bj bi q))

    pub exchange_agree : Agree room count (place_after i j place list) (list_after i j list)
    exchange_agree =
        let l = list_swapped in
        let q = place_swapped in
        record {
          small = p.small;
          fits = p.fits;
          length_place = length_two place _ _ i j ∙ p.length_place;
          length_list = length_two list i j _ _ ∙ p.length_list;
          named = λ k b. split k i
              (λ e. subst (λ (z : ℕ). z < room) (cc l.first) (p.named j bj))
              (λ ni. split k j
              (λ e. subst (λ (z : ℕ). z < room) (cc l.second) (p.named i bi))
              (λ nj. subst (λ (z : ℕ). z < room) (sym (l.other k ni nj)) (p.named k b)));
          placed = λ k b. split k i
              (λ e. cc (l.first, q.first))
              (λ ni. split k j
              (λ e. cc (l.second, q.second))
              (λ nj. cc (l.other k ni nj, q.other (get_or list k 0) (λ e. nj (apart b bj e)) (λ e. ni (apart b bi e)), p.placed k b)));
          listed = λ c b h. split c (get_or list i 0)
              (λ e. cc (q.second, l.second))
              (λ na. split c (get_or list j 0)
              (λ e. cc (q.first, l.first))
              (λ nb.
              let o : get_or (place_after i j place list) c 0 ≡ get_or place c 0 = q.other c nb na in
              let g : get_or place c 0 < count = subst (λ (z : ℕ). z < count) o h in
              let r : get_or list (get_or place c 0) 0 ≡ c = p.listed c b g in
              cc (o, r, l.other (get_or place c 0) (λ e. na (cc)) (λ e. nb (cc)))));
          gone = λ c b h. split c (get_or list i 0)
              (λ e. let o : get_or (place_after i j place list) c 0 ≡ j = cc q.second in absurd (omega arith))
              (λ na. split c (get_or list j 0)
              (λ e. let o : get_or (place_after i j place list) c 0 ≡ i = cc q.first in absurd (omega arith))
              (λ nb. let o : get_or (place_after i j place list) c 0 ≡ get_or place c 0 = q.other c nb na in o ∙ p.gone c b (omega arith)));
          unused = λ k g b. l.other k (λ e. omega arith) (λ e. omega arith) ∙ p.unused k g b;
        }

    pub exchange_members : members (place_after i j place list) ≡ members place
    exchange_members =
        let a = get_or list i 0 in
        let b = get_or list j 0 in
        let still : get_or (set place b i) a 0 ≡ i =
        split a b
        (λ e. cc (get_or-set_same place b i 0 (omega (arith, p.named j bj, p.length_place))))
        (λ e. cc (get_or-set_other place b a i 0 e, p.placed i bi)) in
        members_same (set place b i) a j (not_absent bj) (λ e. not_absent bi (sym still ∙ e))
        ∙ members_same place b i (not_absent bi) (λ e. not_absent bj (sym (p.placed j bj) ∙ e))

  -- ---- one cell more, at the end of the list

  pub more_agree : {c : ℕ} → c < room → get_or place c 0 ≡ absent → count < room → Agree room (count + 1) (set place c count) (set list count c)
  more_agree {c} bc out bn =
      let l1 : get_or (set list count c) count 0 ≡ c = get_or-set_same list count c 0 (omega (arith, p.length_list)) in
      let p1 : get_or (set place c count) c 0 ≡ count = get_or-set_same place c count 0 (omega (arith, p.length_place)) in
      record {
        small = p.small;
        fits = omega arith;
        length_place = length-set place c count ∙ p.length_place;
        length_list = length-set list count c ∙ p.length_list;
        named = λ k b. split k count
            (λ e. subst (λ (z : ℕ). z < room) (cc) bc)
            (λ e. subst (λ (z : ℕ). z < room) (sym (get_or-set_other list count k c 0 e)) (p.named k (omega arith)));
        placed = λ k b. split k count
            (λ e. cc)
            (λ e.
            let b' : k < count = omega arith in
            let d : get_or list k 0 ≡ c → ⊥ = λ q. not_absent b' (cc (p.placed k b', out)) in
            cc (get_or-set_other list count k c 0 e, get_or-set_other place c (get_or list k 0) count 0 d, p.placed k b'));
        listed = λ x b h. split x c
            (λ e. cc)
            (λ e.
            let o : get_or (set place c count) x 0 ≡ get_or place x 0 = get_or-set_other place c x count 0 e in
            ⊎_elim
            (λ g. cc (o, p.listed x b g, get_or-set_other list count (get_or place x 0) c 0 (λ q. omega arith)))
            (λ g. absurd (omega (arith, p.gone x b g, p.small)))
            (side (get_or place x 0) count));
        gone = λ x b h. split x c
            (λ e. let o : get_or (set place c count) x 0 ≡ count = cc in absurd (omega arith))
            (λ e. let o : get_or (set place c count) x 0 ≡ get_or place x 0 = get_or-set_other place c x count 0 e in o ∙ p.gone x b (omega arith));
        unused = λ k g b. get_or-set_other list count k c 0 (λ e. omega arith) ∙ p.unused k (omega arith) b;
      }

  -- ---- the last cell of the list less

  pub less_agree : {m : ℕ} → count ≡ m + 1 → Agree room m (set place (get_or list m 0) absent) (set list m absent)
  less_agree {m} s =
      let c = get_or list m 0 in
      let bm : m < count = omega arith in
      let bc : c < room = p.named m bm in
      let l1 : get_or (set list m absent) m 0 ≡ absent = get_or-set_same list m absent 0 (omega (arith, p.length_list, p.fits)) in
      let p1 : get_or (set place c absent) c 0 ≡ absent = get_or-set_same place c absent 0 (omega (arith, p.length_place)) in
      record {
        small = p.small;
        fits = omega (arith, p.fits);
        length_place = length-set place c absent ∙ p.length_place;
        length_list = length-set list m absent ∙ p.length_list;
        named = λ k b. subst (λ (z : ℕ). z < room) (sym (get_or-set_other list m k absent 0 (λ e. omega arith))) (p.named k (omega arith));
        placed = λ k b.
            let b' : k < count = omega arith in
            let d : get_or list k 0 ≡ c → ⊥ = λ q. let r : k ≡ m = apart b' bm q in omega arith in
            cc (get_or-set_other list m k absent 0 (λ e. omega arith), get_or-set_other place c (get_or list k 0) absent 0 d, p.placed k b');
        listed = λ x b h. split x c
            (λ e. let o : get_or (set place c absent) x 0 ≡ absent = cc in absurd (omega (arith, p.small, p.fits)))
            (λ e.
            let o : get_or (set place c absent) x 0 ≡ get_or place x 0 = get_or-set_other place c x absent 0 e in
            cc (o, p.listed x b (omega arith), get_or-set_other list m (get_or place x 0) absent 0 (λ q. omega arith)));
        gone = λ x b h. split x c
            (λ e. cc)
            (λ e.
            let o : get_or (set place c absent) x 0 ≡ get_or place x 0 = get_or-set_other place c x absent 0 e in
            split (get_or place x 0) m
            (λ q. absurd (e (cc (p.listed x b (omega arith)))))
            (λ q. o ∙ p.gone x b (omega arith)));
        unused = λ k g b. split k m
            (λ e. cc)
            (λ e. get_or-set_other list m k absent 0 e ∙ p.unused k (omega arith) b);
      }

-- ---- the count

-- The members are as many as the count says.
pub counted : (room count : ℕ) (place list : List ℕ) → Agree room count place list → tally (members place) ≡ count
counted room zero place list p =
    tally_none (members place) λ c b.
    let b' : c < length place = omega (arith, length_members place) in
    member_at place c b' ∙ missing (p.gone c (omega (arith, p.length_place)) (omega arith))
counted room (suc n) place list p =
    let c = get_or list n 0 in
    let bn : n < suc n = omega arith in
    let bc : c < length place = omega (arith, p.named n bn, p.length_place) in
    let fewer : tally (members (set place c absent)) ≡ n = counted room n (set place c absent) (set list n absent) (less_agree p (omega arith)) in
    let here : get_or (members place) c false ≡ true = place_member place c bc (λ e. not_absent p bn (sym (p.placed n bn) ∙ e)) in
    sym (tally_less (members place) c (omega (arith, length_members place)) here) ∙ ap suc (cc (members_set place c absent, missing refl, fewer))

-- Where a cell is absent there is room.
pub room_left : {room count : ℕ} {place list : List ℕ} → Agree room count place list → {c : ℕ} → c < room → get_or place c 0 ≡ absent → count < room
room_left {room} {count} {place} {list} p {c} b out =
    let b' : c < length place = omega (arith, p.length_place) in
    let l = tally_lt (members place) c (omega (arith, length_members place)) (member_at place c b' ∙ missing out) in
    omega (arith, counted room count place list p, length_members place, p.length_place)
