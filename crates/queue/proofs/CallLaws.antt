-- The queue's calls on the tables: what their first stores leave, and what the tables are once the entry has settled.
use mathlib.Core.Path.{◌≡◌, refl, sym, ap, subst, ◌∙◌}
use mathlib.Core.Bool.{Bool, true, false}
use mathlib.Core.List.{List}
use Prim.Native.Nat.{ℕ, ◌+◌, ◌-◌, ◌≤◌, ◌<◌}
use native.Mathlib.Omega.{arith}
use lib.ListN.{get_or, set, length, length-set}
use lib.Seq.{get_or-set_same, get_or-set_other, set-get_or, set-set, set_comm}
use Rattle.decide.proofs.OrderLaws.{split}
use Rattle.queue.specs.Order.{before}
use Rattle.queue.specs.Queue.{absent, members, Agree, Tables, Ordered, Heap, Changed, EntryKept, LeastOf}
use Rattle.queue.specs.Sift.{Loose, KeepsHeap, Held, Sifted, place_after, list_after}
use Rattle.queue.proofs.CaseLaws.{never}
use Rattle.queue.proofs.OrderLaws.{before_order, before_set}
use Rattle.queue.proofs.HeapLaws.{reset, grow, root}
use Rattle.queue.proofs.MemberLaws.{present, missing, is_absent, length_members, member_at, members_set, members_same, member_place, place_member, set_same}
use Rattle.queue.proofs.PlaceLaws.{apart, not_absent, place_used, more_agree, less_agree, room_left}
use Rattle.queue.proofs.SiftLaws.{tables_as, exchanged}

-- ---- once the entry has settled

-- A cell that is absent now was absent before, or is the one that was taken out.
absent_was : (place place' : List ℕ) (c : ℕ) (q : Bool) → length place' ≡ length place → members place' ≡ set (members place) c q
    → (x : ℕ) → x < length place → get_or place' x 0 ≡ absent → (x ≡ c → q ≡ false) × ((x ≡ c → ⊥) → get_or place x 0 ≡ absent)
absent_was place place' c q l e x b o =
    let s : get_or (set (members place) c q) x false ≡ false = ap (λ (z : List Bool). get_or z x false) (sym e) ∙ member_at place' x (omega arith) ∙ missing o in (
      λ i. let r : get_or (set (members place) c q) c false ≡ q = get_or-set_same (members place) c q false (omega (arith, length_members place)) in cc,
      λ i. is_absent (sym (member_at place x b) ∙ sym (get_or-set_other (members place) c x q false i) ∙ s),
    )

module _ {width room count m c first second : ℕ} {q : Bool} {k1 k2 place list place' list' : List ℕ} where
  done : Heap width room count k1 k2 place list → c < room → (q ≡ false → (first ≡ 0) × (second ≡ 0))
      → Tables width room m (set k1 c first) (set k2 c second) place' list' → members place' ≡ set (members place) c q
      → Ordered (before width (set k1 c first) (set k2 c second)) m list'
      → Changed width room m c first second q k1 k2 place (set k1 c first) (set k2 c second) place' list'
  done h bc z t e o =
      let lp = h.tables.agree.length_place in
      record {
        key1 = refl;
        key2 = refl;
        membership = e;
        heap = record {
          tables = t;
          blank = λ x b out.
              let w = absent_was place place' c q (t.agree.length_place ∙ sym lp) e x (omega arith) out in
              split x c
              (λ i. rw i (
                get_or-set_same k1 c first 0 (omega (arith, h.tables.length1)) ∙ (z (w.0 i)).0,
                get_or-set_same k2 c second 0 (omega (arith, h.tables.length2)) ∙ (z (w.0 i)).1,
              ))
              (λ i. let k = h.blank x b (w.1 i) in (get_or-set_other k1 c x first 0 i ∙ k.0, get_or-set_other k2 c x second 0 i ∙ k.1));
          ordered = o;
        };
      }

-- The cell in hand, which may be another one, is written where it settled.
pub stood : {width room count m c first second cell start j : ℕ} {q : Bool} {k1 k2 place list place₁ list₁ place' list' place'' list'' : List ℕ}
    → Heap width room count k1 k2 place list → c < room → (q ≡ false → (first ≡ 0) × (second ≡ 0))
    → Sifted width m cell start j (set k1 c first) (set k2 c second) place₁ list₁ place' list' (λ lt l. Ordered lt m l)
    → length list₁ ≡ room → members (set place₁ cell start) ≡ set (members place) c q → place'' ≡ set place' cell j → list'' ≡ set list' j cell
    → Changed width room m c first second q k1 k2 place (set k1 c first) (set k2 c second) place'' list''
stood h bc z s l e ep el = rw (ep, el) (done h bc z (tables_as s.held.tables l) (s.membership ∙ e) s.shape)

-- Under the same keys the order is as it was, so nothing moves.
same_keys : {width room count : ℕ} {k1 k2 place list k1' k2' place' list' : List ℕ} → Heap width room count k1 k2 place list
    → KeepsHeap (before width k1' k2') count place list place' list' → EntryKept count k1 k2 place list count k1' k2' place' list'
same_keys {width} {count = count} {k1 = k1} {list = list} {k2' = k2'} h keeps e f _ =
    let k = keeps (subst (λ (x : List ℕ). Ordered (before width x k2') count list) (sym e) (subst (λ (x : List ℕ). Ordered (before width k1 x) count list) (sym f) h.ordered)) in
    (refl, k.0, k.1)

-- ---- before it has

module _ {width room count : ℕ} {k1 k2 place list : List ℕ} (h : Heap width room count k1 k2 place list) {c : ℕ} (bc : c < room) where
  -- The cell has another key.
  rekeyed : (first second : ℕ) {m : ℕ} {place' list' : List ℕ} → Agree room m place' list' → Tables width room m (set k1 c first) (set k2 c second) place' list'
  rekeyed first second p = record {
    wide = h.tables.wide;
    length1 = length-set k1 c first ∙ h.tables.length1;
    length2 = length-set k2 c second ∙ h.tables.length2;
    agree = p;
  }

  -- A cell that is not queued, in hand over the empty place at the end of the list.
  module _ (out : get_or place c 0 ≡ absent) where
    not_listed : (x : ℕ) → x < count → get_or list x 0 ≡ c → ⊥
    not_listed x d e = not_absent h.tables.agree d (cc (h.tables.agree.placed x d, out))

    pub put_in_loose : (first second : ℕ)
        → (Held width room (count + 1) c count (set k1 c first) (set k2 c second) place list)
        × (Loose (before width (set k1 c first) (set k2 c second)) (count + 1) count (set list count c))
    put_in_loose first second = (
      record { inside = omega arith; tables = rekeyed first second (more_agree h.tables.agree bc out (room_left h.tables.agree bc out)) },
      grow (before_order width k1 k2) h.ordered
          (λ x y dx dy.
          cc (
            get_or-set_other list count x c 0 (λ e. omega arith),
            get_or-set_other list count y c 0 (λ e. omega arith),
            before_set width k1 k2 c first second (get_or list x 0) (get_or list y 0) (not_listed x dx) (not_listed y dy),
          )),
    )

    pub put_in_members : members (set place c count) ≡ set (members place) c true
    put_in_members =
        members_set place c count
        ∙ ap (λ (z : Bool). set (members place) c z) (present (λ e. omega (arith, h.tables.agree.fits, h.tables.agree.small)))

  -- A queued cell, at place i.
  module _ (queued : get_or place c 0 ≡ absent → ⊥) {i : ℕ} (at : i ≡ get_or place c 0) where
    here : (i < count) × (get_or list i 0 ≡ c)
    here = rw at (place_used h.tables.agree bc queued)

    -- Only that place names it.
    elsewhere : (x : ℕ) → x < count → (x ≡ i → ⊥) → get_or list x 0 ≡ c → ⊥
    elsewhere x d away e = away (cc (h.tables.agree.placed x d))

    -- ---- put under another key

    -- It stands there already.
    stands : (set place c i ≡ place) × (set list i c ≡ list)
    stands = (ap (λ (z : ℕ). set place c z) at ∙ set-get_or place c 0, ap (λ (z : ℕ). set list i z) (sym here.1) ∙ set-get_or list i 0)

    pub put_under_loose : (first second : ℕ)
        → (Held width room count c i (set k1 c first) (set k2 c second) place list) × (Loose (before width (set k1 c first) (set k2 c second)) count i (set list i c))
    put_under_loose first second = (
      record { inside = here.0; tables = rw (stands.0, stands.1) (rekeyed first second h.tables.agree) },
      rw stands.1
          (reset (before_order width k1 k2) h.ordered (omega arith) here.0
          (λ x y dx dy nx ny. before_set width k1 k2 c first second (get_or list x 0) (get_or list y 0) (elsewhere x dx nx) (elsewhere y dy ny))),
    )

    -- Where its place is the old one, it need not be written.
    pub put_under_stays : {j : ℕ} {k1' k2' place' list' : List ℕ} → Sifted width count c i j k1' k2' place list place' list' (λ lt l. Ordered lt count l)
        → j ≡ i → (place' ≡ set place' c j) × (list' ≡ set list' j c)
    put_under_stays s e = let same = s.unmoved e in (cc (same.0, stands.0, e), cc (same.1, stands.1, e))

    pub put_under_done : (first second : ℕ) {j : ℕ} {place' list' place'' list'' : List ℕ}
        → Sifted width count c i j (set k1 c first) (set k2 c second) place list place' list' (λ lt l. Ordered lt count l)
        → place'' ≡ set place' c j → list'' ≡ set list' j c
        → (Changed width room count c first second true k1 k2 place (set k1 c first) (set k2 c second) place'' list'')
        × (EntryKept count k1 k2 place list count (set k1 c first) (set k2 c second) place'' list'')
    put_under_done first second s ep el =
        let was : members (set place c i) ≡ set (members place) c true =
        ap members stands.0 ∙ set_same (members place) c (place_member place c (omega (arith, h.tables.agree.length_place)) queued) in (
          stood h bc (λ z. absurd (never refl z)) s h.tables.agree.length_list was ep el,
          same_keys h (rw (stands.0, stands.1, sym ep, sym el) at s.keeps),
        )

    -- ---- taken out: the last entry, if it is another, is in hand over its place

    pub has_last : count ≡ count - 1 + 1
    has_last = omega (arith, here.0)

    cut_members : members (set place c absent) ≡ set (members place) c false
    cut_members = members_set place c absent ∙ ap (λ (z : Bool). set (members place) c z) (missing {x = absent} refl)

    -- It was last itself: nothing has moved.
    pub last_out : count - 1 ≤ i → Changed width room (count - 1) c 0 0 false k1 k2 place (set k1 c 0) (set k2 c 0) (set place c absent) (set list (count - 1) absent)
    last_out b =
        let last : get_or list (count - 1) 0 ≡ c = let e : i ≡ count - 1 = omega (arith, has_last, here.0) in cc here.1 in
        let stays : (x : ℕ) → x < count - 1 → get_or (set list (count - 1) absent) x 0 ≡ get_or list x 0 = λ x d. get_or-set_other list (count - 1) x absent 0 (λ e. omega arith) in
        done h bc (λ z. (refl, refl)) (rekeyed 0 0 (rw last at (less_agree h.tables.agree has_last))) cut_members
        record {
          holds = λ x y u d.
              let dx : x < count - 1 = omega (arith, u.low) in
              let key = before_set width k1 k2 c 0 0 (get_or list y 0) (get_or list x 0) (elsewhere y (omega arith) (λ e. omega arith)) (elsewhere x (omega arith) (λ e. omega arith)) in
              cc (stays x dx, stays y d, key, h.ordered.holds x y u (omega arith));
        }

    -- The last entry is another.
    module _ (b : i < count - 1) {moved : ℕ} (em : moved ≡ get_or list (count - 1) 0) where
      inside : (i < count) × (count - 1 < count)
      inside = (here.0, omega (arith, has_last))

      differ : moved ≡ c → ⊥
      differ e = let q : count - 1 ≡ i = apart h.tables.agree inside.1 inside.0 (cc (em, here.1)) in omega arith

      -- What is left when the two have exchanged their places and the cell is cut off.
      cut_place : set (place_after i (count - 1) place list) c absent ≡ set (set place c absent) moved i
      cut_place = cc (here.1, em, set-set (set place moved i) c (count - 1) absent, set_comm place moved c i absent differ)

      cut_list : set (list_after i (count - 1) list) (count - 1) absent ≡ set (set list (count - 1) absent) i moved
      cut_list = cc (em, set-set (set list i moved) (count - 1) (get_or list i 0) absent, set_comm list i (count - 1) moved absent (λ e. omega arith))

      pub take_out_loose
          : (Held width room (count - 1) moved i (set k1 c 0) (set k2 c 0) (set place c absent) (set list (count - 1) absent))
          × (Loose (before width (set k1 c 0) (set k2 c 0)) (count - 1) i (set (set list (count - 1) absent) i moved))
      take_out_loose =
          let x = exchanged h.tables inside.0 inside.1 refl refl in
          let stays : (x : ℕ) → x < count - 1 → (x ≡ i → ⊥) → get_or (set (set list (count - 1) absent) i moved) x 0 ≡ get_or list x 0 =
          λ x d away. get_or-set_other (set list (count - 1) absent) i x moved 0 away ∙ get_or-set_other list (count - 1) x absent 0 (λ e. omega arith) in (
            record { inside = b; tables = rekeyed 0 0 (rw (x.2.second ∙ here.1, cut_place, cut_list) at (less_agree x.0.agree has_last)) },
            reset (before_order width k1 k2) h.ordered (omega arith) b
                (λ x y dx dy nx ny.
                cc (
                  stays x dx nx,
                  stays y dy ny,
                  before_set width k1 k2 c 0 0 (get_or list x 0) (get_or list y 0) (elsewhere x (omega arith) nx) (elsewhere y (omega arith) ny),
                )),
          )

      pub take_out_members : members (set (set place c absent) moved i) ≡ set (members place) c false
      take_out_members =
          members_same (set place c absent) moved i (not_absent h.tables.agree inside.0)
          (λ e. not_absent h.tables.agree inside.1 (cc (get_or-set_other place c moved absent 0 differ, em, h.tables.agree.placed (count - 1) inside.1)))
          ∙ cut_members

-- ---- the first place names the least cell

pub first_least : (list : List ℕ) → 0 < length list → LeastOf list (get_or list 0 0)
unfolding LeastOf
first_least list l width count k1 k2 place h = (
  λ b. record {
    member = place_member place (get_or list 0 0) (omega (arith, p.named 0 b, p.length_place)) (λ e. not_absent p b (sym (p.placed 0 b) ∙ e));
    first = λ x q.
        let m = member_place place x q in
        let r = place_used p (omega (arith, m.0, p.length_place)) m.1 in
        cc (r.1, root (before_order width k1 k2) h.ordered (get_or place x 0) r.0);
  },
  λ z. p.unused 0 (omega arith) l,
)
  where
    p : Agree (length list) count place list
    p = h.tables.agree
