-- What a caller of the queue uses: what a change did cell by cell and what of it is determined, and that the least is one cell.
use mathlib.Core.Path.{◌≡◌, sym, ap, ◌∙◌}
use mathlib.Core.Bool.{Bool, false}
use mathlib.Core.List.{List}
use Prim.Native.Nat.{ℕ, ◌≤◌, ◌<◌}
use native.Mathlib.Omega.{arith}
use lib.ListN.{get_or, set, length}
use lib.Seq.{get_or-set_same, get_or-set_other, set-get_or}
use Rattle.queue.specs.Queue.{absent, is_place, members, Heap, Changed, Least, LeastOf}
use Rattle.queue.proofs.OrderLaws.{before_order}
use Rattle.queue.proofs.MemberLaws.{missing, is_absent, length_members, member_at, member_place, set_same}
use Rattle.queue.proofs.PlaceLaws.{counted}

-- ---- heaps

-- The same heap, its room and count by other names.
pub heap_as : {width room count room' count' : ℕ} {k1 k2 place list : List ℕ} → Heap width room count k1 k2 place list → room ≡ room' → count ≡ count'
    → Heap width room' count' k1 k2 place list
heap_as h e d = rw (e, d) at h

pub heap_own : {width room count : ℕ} {k1 k2 place list : List ℕ} → Heap width room count k1 k2 place list → Heap width (length list) count k1 k2 place list
heap_own h = rw h.tables.agree.length_list h

-- ---- a change

module _ {width room count cell first second : ℕ} {queued : Bool} {k1 k2 place k1' k2' place' list' : List ℕ}
    (h : Changed width room count cell first second queued k1 k2 place k1' k2' place' list') (lp : length place ≡ room) where
  -- The cell is queued or not, as the change says; every other is as it was.
  pub changed_here : cell < room → is_place (get_or place' cell 0) ≡ queued
  changed_here d =
      sym (member_at place' cell (omega (arith, h.heap.tables.agree.length_place)))
      ∙ ap (λ (z : List Bool). get_or z cell false) h.membership
      ∙ get_or-set_same (members place) cell queued false (omega (arith, length_members place))

  -- Where no cell's membership changed, the cell was queued or not already, as the change says.
  pub changed_nothing : cell < room → members place' ≡ members place → get_or (members place) cell false ≡ queued
  changed_nothing d e =
      ap (λ (z : List Bool). get_or z cell false) (sym e ∙ h.membership) ∙ get_or-set_same (members place) cell queued false (omega (arith, length_members place))

  pub changed_else : (x : ℕ) → x < room → (x ≡ cell → ⊥) → is_place (get_or place' x 0) ≡ is_place (get_or place x 0)
  changed_else x d e =
      sym (member_at place' x (omega (arith, h.heap.tables.agree.length_place)))
      ∙ ap (λ (z : List Bool). get_or z x false) h.membership
      ∙ get_or-set_other (members place) cell x queued false e
      ∙ member_at place x (omega arith)

module _ {width room count count' cell first second : ℕ} {queued : Bool} {k1 k2 place k1' k2' place' list' k1'' k2'' place'' list'' : List ℕ}
    (h : Changed width room count cell first second queued k1 k2 place k1' k2' place' list')
    (g : Changed width room count' cell first second queued k1 k2 place k1'' k2'' place'' list'') where
  -- Two results of one change that the promise allows have the same keys, the same members and the same count.
  pub changed_unique : (k1' ≡ k1'') × (k2' ≡ k2'') × (members place' ≡ members place'') × (count ≡ count')
  changed_unique =
      let e : members place' ≡ members place'' = h.membership ∙ sym g.membership in (
        h.key1 ∙ sym g.key1,
        h.key2 ∙ sym g.key2,
        e,
        cc (counted room count place' list' h.heap.tables.agree, counted room count' place'' list'' g.heap.tables.agree, e),
      )

  -- They differ in the places of queued cells and the used places of the list alone.
  pub changed_absent : (x : ℕ) → x < room → get_or place' x 0 ≡ absent → get_or place'' x 0 ≡ absent
  changed_absent x d o =
      is_absent (
      sym (member_at place'' x (omega (arith, g.heap.tables.agree.length_place)))
      ∙ ap (λ (z : List Bool). get_or z x false) (sym changed_unique.2)
      ∙ member_at place' x (omega (arith, h.heap.tables.agree.length_place))
      ∙ missing o
      )

  pub changed_unused : (i : ℕ) → i < room → count ≤ i → get_or list' i 0 ≡ get_or list'' i 0
  changed_unused i d b = h.heap.tables.agree.unused i b d ∙ sym (g.heap.tables.agree.unused i (omega (arith, changed_unique.3)) d)

-- A cell that is absent stays so, under no key: nothing changes.
pub absent_stays : {width room count cell : ℕ} {k1 k2 place list : List ℕ} → Heap width room count k1 k2 place list → cell < room → get_or place cell 0 ≡ absent
    → Changed width room count cell 0 0 false k1 k2 place k1 k2 place list
absent_stays {cell = cell} {k1 = k1} {k2 = k2} {place = place} h d o = record {
  key1 = sym (ap (λ (z : ℕ). set k1 cell z) (sym (h.blank cell d o).0) ∙ set-get_or k1 cell 0);
  key2 = sym (ap (λ (z : ℕ). set k2 cell z) (sym (h.blank cell d o).1) ∙ set-get_or k2 cell 0);
  membership = set_same (members place) cell (member_at place cell (omega (arith, h.tables.agree.length_place)) ∙ missing o);
  heap = h;
}

-- ---- the least

-- There is one least cell, whatever the order inside the list.
pub least_only : {width : ℕ} {k1 k2 : List ℕ} {queued : List Bool} {c d : ℕ} → Least width k1 k2 queued c → Least width k1 k2 queued d → c ≡ d
least_only {width} {k1} {k2} {c = c} {d = d} l m = (before_order width k1 k2).total c d (m.first c l.member) (l.first d m.member)

-- What `least` answers, for a caller that holds the heap: the least cell, which has a place.
module _ {width room count c : ℕ} {k1 k2 place list : List ℕ} (h : Heap width room count k1 k2 place list) (some : 0 < count) (l : LeastOf list c) where
  pub least_of : Least width k1 k2 (members place) c
  unfolding LeastOf
  least_of = (l width count k1 k2 place (heap_own h)).0 some

  pub least_place : (c < room) × (get_or place c 0 ≡ absent → ⊥)
  least_place = let m = member_place place c least_of.member in (omega (arith, m.0, h.tables.agree.length_place), m.1)
