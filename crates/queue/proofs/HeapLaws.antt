-- The list as a binary heap, over any order: what one exchange keeps on the way up and on the way down, and that nothing comes before the first entry.
use mathlib.Core.Path.{◌≡◌, sym, ap, subst, ◌∙◌}
use mathlib.Core.Bool.{Bool, true, false, true≢false}
use mathlib.Core.List.{List}
use Prim.Native.Nat.{ℕ, zero, suc, ◌+◌, ◌-◌, ◌/◌, ◌≤◌, ◌<◌}
use native.Mathlib.Omega.{arith}
use lib.ListN.{get_or}
use Rattle.decide.specs.Order.{Order}
use Rattle.decide.proofs.OrderLaws.{split}
use Rattle.queue.specs.Queue.{Under, Ordered}
use Rattle.queue.specs.Sift.{Loose, Low, KeepsHeap, Lesser}
use Rattle.queue.proofs.OrderLaws.{one_way, not_before}

-- Places i and j of m hold u and v, and every other holds what it holds in l.
pub record Two (l m : List ℕ) (i j u v : ℕ) : Type 0 where
  pub first : get_or m i 0 ≡ u
  pub second : get_or m j 0 ≡ v
  pub other : (k : ℕ) → (k ≡ i → ⊥) → (k ≡ j → ⊥) → get_or m k 0 ≡ get_or l k 0

-- Places i and j have exchanged their entries.
abbrev pub Swapped : ℕ → ℕ → List ℕ → List ℕ → Type 0
Swapped i j l m = Two l m i j (get_or l j 0) (get_or l i 0)

-- A true heap has nothing to exchange: where an entry comes before the one that it is right under, the list was none.
pub keep_more : {lt : ℕ → ℕ → Bool} {count i p : ℕ} {place₀ list₀ place list place' list' : List ℕ} → KeepsHeap lt count place₀ list₀ place list → Under p i → i < count
    → lt (get_or list i 0) (get_or list p 0) ≡ true → KeepsHeap lt count place₀ list₀ place' list'
keep_more {lt} {count} {i} {p} k u d h o =
    absurd (true≢false (sym h ∙ ap (λ (l : List ℕ). lt (get_or l i 0) (get_or l p 0)) (k o).1 ∙ o.holds p i u d))

-- The place above place i.
pub above : {i : ℕ} → 0 < i → Under ((i - 1) / 2) i
above h = record { low = omega arith; high = omega arith }

pub above_inside : {p i count : ℕ} → Under p i → i < count → p < count
above_inside u b = omega (arith, u.low)

module _ {lt : ℕ → ℕ → Bool} (order : Order lt) {count : ℕ} where
  -- The entry at i goes up to p.
  pub rise : {i p : ℕ} {l m : List ℕ} → Loose lt count i l → Under p i → Swapped i p l m → Loose lt count p m
  rise {i} {p} {l} {m} e u s = record {
    inside = above_inside u e.inside;
    off = λ x y v d nx ny.
        split y i
        (λ q. absurd (nx (omega (arith, u.low, u.high, v.low, v.high))))
        (λ q. split x i
        (λ r. cc (s.first, s.other y q ny, e.over p y u (subst (λ (z : ℕ). Under z y) r v) d))
        (λ r. cc (s.other x r nx, s.other y q ny, e.off x y v d r q)));
    over = λ x y v t d.
        let xi : x ≡ i → ⊥ = λ q. omega (arith, u.low, v.low) in
        let xp : x ≡ p → ⊥ = λ q. omega (arith, v.low) in
        let pi : p ≡ i → ⊥ = λ q. omega (arith, u.low) in
        let top : lt (get_or l p 0) (get_or l x 0) ≡ false = e.off x p v (omega (arith, u.low, e.inside)) xi pi in
        split y i
        (λ q. let q' : y ≡ i = q in cc (s.first, s.other x xi xp, top))
        (λ q. let yp : y ≡ p → ⊥ = λ r. omega (arith, t.low) in
        let low : lt (get_or l y 0) (get_or l p 0) ≡ false = e.off p y t d pi q in
        cc (s.other x xi xp, s.other y q yp, not_before order top low));
  }

  -- The entry stays at i on the way up: it is first, or not before the one above.
  pub stay_first : {i : ℕ} {l : List ℕ} → i ≡ 0 → Loose lt count i l → Low lt count i l
  stay_first z e = record { loose = e; up = λ x v. absurd (omega (arith, v.low)) }

  pub stay_under : {i p : ℕ} {l : List ℕ} → Loose lt count i l → Under p i → lt (get_or l i 0) (get_or l p 0) ≡ false → Low lt count i l
  stay_under {i} {p} {l} e u h = record {
    loose = e;
    up = λ x v. let q : x ≡ p = omega (arith, u.low, u.high, v.low, v.high) in cc;
  }

  -- The entry at i goes down to m, the lesser under it.
  pub sink : {i m : ℕ} {l k : List ℕ} → Low lt count i l → Lesser lt count i m l → lt (get_or l m 0) (get_or l i 0) ≡ true → Swapped i m l k → Low lt count m k
  sink {i} {m} {l} {k} g n h s =
      let e = g.loose in
      let u = n.under in
      let mi : m ≡ i → ⊥ = λ q. omega (arith, u.low) in
      record {
        loose = record {
          inside = n.inside;
          off = λ x y v d nx ny.
              split y i
              (λ q. let xi : x ≡ i → ⊥ = λ r. omega (arith, v.low) in
              cc (s.first, s.other x xi nx, e.over x m (subst (λ (z : ℕ). Under x z) q v) u n.inside))
              (λ q. split x i
              (λ r. cc (s.first, s.other y q ny, n.least y (subst (λ (z : ℕ). Under z y) r v) d))
              (λ r. cc (s.other x r nx, s.other y q ny, e.off x y v d r q)));
          over = λ x y v t d.
              let xi : x ≡ i = omega (arith, u.low, u.high, v.low, v.high) in
              let yi : y ≡ i → ⊥ = λ r. omega (arith, u.low, t.low) in
              let ym : y ≡ m → ⊥ = λ r. omega (arith, t.low) in
              cc (s.first, s.other y yi ym, e.off m y t d mi yi);
        };
        up = λ x v.
            let xi : x ≡ i = omega (arith, u.low, u.high, v.low, v.high) in
            cc (s.first, s.second, one_way order h);
      }

  -- The entry stays at i on the way down: none right under it is before it.
  settled : {i : ℕ} {l : List ℕ} → Low lt count i l → ((y : ℕ) → Under i y → y < count → lt (get_or l y 0) (get_or l i 0) ≡ false) → Ordered lt count l
  settled {i} g h = record {
    holds = λ x y u d.
        split y i
        (λ q. cc (g.up x (subst (λ (z : ℕ). Under x z) q u)))
        (λ q. split x i (λ r. cc (h y (subst (λ (z : ℕ). Under z y) r u) d)) (λ r. g.loose.off x y u d r q));
  }

  pub stay_last : {i : ℕ} {l : List ℕ} → Low lt count i l → count ≤ i + i + 1 → Ordered lt count l
  stay_last {i} g b = settled g (λ y u d. absurd (omega (arith, u.low)))

  pub stay_over : {i m : ℕ} {l : List ℕ} → Low lt count i l → Lesser lt count i m l → lt (get_or l m 0) (get_or l i 0) ≡ false → Ordered lt count l
  stay_over g n h = settled g (λ y u d. not_before order h (n.least y u d))

  -- The lesser of one or two entries right under i.
  pub lesser_left : {i : ℕ} {l : List ℕ} → i + i + 1 < count → (i + i + 1 + 1 < count → lt (get_or l (i + i + 1 + 1) 0) (get_or l (i + i + 1) 0) ≡ false)
      → Lesser lt count i (i + i + 1) l
  lesser_left {i} {l} h right = record {
    under = record { low = omega arith; high = omega arith };
    inside = h;
    least = λ y u d. split y (i + i + 1)
        (λ e. rw e (order.irreflexive _))
        (λ e. let e' : y ≡ i + i + 1 + 1 = omega (arith, u.low, u.high) in rw e' (right (omega arith)));
  }

  pub lesser_right : {i : ℕ} {l : List ℕ} → i + i + 1 + 1 < count → lt (get_or l (i + i + 1 + 1) 0) (get_or l (i + i + 1) 0) ≡ true → Lesser lt count i (i + i + 1 + 1) l
  lesser_right {i} {l} h less = record {
    under = record { low = omega arith; high = omega arith };
    inside = h;
    least = λ y u d. split y (i + i + 1)
        (λ e. rw e (one_way order less))
        (λ e. let e' : y ≡ i + i + 1 + 1 = omega (arith, u.low, u.high) in rw e' (order.irreflexive _));
  }

  -- Nothing is before the first entry.
  climb : (l : List ℕ) → Ordered lt count l → (fuel i : ℕ) → i ≤ fuel → i < count → lt (get_or l i 0) (get_or l 0 0) ≡ false
  climb l o zero i h d = let q : i ≡ 0 = omega arith in cc (order.irreflexive (get_or l 0 0))
  climb l o (suc fuel) i h d =
      split i 0
      (λ q. cc (order.irreflexive (get_or l 0 0)))
      (λ q. let u : Under ((i - 1) / 2) i = above (omega arith) in
      not_before order (climb l o fuel ((i - 1) / 2) (omega arith) (omega arith)) (o.holds ((i - 1) / 2) i u d))

  pub root : {l : List ℕ} → Ordered lt count l → (i : ℕ) → i < count → lt (get_or l i 0) (get_or l 0 0) ≡ false
  root {l} o i d = climb l o i i (omega arith) d

module _ {lt lt' : ℕ → ℕ → Bool} (order : Order lt) {count : ℕ} where
  -- The entry at i is another, or has another key; all others are as they were. There may be fewer places.
  pub reset : {m i : ℕ} {l k : List ℕ} → Ordered lt count l → m ≤ count → i < m
      → ((x y : ℕ) → x < m → y < m → (x ≡ i → ⊥) → (y ≡ i → ⊥) → lt' (get_or k x 0) (get_or k y 0) ≡ lt (get_or l x 0) (get_or l y 0))
      → Loose lt' m i k
  reset {m} {i} o b bi same = record {
    inside = bi;
    off = λ x y v d nx ny. cc (same y x d (omega (arith, v.low)) ny nx, o.holds x y v (omega arith));
    over = λ x y v t d.
        cc (
          same y x d (omega (arith, v.low, t.low)) (λ q. omega (arith, t.low)) (λ q. omega (arith, v.low)),
          not_before order (o.holds x i v (omega (arith, t.low))) (o.holds i y t (omega arith)),
        );
  }

  -- One entry more, at the end.
  pub grow : {l k : List ℕ} → Ordered lt count l
      → ((x y : ℕ) → x < count → y < count → lt' (get_or k x 0) (get_or k y 0) ≡ lt (get_or l x 0) (get_or l y 0))
      → Loose lt' (count + 1) count k
  grow o same = record {
    inside = omega arith;
    off = λ x y v d nx ny. cc (same y x (omega arith) (omega (arith, v.low)), o.holds x y v (omega arith));
    over = λ x y v t d. absurd (omega (arith, t.low));
  }
