-- The cells from parent to parent: one list of them, and the two walks over it.
use mathlib.Core.Path.{◌≡◌, refl, sym, ap, subst, ◌∙◌}
use mathlib.Core.Logic.{◌≢◌}
use mathlib.Core.List.{List, [], ◌∷◌, ◌++◌, append_assoc, append-nil}
use Prim.Native.Nat.{ℕ, zero, suc, ◌+◌, ◌-◌, ◌≤◌, ◌<◌}
use native.Mathlib.Omega.{arith}
use lib.ListN.{length, get_or, set, take, drop, length-append, length-set, take-append-drop}
use Rattle.method.proofs.Answers as method
use Rattle.plan.specs.Cells.{Size}
use Rattle.entries.specs.declared.Aim.{Aim}
use Rattle.entries.specs.Aims.{area, hunt}
use Rattle.entries.specs.Parents.{Named, Linked}
use Rattle.entries.proofs.ParentLaws.{named_one, named_in, comes_named}
use Rattle.answer.specs.Way.{Leads, home, link, Followed, Leading, Counts, Shows}

-- ---- where the parents lead

-- A trail of the method is one of parent bytes: an open move into a cell comes from the cell that its code names.
pub trail_leads : {a : Aim} {parent : List ℕ} (plan : List ℕ) → Size a.width a.height → {s : ℕ} {l : List ℕ} → method.Trail (hunt a plan) parent s l → Leads a parent s l
trail_leads plan z method.home = home
trail_leads plan z (method.link n m t) = link n (comes_named plan z m) (trail_leads plan z t)

-- At the hunter the list ends.
leads_home : {a : Aim} {parent : List ℕ} {s : ℕ} {l : List ℕ} → s ≡ a.hunter → Leads a parent s l → l ≡ a.hunter ∷ []
leads_home e home = refl
leads_home e (link n m r) = absurd (n e)

-- At another cell s it has the list from the parent of s, and then s.
record Onward (a : Aim) (parent : List ℕ) (s : ℕ) (l : List ℕ) : Type 0 where
  cell : ℕ
  named : Named a s (get_or parent s 0) cell
  before : List ℕ
  rest : Leads a parent cell before
  is : l ≡ before ++ (s ∷ [])

onward : {a : Aim} {parent : List ℕ} {s : ℕ} {l : List ℕ} → s ≢ a.hunter → Leads a parent s l → Onward a parent s l
onward n home = absurd (n refl)
onward n (link {s} {w} {l} n' m r) = record { cell = w; named = m; before = l; rest = r; is = refl }

-- The rest is the list from whichever cell the parent byte names.
rest_from : {a : Aim} {parent : List ℕ} {s w : ℕ} {l : List ℕ} (o : Onward a parent s l) → Named a s (get_or parent s 0) w → Leads a parent w o.before
rest_from {a} {parent} o m = subst (λ x. Leads a parent x o.before) (named_one o.named m) o.rest

-- There is one list.
pub leads_unique : {a : Aim} {parent : List ℕ} {s : ℕ} {l l' : List ℕ} → Leads a parent s l → Leads a parent s l' → l ≡ l'
leads_unique home k = sym (leads_home refl k)
leads_unique (link {s} n m r) k = let o = onward n k in ap (λ (x : List ℕ). x ++ (s ∷ [])) (leads_unique r (rest_from o m)) ∙ sym o.is

-- ---- how many cells there are

-- The list of s has one cell more than that of its parent, and every list has a cell.
onward_long : {a : Aim} {parent : List ℕ} {s : ℕ} {l : List ℕ} (o : Onward a parent s l) → length l ≡ length o.before + 1
onward_long {s = s} o = ap length o.is ∙ length-append o.before (s ∷ [])

pub leads_long : {a : Aim} {parent : List ℕ} {s : ℕ} {l : List ℕ} → Leads a parent s l → 1 ≤ length l
leads_long home = omega arith
leads_long (link {s} {w} {l} n m r) = omega (arith, length-append l (s ∷ []))

-- n cells are counted from the target to s, which is a cell of the plan; `left` are those from s on, s among them.
pub record Passing (a : Aim) (parent : List ℕ) (n s : ℕ) : Type 0 where
  pub inside : s < area a
  pub left : List ℕ
  pub leads : Leads a parent s left
  pub sum : (l : List ℕ) → Leads a parent a.target l → n + length left ≡ length l + 1

pub passing_first : {a : Aim} {parent : List ℕ} → Followed a parent → Passing a parent 1 a.target
passing_first F = record {
  inside = F.target_in;
  left = F.cells;
  leads = F.leads;
  sum = λ l k. omega (arith, ap length (leads_unique F.leads k));
}

-- Where the list does not end, the parent byte names a cell.
pub linked : {a : Aim} {parent : List ℕ} {s : ℕ} {l : List ℕ} → Followed a parent → s < area a → Leads a parent s l → s ≢ a.hunter → Linked a parent s
linked F i k n = let o = onward n k in record { size = F.size; long_parent = F.long_parent; inside = i; cell = o.cell; named = o.named }

-- The cells of the plan that are not yet counted grow fewer.
pub passing_fewer : {a : Aim} {parent : List ℕ} {n s : ℕ} → Followed a parent → Passing a parent n s → s ≢ a.hunter → area a - (n + 1) < area a - n
passing_fewer F P n = let o = onward n P.leads in omega (arith, P.sum F.cells F.leads, F.few, onward_long o, leads_long o.rest)

pub passing_more : {a : Aim} {parent : List ℕ} {n s w : ℕ} → Followed a parent → Passing a parent n s → s ≢ a.hunter → Named a s (get_or parent s 0) w → Passing a parent (n + 1) w
passing_more {a} {parent} {s = s} F P ne m = record {
  inside = named_in F.size m;
  left = o.before;
  leads = rest_from o m;
  sum = λ l k. omega (arith, P.sum l k, onward_long o);
}
  where
    o : Onward a parent s P.left
    o = onward ne P.leads

pub passing_all : {a : Aim} {parent : List ℕ} {n s : ℕ} → Passing a parent n s → s ≡ a.hunter → Counts a parent n
passing_all P e l k = omega (arith, P.sum l k, ap length (leads_home e P.leads))

-- ---- the cells written from the last to the first

-- A store at the end of the part that is as it was.
store : (w y : List ℕ) (i v : ℕ) → i < length w → set (take (suc i) w ++ y) i v ≡ take i w ++ (v ∷ y)
store [] y i v l = absurd (omega arith)
store (x ∷ w) y zero v l = refl
store (x ∷ w) y (suc i) v l = ap (λ (r : List ℕ). x ∷ r) (store w y i v (omega arith))

-- The cells behind s stand in their places in the list, the others are `left`, of which s is the last, with place i.
pub record Writing (a : Aim) (parent way₀ : List ℕ) (count i s : ℕ) (way : List ℕ) : Type 0 where
  pub inside : s < area a
  pub left : List ℕ
  pub leads : Leads a parent s left
  pub place : length left ≡ suc i
  pub behind : List ℕ
  pub whole : (l : List ℕ) → Leads a parent a.target l → l ≡ left ++ behind
  pub same : length way ≡ length way₀
  pub is : way ≡ take (suc i) way₀ ++ (behind ++ drop count way₀)

pub writing_first : {a : Aim} {parent w : List ℕ} {count : ℕ} → Leading a parent w → Counts a parent count → Writing a parent w count (count - 1) a.target w
writing_first {a} {parent} {w} {count} G C = record {
  inside = F.target_in;
  left = F.cells;
  leads = F.leads;
  place = long;
  behind = [];
  whole = λ l k. leads_unique k F.leads ∙ sym (append-nil F.cells);
  same = refl;
  is = sym (take-append-drop count w) ∙ ap (λ k. take k w ++ drop count w) (C F.cells F.leads ∙ long);
}
  where
    F : Followed a parent
    F = G.followed

    long : length F.cells ≡ suc (count - 1)
    long = omega (arith, C F.cells F.leads, leads_long F.leads)

module _ {a : Aim} {parent w way : List ℕ} {count i s : ℕ} (G : Leading a parent w) (W : Writing a parent w count i s way) where
  -- the place of s is one of the list
  pub writing_room : i < length w
  writing_room =
      let F = G.followed in
      omega (arith, W.place, ap length (W.whole F.cells F.leads) ∙ length-append W.left W.behind, F.few, G.room)

  -- only the hunter's place is 0
  pub writing_apart : 0 < i → s ≢ a.hunter
  writing_apart p e = omega (arith, W.place, ap length (leads_home e W.leads))

  stored : set way i s ≡ take i w ++ (s ∷ (W.behind ++ drop count w))
  stored = ap (λ (x : List ℕ). set x i s) W.is ∙ store w (W.behind ++ drop count w) i s writing_room

  pub writing_more : {v : ℕ} → 0 < i → Named a s (get_or parent s 0) v → Writing a parent w count (i - 1) v (set way i s)
  writing_more p m = record {
    inside = named_in G.followed.size m;
    left = o.before;
    leads = rest_from o m;
    place = omega (arith, W.place, onward_long o);
    behind = s ∷ W.behind;
    whole = λ l k. W.whole l k ∙ ap (λ (x : List ℕ). x ++ W.behind) o.is ∙ append_assoc o.before (s ∷ []) W.behind;
    same = length-set way i s ∙ W.same;
    is = stored ∙ ap (λ k. take k w ++ (s ∷ (W.behind ++ drop count w))) again;
  }
    where
      o : Onward a parent s W.left
      o = onward (writing_apart p) W.leads

      again : i ≡ suc (i - 1)
      again = omega arith

-- The list of one cell is that cell, the hunter.
leads_one : {a : Aim} {parent : List ℕ} {s : ℕ} {l : List ℕ} → Leads a parent s l → length l ≡ 1 → l ≡ s ∷ []
leads_one home e = refl
leads_one (link {s} {w} {l} n m r) e = absurd (omega (arith, length-append l (s ∷ []), leads_long r))

pub writing_all : {a : Aim} {parent w way : List ℕ} {count i s : ℕ} → Leading a parent w → Counts a parent count → i ≤ 0 → Writing a parent w count i s way
    → Shows a parent w count (set way 0 s)
writing_all {a} {parent} {w} {way} {count} {i} {s} G C z T l k = (C l k, stored G W ∙ ap (λ (x : List ℕ). x ++ drop count w) (sym cells) ∙ ap (λ n. l ++ drop n w) (C l k))
  where
    W : Writing a parent w count 0 s way
    W = subst (λ x. Writing a parent w count x s way) (omega arith) T

    cells : l ≡ s ∷ W.behind
    cells = W.whole l k ∙ ap (λ (x : List ℕ). x ++ W.behind) (leads_one W.leads W.place)

-- By these the walk that counts is proved ..
pub ruleset passing = (passing_first, linked, passing_more, passing_all)

-- .. and the one that writes.
pub ruleset writing = (linked, writing_first, writing_room, writing_apart, writing_more)
