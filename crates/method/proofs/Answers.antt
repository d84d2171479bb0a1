-- What right tables answer when the loop has stopped: the cells from parent to parent are a cheapest chain, or there is no chain.
use mathlib.Core.Path.{◌≡◌, refl, sym, ap, subst, ◌∙◌}
use mathlib.Core.Logic.{◌⊎◌, inl, inr, ◌≢◌}
use mathlib.Core.List.Memᴰ
use mathlib.Core.List.{List, [], ◌∷◌, ◌++◌, append_assoc, append-nil, Memᴰ}
use Prim.Native.Nat.{ℕ, zero, suc, ◌+◌, ◌-◌, ◌≤◌, ◌<◌}
use native.Mathlib.Omega.{arith}
use native.Mathlib.Decide.{ℕ_discrete, dec_le}
use lib.ListN.{length, get_or, length-append}
use Rattle.decide.proofs.ChooseLaws.{choose_yes, choose_no, choose_is}
use Rattle.method.specs.Numbers.{infinite, most_cost}
use Rattle.method.specs.Graph.{Move, move, Graph, Comes, GraphLaws, Hunt}
use Rattle.method.specs.Tables.{Tables, g_at, rhs_at, parent_at, stored_key}
use Rattle.method.specs.Session.{parent_cell, way_from}
use Rattle.method.specs.Walk.{Chain, stay, go, NoChain, Cheapest}
use Rattle.method.specs.During.{Stands, key_at, key, Inconsistent, Right, lack, sum}
use Rattle.method.proofs.Counting.{lack_le, lack_no, lack_keep, lack_gain, sum_bound, sum_drop}
use Rattle.method.proofs.Notions.{ReachedAt}

-- The loop has stopped: rhs of the target is not above its g, and no stored key is below the target's finite key.
pub record Stopped (H : Hunt) (T : Tables) : Type 0 where
  pub not_over : rhs_at T H.target ≤ g_at T H.target
  pub rest : (s : ℕ) → s < H.graph.cells → Inconsistent T s → (rhs_at T H.target < infinite) × (key H T H.target ≤ stored_key T s)

-- Every finite g leaves room for one more cost.
abbrev pub Room : Hunt → Tables → Type 0
Room H T = (s : ℕ) → s < H.graph.cells → g_at T s < infinite → g_at T s + most_cost < infinite

-- ---- following parents

parent_list : (k w c : ℕ) (l : List Move) → ((w' c' : ℕ) → Memᴰ (move k w' c') l → w' ≡ w) → Memᴰ (move k w c) l → parent_cell l k ≡ w
unfolding parent_cell
parent_list k w c [] f m = absurd (Memᴰ.not-nil m)
parent_list k w c (b ∷ l) f m =
    choose_is (λ x. x ≡ w) _ (λ e. f b.cell b.cost (Memᴰ.head (ap (λ x. move x b.cell b.cost) (sym e))))
    (λ n. at (λ m'. parent_list k w c l (λ w' c' x. f w' c' (Memᴰ.tail x)) m') n (Memᴰ.cases_cons m))
  where
    at : (Memᴰ (move k w c) l → parent_cell l k ≡ w) → b.code ≢ k → (move k w c ≡ b) ⊎ Memᴰ (move k w c) l → parent_cell l k ≡ w
    at ih n (inl e) = absurd (n (sym (ap (λ x. x.code) e)))
    at ih n (inr m') = ih m'

-- a parent code names the cell that its move comes from
pub parent_cell_is : {G : Graph} → GraphLaws G → {s k w c : ℕ} → Comes G s k w c → parent_cell (G.into s) k ≡ w
parent_cell_is {G} L {s} {k} {w} {c} a = parent_list k w c (G.into s) (λ w' c' m. L.one_from s k w' c' w c m a) a

-- ---- how many cells have an rhs of at most v

up_to : Hunt → Tables → ℕ → ℕ
up_to H T v = sum H.graph.cells (λ x. lack (dec_le (suc v) (rhs_at T x)))

up_to_le : (H : Hunt) (T : Tables) (v : ℕ) → up_to H T v ≤ H.graph.cells
unfolding up_to
up_to_le H T v = sum_bound H.graph.cells (λ x. lack (dec_le (suc v) (rhs_at T x))) (λ x m. lack_le (dec_le (suc v) (rhs_at T x)))

up_to_self : (H : Hunt) (T : Tables) (s : ℕ) → s < H.graph.cells → 1 ≤ up_to H T (rhs_at T s)
unfolding up_to
up_to_self H T s l =
    let z : sum H.graph.cells (λ x. 0) < sum H.graph.cells (λ x. lack (dec_le (suc (rhs_at T s)) (rhs_at T x))) =
    sum_drop H.graph.cells (λ x. lack (dec_le (suc (rhs_at T s)) (rhs_at T x))) (λ x. 0) s l (lack_no (dec_le (suc (rhs_at T s)) (rhs_at T s)) (λ h. omega arith))
    (λ x m. omega arith) in
    omega arith

up_to_less : (H : Hunt) (T : Tables) (s w : ℕ) → s < H.graph.cells → rhs_at T w < rhs_at T s → up_to H T (rhs_at T w) < up_to H T (rhs_at T s)
unfolding up_to
up_to_less H T s w l lt =
    sum_drop H.graph.cells (λ x. lack (dec_le (suc (rhs_at T s)) (rhs_at T x))) (λ x. lack (dec_le (suc (rhs_at T w)) (rhs_at T x))) s l
    (lack_gain (dec_le (suc (rhs_at T s)) (rhs_at T s)) (dec_le (suc (rhs_at T w)) (rhs_at T s)) (λ h. omega arith) lt)
    (λ x m. lack_keep (dec_le (suc (rhs_at T s)) (rhs_at T x)) (dec_le (suc (rhs_at T w)) (rhs_at T x)) (λ h. omega arith))

-- ---- at the stop

chain_estimate : {G : Graph} → GraphLaws G → {a e d : ℕ} {l : List ℕ} → Chain G a l e d → G.estimate a e ≤ d
chain_estimate L (stay {a}) = omega (arith, L.self a)
chain_estimate L (go {a} {b} {k} {c} {e = e} m w) = omega (arith, chain_estimate L w, L.near b k a c e m)

-- The parents lead from s to the hunter, over the cells of l, hunter first.
pub data Trail (H : Hunt) (parent : List ℕ) : ℕ → List ℕ → Type 0 where
  home : Trail H parent H.hunter (H.hunter ∷ [])
  link : {s w c : ℕ} {l : List ℕ} → s ≢ H.hunter → Comes H.graph s (get_or parent s 0) w c → Trail H parent w l → Trail H parent s (l ++ (s ∷ []))

trail_long : {H : Hunt} {parent : List ℕ} {s : ℕ} {l : List ℕ} → Trail H parent s l → 1 ≤ length l
trail_long home = omega arith
trail_long (link {s} {l = l} n m t) = omega (arith, length-append l (s ∷ []))

-- The cells of the way are those of the trail, hunter first.
pub trail_way : {H : Hunt} → GraphLaws H.graph → {parent : List ℕ} {s : ℕ} {l : List ℕ} → Trail H parent s l → (links : ℕ) (rest : List ℕ) → length l ≤ suc links
    → way_from H parent links s rest ≡ l ++ rest
unfolding way_from
trail_way L home zero rest h = refl
trail_way {H} L {parent} home (suc links) rest h = choose_yes (ℕ_discrete H.hunter H.hunter) (H.hunter ∷ rest) _ refl
trail_way L (link {s} {l = l} n m t) zero rest h = absurd (omega (arith, length-append l (s ∷ []), trail_long t))
trail_way {H} L {parent} (link {s} {l = l} n m t) (suc links) rest h =
    choose_no (ℕ_discrete s H.hunter) (s ∷ rest) _ n
    ∙ ap (λ x. way_from H parent links x (s ∷ rest)) (parent_cell_is L m)
    ∙ trail_way L t links (s ∷ rest) (omega (arith, length-append l (s ∷ [])))
    ∙ sym (append_assoc l (s ∷ []) rest)

-- One more move at the end of a chain.
pub chain_more : {G : Graph} {a b e k c d : ℕ} {l : List ℕ} → Chain G a l b d → Comes G e k b c → Chain G a (l ++ (e ∷ [])) e (d + c)
chain_more {G} {e = e} {c = c} (stay {a}) m = subst (Chain G a (a ∷ e ∷ []) e) (omega arith) (go m stay)
chain_more {G} {e = e} {c = c} (go {a} {c = c₁} {d = d₁} {l = l} m₁ w) m = subst (Chain G a (a ∷ (l ++ (e ∷ []))) e) (omega arith) (go m₁ (chain_more w m))

-- The trail from s: no more cells than have an rhs of at most that of s, and a chain at cost rhs(s) − rhs(hunter).
record Followed (H : Hunt) (T : Tables) (s : ℕ) : Type 0 where
  cells : List ℕ
  trail : Trail H T.parent s cells
  short : length cells ≤ up_to H T (rhs_at T s)
  cost : ℕ
  chain : Chain H.graph H.hunter cells s cost
  sum : rhs_at T H.hunter + cost ≡ rhs_at T s

module _ {H : Hunt} {T : Tables} (L : Stands H) (R : Right H T) (Z : Stopped H T) where
  -- a queued cell's key is at least the target's
  queued_key : (s : ℕ) → s < H.graph.cells → Inconsistent T s → key H T H.target ≤ key H T s
  queued_key s l q = omega (arith, (Z.rest s l q).1, R.keys s l q)

  move_le : (s k w c v : ℕ) → Comes H.graph s k w c → rhs_at T H.hunter ≤ v + c → g_at T w ≤ v → rhs_at T s ≤ v + c
  move_le s k w c v a h e = at (ℕ_discrete s H.hunter)
    where
      at : Dec (s ≡ H.hunter) → rhs_at T s ≤ v + c
      at (yes q) = rw q h
      at (no n) = omega (arith, (R.least s (L.laws.to_in s k w c a) n).least k w c a)

  -- along a chain to the target: rhs of the target is at most rhs so far and the rest
  along : {x d : ℕ} {l : List ℕ} → Chain H.graph x l H.target d → (v : ℕ) → x < H.graph.cells → rhs_at T x ≤ v → rhs_at T H.hunter ≤ v
      → rhs_at T H.target ≤ v + d
  along stay v l h hs = omega arith
  along (go {a = x} {b} {k} {c} {d} m w) v l h hs = over (λ i is. along w (v + c) (L.laws.to_in b k x c m) i is) (dec_le (suc (v + (c + d))) (rhs_at T H.target))
    where
      consistent : v + (c + d) < rhs_at T H.target → Dec (g_at T x ≡ rhs_at T x) → g_at T x ≤ v
      consistent lt (yes e) = omega arith
      consistent lt (no n) =
          absurd (omega (arith, queued_key x l n, chain_estimate L.laws w, L.laws.near b k x c H.target m, L.laws.self H.target, Z.not_over))

      over : (rhs_at T b ≤ v + c → rhs_at T H.hunter ≤ v + c → rhs_at T H.target ≤ v + c + d) → Dec (v + (c + d) < rhs_at T H.target)
          → rhs_at T H.target ≤ v + (c + d)
      over ih (no n) = omega arith
      over ih (yes lt) =
          let i : rhs_at T b ≤ v + c = move_le b k x c v m (omega arith) (consistent lt (ℕ_discrete (g_at T x) (rhs_at T x))) in
          omega (arith, ih i (omega arith))

  -- every chain from the hunter to the target costs at least rhs(target) − rhs(hunter)
  every_chain : {d : ℕ} {l : List ℕ} → Chain H.graph H.hunter l H.target d → rhs_at T H.target ≤ rhs_at T H.hunter + d
  every_chain w = along w (rhs_at T H.hunter) L.hunter_in (omega arith) (omega arith)

  no_chain_from : Room H T → rhs_at T H.target ≡ infinite → {x d : ℕ} {l : List ℕ} → Chain H.graph x l H.target d → x < H.graph.cells → rhs_at T x < infinite → ⊥
  no_chain_from room i stay l h = omega arith
  no_chain_from room i (go {a = x} {b} {k} {c} m w) l h =
      no_chain_from room i w (L.laws.to_in b k x c m) (finite (ℕ_discrete b H.hunter) (ℕ_discrete (g_at T x) (rhs_at T x)))
    where
      finite : Dec (b ≡ H.hunter) → Dec (g_at T x ≡ rhs_at T x) → rhs_at T b < infinite
      finite (yes q) e = rw q R.hunter_finite
      finite (no n) (yes e) = omega (arith, (R.least b (L.laws.to_in b k x c m) n).least k x c m, L.laws.cost_le b k x c m, room x l (omega arith))
      finite (no n) (no q) = absurd (omega (arith, (Z.rest x l q).0))

  -- rhs of the target infinite: no chain
  pub no_chain : Room H T → rhs_at T H.target ≡ infinite → NoChain H.graph H.hunter H.target
  no_chain room i l d w = no_chain_from room i w L.hunter_in R.hunter_finite

  -- the parent of a cell whose key is not above the target's is consistent
  parent_consistent : (s k w c : ℕ) → Comes H.graph s k w c → rhs_at T s ≡ g_at T w + c → key_at H s (rhs_at T s) ≤ key H T H.target → g_at T w ≡ rhs_at T w
  parent_consistent s k w c a e kl = at (ℕ_discrete (g_at T w) (rhs_at T w))
    where
      at : Dec (g_at T w ≡ rhs_at T w) → g_at T w ≡ rhs_at T w
      at (yes q) = q
      at (no n) = absurd (omega (arith, queued_key w (L.laws.from_in s k w c a) n, L.laws.near s k w c H.target a, L.laws.cost_pos s k w c a))

  -- s has a parent: another cell of smaller rhs, consistent, nearer the hunter
  record Parent (s : ℕ) : Type 0 where
    from : ℕ
    cost : ℕ
    comes : Comes H.graph s (parent_at T s) from cost
    from_in : from < H.graph.cells
    sum : rhs_at T s ≡ rhs_at T from + cost
    less : rhs_at T from < rhs_at T s
    key_le : key_at H from (rhs_at T from) ≤ key H T H.target

  parent_of : (s : ℕ) → s < H.graph.cells → s ≢ H.hunter → rhs_at T s < infinite → key_at H s (rhs_at T s) ≤ key H T H.target → Parent s
  parent_of s l ns fin kl = at (R.least s l ns).reached
    where
      at : ReachedAt H.graph T s → Parent s
      at (inl z) = absurd (omega arith)
      at (inr v) =
          let w = v.1.from in
          let c = v.1.cost in
          let q : g_at T w ≡ rhs_at T w = parent_consistent s (parent_at T s) w c v.1.comes v.1.sum kl in
          let p : 1 ≤ c = L.laws.cost_pos s (parent_at T s) w c v.1.comes in
          let e : rhs_at T s ≡ g_at T w + c = v.1.sum in
          record {
            from = w;
            cost = c;
            comes = v.1.comes;
            from_in = L.laws.from_in s (parent_at T s) w c v.1.comes;
            sum = omega arith;
            less = omega arith;
            key_le = omega (arith, L.laws.near s (parent_at T s) w c H.target v.1.comes);
          }

  -- the parents lead from s to the hunter
  follow : (n s : ℕ) → up_to H T (rhs_at T s) ≤ n → s < H.graph.cells → rhs_at T s < infinite → key_at H s (rhs_at T s) ≤ key H T H.target → Followed H T s
  follow zero s h l fin kl = absurd (omega (arith, up_to_self H T s l))
  follow (suc n) s h l fin kl = at (λ x. follow n x) (ℕ_discrete s H.hunter)
    where
      on : ((x : ℕ) → up_to H T (rhs_at T x) ≤ n → x < H.graph.cells → rhs_at T x < infinite → key_at H x (rhs_at T x) ≤ key H T H.target → Followed H T x) → s ≢ H.hunter → Parent s
          → Followed H T s
      on ih ns p =
          let up : up_to H T (rhs_at T p.from) < up_to H T (rhs_at T s) = up_to_less H T s p.from l p.less in
          let lt : rhs_at T p.from < rhs_at T s = p.less in
          let r = ih p.from (omega arith) p.from_in (omega arith) p.key_le in
          record {
            cells = r.cells ++ (s ∷ []);
            trail = link ns p.comes r.trail;
            short = omega (arith, length-append r.cells (s ∷ []), r.short);
            cost = r.cost + p.cost;
            chain = chain_more r.chain p.comes;
            sum = omega (arith, r.sum, p.sum);
          }

      at : ((x : ℕ) → up_to H T (rhs_at T x) ≤ n → x < H.graph.cells → rhs_at T x < infinite → key_at H x (rhs_at T x) ≤ key H T H.target → Followed H T x) → Dec (s ≡ H.hunter)
          → Followed H T s
      at ih (yes e) =
          subst (Followed H T) (sym e)
          (record { cells = H.hunter ∷ []; trail = home; short = omega (arith, up_to_self H T H.hunter L.hunter_in); cost = 0; chain = stay; sum = omega arith })
      at ih (no ns) = on ih ns (parent_of s l ns fin kl)

  followed : rhs_at T H.target < infinite → Followed H T H.target
  followed fin = follow (up_to H T (rhs_at T H.target)) H.target (omega arith) L.target_in fin (omega (arith, Z.not_over))

  -- rhs of the target finite: the way found is a cheapest one, with at most as many cells as the graph has
  pub cheapest : rhs_at T H.target < infinite
      → Cheapest H.graph H.hunter H.target (rhs_at T H.target - rhs_at T H.hunter) (way_from H T.parent H.graph.cells H.target [])
      × (length (way_from H T.parent H.graph.cells H.target []) ≤ H.graph.cells)
  cheapest fin =
      let r = followed fin in
      let few : length r.cells ≤ H.graph.cells = omega (arith, r.short, up_to_le H T (rhs_at T H.target)) in
      let cells_are : way_from H T.parent H.graph.cells H.target [] ≡ r.cells = trail_way L.laws r.trail H.graph.cells [] (omega arith) ∙ append-nil r.cells in
      let e : r.cost ≡ rhs_at T H.target - rhs_at T H.hunter = omega (arith, r.sum) in
      rw cells_are (record { leads = rw e at r.chain; least = λ l d w. omega (arith, every_chain w) }, few)

  -- rhs of the target finite: the parents lead from the target to the hunter, whose rhs is not above, over at most as many cells as the graph has
  pub trail : rhs_at T H.target < infinite → (l : List ℕ) × Trail H T.parent H.target l × (length l ≤ H.graph.cells) × (rhs_at T H.hunter ≤ rhs_at T H.target)
  trail fin = let r = followed fin in (r.cells, r.trail, omega (arith, r.short, up_to_le H T (rhs_at T H.target)), omega (arith, r.sum))
