-- The plan's graph has the laws that the method asks.
use mathlib.Core.Path.{◌≡◌, refl, sym, ap, subst, ◌∙◌}
use mathlib.Core.Bool.{Bool, true, false}
use mathlib.Core.Logic.{◌⊎◌, inl, inr, ◌≢◌}
use mathlib.Core.List.Memᴰ
use mathlib.Core.List.{List, [], ◌∷◌, ◌++◌, Memᴰ}
use Prim.Native.Nat.{ℕ, zero, suc, ◌+◌, ◌≤◌, ◌<◌}
use native.Mathlib.Nat.{mul-le-mul}
use native.Mathlib.Omega.{arith}
use native.Mathlib.Decide.{ℕ_discrete}
use Rattle.decide.specs.Choose.{choose}
use Rattle.decide.specs.Order.{Order}
use Rattle.decide.proofs.OrderLaws.{column_order}
use Rattle.method.specs.Graph.{Move, move, GraphLaws}
use Rattle.plan.specs.Directions.{opposite}
use Rattle.plan.specs.Cells.{Size, Stays, stays, entered}
use Rattle.plan.specs.Costs.{Plan, cells, byte, IsCost, is_cost}
use Rattle.plan.specs.Grid.{out_by, into_by, up_to, graph_of}
use Rattle.plan.proofs.DirectionLaws.{opposes}
use Rattle.plan.proofs.CellLaws.{enters, stays_back, back_again}
use Rattle.plan.proofs.EstimateLaws.{estimate_self, estimate_symmetric, estimate_triangle, estimate_le, estimate_step}

-- A move of the first n directions is one of some direction's.
pub up_to_is : (f : ℕ → List Move) (n : ℕ) (m : Move) → Memᴰ m (up_to f n) → (d : ℕ) × (d < n) × Memᴰ m (f d)
unfolding up_to
up_to_is f zero m i = absurd (Memᴰ.not-nil i)
up_to_is f (suc n) m i = at (λ j. up_to_is f n m j) (Memᴰ.append_cases (up_to f n) i)
  where
    at : (Memᴰ m (up_to f n) → (d : ℕ) × (d < n) × Memᴰ m (f d)) → Memᴰ m (up_to f n) ⊎ Memᴰ m (f n) → (d : ℕ) × (d < suc n) × Memᴰ m (f d)
    at ih (inl j) = let r = ih j in (r.0, omega (arith, r.1), r.2)
    at ih (inr j) = (n, omega arith, j)

pub up_to_has : (f : ℕ → List Move) (n : ℕ) (m : Move) (d : ℕ) → d < n → Memᴰ m (f d) → Memᴰ m (up_to f n)
unfolding up_to
up_to_has f zero m d l i = absurd (omega arith)
up_to_has f (suc n) m d l i = at (λ k. up_to_has f n m d k i) (ℕ_discrete d n)
  where
    at : (d < n → Memᴰ m (up_to f n)) → Dec (d ≡ n) → Memᴰ m (up_to f n ++ f n)
    at ih (yes e) = Memᴰ.append_right (up_to f n) (rw e at i)
    at ih (no n') = Memᴰ.append_left (f n) (ih (omega arith))

-- A list of one open move, or of none.
one_is : {P Q : Type 0} (p : Dec P) (q : Dec Q) (x m : Move) → Memᴰ m (choose p (choose q (x ∷ []) []) []) → P × Q × (m ≡ x)
unfolding choose
one_is (yes p) (yes q) x m i = (p, q, Memᴰ.eq_of_singleton i)
one_is (yes p) (no q) x m i = absurd (Memᴰ.not-nil i)
one_is (no p) q x m i = absurd (Memᴰ.not-nil i)

one_has : {P Q : Type 0} (p : Dec P) (q : Dec Q) (x : Move) → P → Q → Memᴰ x (choose p (choose q (x ∷ []) []) [])
unfolding choose
one_has (yes p) (yes q) x h k = Memᴰ.head refl
one_has (yes p) (no q) x h k = absurd (q k)
one_has (no p) q x h k = absurd (p h)

-- An open move from w into s: s has it as the move with code k.
pub record Open (p : Plan) (s k w c : ℕ) : Type 0 where
  pub direction : ℕ
  pub small : direction < 4
  pub named : k ≡ direction + 1
  pub stays_in : Stays p.width p.height s direction
  pub from : w ≡ entered p.width s direction
  pub costs : c ≡ byte p w (opposite direction)
  pub a_cost : IsCost c

module _ (p : Plan) (wide : 1 ≤ p.width) where
  into_by_is : (s k w c d : ℕ) → d < 4 → Memᴰ (move k w c) (into_by p s d) → Open p s k w c
  unfolding into_by
  into_by_is s k w c d l i =
      let v = entered p.width s d in
      let b = byte p (entered p.width s d) (opposite d) in
      let h = one_is (stays p.width p.height s d) (is_cost b) (move (d + 1) v b) (move k w c) i in
      let ew : w ≡ v = ap (λ x. x.cell) h.2 in
      let ec : c ≡ b = ap (λ x. x.cost) h.2 in
      record { direction = d; small = l; named = ap (λ x. x.code) h.2; stays_in = h.0; from = ew; costs = rw ew ec; a_cost = rw ec h.1 }

  pub into_is : (s k w c : ℕ) → Memᴰ (move k w c) (up_to (into_by p s) 4) → Open p s k w c
  into_is s k w c i = let r = up_to_is (into_by p s) 4 (move k w c) i in into_by_is s k w c r.0 r.1 r.2

  pub into_has : (s k w c : ℕ) → Open p s k w c → Memᴰ (move k w c) (up_to (into_by p s) 4)
  unfolding into_by
  into_has s k w c o =
      let d = o.direction in
      let v = entered p.width s o.direction in
      let b = byte p (entered p.width s o.direction) (opposite o.direction) in
      let e : move k w c ≡ move (d + 1) v b = rw (o.named, o.costs, o.from) refl in
      up_to_has (into_by p s) 4 (move k w c) d o.small
      (rw e (one_has (stays p.width p.height s d) (is_cost b) (move (d + 1) v b) o.stays_in (rw (o.costs, o.from) at o.a_cost)))

  -- out of w in direction d, seen from the cell entered: there w is the neighbour in the opposite direction
  out_by_is : (s k w c d : ℕ) → d < 4 → Memᴰ (move k s c) (out_by p w d) → Open p s k w c
  unfolding out_by
  out_by_is s k w c d l i =
      let h = one_is (stays p.width p.height w d) (is_cost (byte p w d)) (move (opposite d + 1) (entered p.width w d) (byte p w d)) (move k s c) i in
      let es : s ≡ entered p.width w d = ap (λ x. x.cell) h.2 in
      let ec : c ≡ byte p w d = ap (λ x. x.cost) h.2 in
      record {
        direction = opposite d;
        small = (opposes d l).small;
        named = ap (λ x. x.code) h.2;
        stays_in = rw es (stays_back wide l h.0);
        from = rw es (sym (back_again wide l h.0));
        costs = rw (opposes d l).back ec;
        a_cost = rw ec h.1;
      }

  out_is : (s k w c : ℕ) → Memᴰ (move k s c) (up_to (out_by p w) 4) → Open p s k w c
  out_is s k w c i = let r = up_to_is (out_by p w) 4 (move k s c) i in out_by_is s k w c r.0 r.1 r.2

  out_has : (s k w c : ℕ) → Open p s k w c → Memᴰ (move k s c) (up_to (out_by p w) 4)
  unfolding out_by
  out_has s k w c o =
      let d = opposite o.direction in
      let v = entered p.width w (opposite o.direction) in
      let b = byte p w (opposite o.direction) in
      let m : Stays p.width p.height w d = rw o.from (stays_back wide o.small o.stays_in) in
      let es : v ≡ s = rw o.from (back_again wide o.small o.stays_in) in
      let ek : opposite d + 1 ≡ k = rw (opposes o.direction o.small).back (sym o.named) in
      let e : move k s c ≡ move (opposite d + 1) v b = rw (ek, es, o.costs) refl in
      up_to_has (out_by p w) 4 (move k s c) d (opposes o.direction o.small).small
      (rw e (one_has (stays p.width p.height w d) (is_cost b) (move (opposite d + 1) v b) m (rw o.costs at o.a_cost)))

  -- the one open move of a direction, into s and out of u
  pub into_reach : (s d : ℕ) {k v c : ℕ} → d < 4 → move k v c ∷ [] ≡ into_by p s d → Open p s k v c
  into_reach s d {k} {v} {c} l e = into_by_is s k v c d l (subst (Memᴰ (move k v c)) e (Memᴰ.head refl))

  pub out_reach : (u d : ℕ) {k v c : ℕ} → move k v c ∷ [] ≡ out_by p u d → Stays p.width p.height u d × IsCost c × (v ≡ entered p.width u d)
  unfolding out_by
  out_reach u d {k} {v} {c} e =
      let x = move (opposite d + 1) (entered p.width u d) (byte p u d) in
      let h = one_is (stays p.width p.height u d) (is_cost (byte p u d)) x (move k v c) (subst (Memᴰ (move k v c)) e (Memᴰ.head refl)) in
      let ec : c ≡ byte p u d = ap (λ m. m.cost) h.2 in
      (h.0, rw ec h.1, ap (λ m. m.cell) h.2)

  -- an open move comes from a cell of the plan
  pub open_from_in : {s k w c : ℕ} → Open p s k w c → w < cells p
  open_from_in o = rw o.from (enters wide o.stays_in).inside

  one_direction_named : (s k w c w' c' : ℕ) (o : Open p s k w c) (o' : Open p s k w' c') → o.direction ≡ o'.direction
  one_direction_named s k w c w' c' o o' = omega (arith, o.named, o'.named)

  one_from : (s k w c w' c' : ℕ) → Open p s k w c → Open p s k w' c' → w ≡ w'
  one_from s k w c w' c' o o' = o.from ∙ ap (entered p.width s) (one_direction_named s k w c w' c' o o') ∙ sym o'.from

  one_cost : (s k w c w' c' : ℕ) → Open p s k w c → Open p s k w' c' → c ≡ c'
  one_cost s k w c w' c' o o' = o.costs ∙ rw (one_from s k w c w' c' o o', one_direction_named s k w c w' c' o o') (sym o'.costs)

-- Of two different cells one is first.
one_first : {lt : ℕ → ℕ → Bool} → Order lt → (a b : ℕ) → a ≢ b → (lt a b ≡ true) ⊎ (lt b a ≡ true)
one_first {lt} order a b ne = at (lt a b) refl (lt b a) refl
  where
    at : (x : Bool) → lt a b ≡ x → (y : Bool) → lt b a ≡ y → (lt a b ≡ true) ⊎ (lt b a ≡ true)
    at true e y f = inl e
    at false e true f = inr f
    at false e false f = absurd (ne (order.total a b e f))

-- The plan, whatever its bytes, is a graph of the method.
pub graph_laws : (p : Plan) → Size p.width p.height → GraphLaws (graph_of p)
graph_laws p z = record {
  few = mul-le-mul z.low z.narrow;
  goes_out = λ s k w c i. out_has p z.wide s k w c (into_is p z.wide s k w c i);
  comes_in = λ s k w c i. into_has p z.wide s k w c (out_is p z.wide s k w c i);
  from_in = λ s k w c i. open_from_in p z.wide (into_is p z.wide s k w c i);
  to_in = λ s k w c i. (into_is p z.wide s k w c i).stays_in.from_in;
  code_pos = λ s k w c i. omega (arith, (into_is p z.wide s k w c i).named);
  one_from = λ s k w c w' c' i j. one_from p z.wide s k w c w' c' (into_is p z.wide s k w c i) (into_is p z.wide s k w' c' j);
  one_cost = λ s k w c w' c' i j. one_cost p z.wide s k w c w' c' (into_is p z.wide s k w c i) (into_is p z.wide s k w' c' j);
  cost_pos = λ s k w c i. (into_is p z.wide s k w c i).a_cost.0;
  cost_le = λ s k w c i. (into_is p z.wide s k w c i).a_cost.1;
  near = λ s k w c t i. let o = into_is p z.wide s k w c i in rw o.from (omega (arith, o.a_cost, estimate_step z.wide o.small o.stays_in t));
  self = estimate_self p.width;
  symmetric = estimate_symmetric p.width;
  triangle = estimate_triangle p.width;
  estimate_le = estimate_le z;
  not_itself = (column_order p.width).irreflexive;
  onward = (column_order p.width).transitive;
  one_first = one_first (column_order p.width);
}
