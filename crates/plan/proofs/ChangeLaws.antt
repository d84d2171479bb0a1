-- The change of one byte of an obedient plan leaves an obedient plan, and changes one move of its graph.
use mathlib.Core.Path.{◌≡◌, refl, sym, ap, ◌∙◌}
use mathlib.Core.Logic.{◌⊎◌, inl, inr}
use Prim.Native.Nat.{ℕ, ◌+◌, ◌*◌, ◌≤◌, ◌<◌}
use native.Mathlib.Omega.{arith}
use native.Mathlib.Decide.{ℕ_discrete}
use lib.ListN.{length-set}
use lib.Seq.{get_or-set_same, get_or-set_other}
use Rattle.method.specs.Graph.{Comes}
use Rattle.method.specs.Change.{Altered}
use Rattle.plan.specs.Directions.{opposite}
use Rattle.plan.specs.Cells.{Stays, entered}
use Rattle.plan.specs.Costs.{Plan, cells, byte, shut, IsCost, IsByte, with_byte, Obeys}
use Rattle.plan.specs.Grid.{graph_of}
use Rattle.plan.proofs.DirectionLaws.{opposes}
use Rattle.plan.proofs.CellLaws.{stays_back, back_again}
use Rattle.plan.proofs.GridLaws.{Open, into_is, into_has}
use Rattle.plan.proofs.MoveLaws.{cost_of}

byte_le : {c : ℕ} → IsByte c → c ≤ shut
byte_le (inl o) = omega (arith, o.1)
byte_le (inr e) = omega arith

-- An open move of one plan is one of another of the same size where the bytes agree.
carried : (p q : Plan) {s k w b : ℕ} → q.width ≡ p.width → q.height ≡ p.height → (o : Open p s k w b) → byte q w (opposite o.direction) ≡ byte p w (opposite o.direction) → Open q s k w b
carried p q ew eh o e = record {
  direction = o.direction;
  small = o.small;
  named = o.named;
  stays_in = rw (ew, eh) o.stays_in;
  from = rw ew o.from;
  costs = o.costs ∙ sym e;
  a_cost = o.a_cost;
}

module _ (p : Plan) (O : Obeys p) (u d c : ℕ) (lu : u < cells p) (ld : d < 4) (m : Stays p.width p.height u d) (new : IsByte c) where
  wide : 1 ≤ p.width
  wide = O.size.wide

  byte_here : byte (with_byte p u d c) u d ≡ c
  byte_here = get_or-set_same p.bytes (4 * u + d) c 0 (omega (arith, O.sized))

  byte_off : (w e : ℕ) → e < 4 → ((w ≡ u) × (e ≡ d) → ⊥) → byte (with_byte p u d c) w e ≡ byte p w e
  byte_off w e le n = get_or-set_other p.bytes (4 * u + d) (4 * w + e) c 0 (λ q. n (omega arith, omega arith))

  -- a byte after the change: the new one, or as it was
  byte_either : (w e : ℕ) → e < 4 → (byte (with_byte p u d c) w e ≡ byte p w e) ⊎ ((w ≡ u) × (e ≡ d))
  byte_either w e le = at (ℕ_discrete w u) (ℕ_discrete e d)
    where
      at : Dec (w ≡ u) → Dec (e ≡ d) → (byte (with_byte p u d c) w e ≡ byte p w e) ⊎ ((w ≡ u) × (e ≡ d))
      at (yes a) (yes b) = inr (a, b)
      at (yes a) (no b) = inl (byte_off w e le (λ x. b x.1))
      at (no a) y = inl (byte_off w e le (λ x. a x.0))

  byte_level : c ≡ byte p u d → (w e : ℕ) → e < 4 → byte (with_byte p u d c) w e ≡ byte p w e
  byte_level q w e le = at (byte_either w e le)
    where
      at : (byte (with_byte p u d c) w e ≡ byte p w e) ⊎ ((w ≡ u) × (e ≡ d)) → byte (with_byte p u d c) w e ≡ byte p w e
      at (inl h) = h
      at (inr h) = rw (h.0, h.1) (byte_here ∙ q)

  -- The plan stays obedient.
  pub changed_obeys : Obeys (with_byte p u d c)
  changed_obeys = record {
    size = O.size;
    sized = length-set p.bytes (4 * u + d) c ∙ O.sized;
    bytes = λ w e lw le. bytes w e lw le (byte_either w e le);
    edges = λ w e lw le off. edges w e lw le off (byte_either w e le);
  }
    where
      bytes : (w e : ℕ) → w < cells p → e < 4 → (byte (with_byte p u d c) w e ≡ byte p w e) ⊎ ((w ≡ u) × (e ≡ d)) → IsByte (byte (with_byte p u d c) w e)
      bytes w e lw le (inl h) = rw h (O.bytes w e lw le)
      bytes w e lw le (inr h) = rw (h.0, h.1, byte_here) new

      edges : (w e : ℕ) → w < cells p → e < 4 → (Stays p.width p.height w e → ⊥) → (byte (with_byte p u d c) w e ≡ byte p w e) ⊎ ((w ≡ u) × (e ≡ d)) → byte (with_byte p u d c) w e ≡ shut
      edges w e lw le off (inl h) = h ∙ O.edges w e lw le off
      edges w e lw le off (inr h) = absurd (off (rw (h.0, h.1) m))

  -- the move into the cell entered
  entering : (q : Plan) {b : ℕ} → q.width ≡ p.width → q.height ≡ p.height → b ≡ byte q u d → IsCost b → Open q (entered p.width u d) (opposite d + 1) u b
  entering q ew eh e o = record {
    direction = opposite d;
    small = (opposes d ld).small;
    named = refl;
    stays_in = rw (ew, eh) (stays_back wide ld m);
    from = rw ew (sym (back_again wide ld m));
    costs = rw (opposes d ld).back e;
    a_cost = o;
  }

  -- an open move by this byte is that one
  the_one : {q : Plan} {s k w b : ℕ} → q.width ≡ p.width → q.height ≡ p.height → (o : Open q s k w b) → w ≡ u → opposite o.direction ≡ d
      → (s ≡ entered p.width u d) × (k ≡ opposite d + 1)
  the_one {q} {s} {k} {w} ew eh o a b = (sym (rw (← from, a, b) at back), o.named ∙ ap (λ x. x + 1) (sym (rw b at (opposes o.direction o.small).back)))
    where
      inside : Stays p.width p.height s o.direction
      inside = rw (← ew, ← eh) o.stays_in

      from : w ≡ entered p.width s o.direction
      from = rw (← ew) o.from

      back : entered p.width (entered p.width s o.direction) (opposite o.direction) ≡ s
      back = back_again wide o.small inside

  -- One move of the graph has changed.
  pub changed_altered : Altered (graph_of p) (graph_of (with_byte p u d c)) (entered p.width u d) (opposite d + 1) u (byte p u d) c
  changed_altered = record {
    cells = refl;
    estimate = λ a b. refl;
    earlier = λ a b. refl;
    after = λ s k w b i. let o = into_is (with_byte p u d c) wide s k w b i in after s k w b o (byte_either w (opposite o.direction) (opposes o.direction o.small).small);
    before = λ s k w b i. let o = into_is p wide s k w b i in before s k w b o (byte_either w (opposite o.direction) (opposes o.direction o.small).small);
    falls = λ l. into_has (with_byte p u d c) wide v (opposite d + 1) u c (entering (with_byte p u d c) refl refl (sym byte_here) (cost_of new (λ e. omega (arith, byte_le (O.bytes u d lu ld)))));
    rises = λ l. into_has p wide v (opposite d + 1) u (byte p u d) (entering p refl refl refl (cost_of (O.bytes u d lu ld) (λ e. omega (arith, byte_le new))));
    level_after = λ e s k w b i. let o = into_is (with_byte p u d c) wide s k w b i in into_has p wide s k w b (carried (with_byte p u d c) p refl refl o (sym (level e o)));
    level_before = λ e s k w b i. let o = into_is p wide s k w b i in into_has (with_byte p u d c) wide s k w b (carried p (with_byte p u d c) refl refl o (level e o));
  }
    where
      v : ℕ
      v = entered p.width u d

      level : {q : Plan} {s k w b : ℕ} → c ≡ byte p u d → (o : Open q s k w b) → byte (with_byte p u d c) w (opposite o.direction) ≡ byte p w (opposite o.direction)
      level {w = w} e o = byte_level e w (opposite o.direction) (opposes o.direction o.small).small

      after : (s k w b : ℕ) (o : Open (with_byte p u d c) s k w b) → (byte (with_byte p u d c) w (opposite o.direction) ≡ byte p w (opposite o.direction)) ⊎ ((w ≡ u) × (opposite o.direction ≡ d))
          → Comes (graph_of p) s k w b ⊎ ((s ≡ entered p.width u d) × (k ≡ opposite d + 1) × (w ≡ u) × (b ≡ c))
      after s k w b o (inl h) = inl (into_has p wide s k w b (carried (with_byte p u d c) p refl refl o (sym h)))
      after s k w b o (inr h) = let t = the_one refl refl o h.0 h.1 in inr (t.0, t.1, h.0, o.costs ∙ rw (h.0, h.1) byte_here)

      before : (s k w b : ℕ) (o : Open p s k w b) → (byte (with_byte p u d c) w (opposite o.direction) ≡ byte p w (opposite o.direction)) ⊎ ((w ≡ u) × (opposite o.direction ≡ d))
          → Comes (graph_of (with_byte p u d c)) s k w b ⊎ ((s ≡ entered p.width u d) × (k ≡ opposite d + 1) × (w ≡ u) × (b ≡ byte p u d))
      before s k w b o (inl h) = inl (into_has (with_byte p u d c) wide s k w b (carried p (with_byte p u d c) refl refl o h))
      before s k w b o (inr h) = let t = the_one refl refl o h.0 h.1 in inr (t.0, t.1, h.0, o.costs ∙ rw (h.0, h.1) refl)
