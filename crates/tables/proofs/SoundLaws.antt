-- Tables are sound exactly if the record's numbers and every cell obey the check's rules.
use mathlib.Core.Path.{◌≡◌, refl, sym, ap, subst, ◌∙◌}
use mathlib.Core.Bool.{true, false}
use mathlib.Core.Logic.{◌⊎◌, inl, inr, ⊎_elim, ◌≢◌, ◌↔◌}
use Prim.Native.Nat.{ℕ, ◌+◌, ◌-◌, ◌≤◌, ◌<◌}
use native.Mathlib.Omega.{arith}
use native.Mathlib.Decide.{ℕ_discrete}
use lib.ListN.{get_or}
use Rattle.method.specs.Numbers.{infinite}
use Rattle.method.specs.Tables.{Via, LeastAt, key_number, NotAbove, stored_key, lesser, first_key, calculated_key}
use Rattle.method.specs.Session.{hunt_of}
use Rattle.method.proofs.Notions.{ReachedAt}
use Rattle.method.proofs.Entries.{first_finite}
use Rattle.method.proofs.Theorems.{key_order}
use Rattle.queue.specs.Queue.{absent, Heap}
use Rattle.queue.proofs.MemberLaws.{length_members, member_at, missing, is_absent, member_place, place_member}
use Rattle.queue.specs.Rules.{AbsentRule, QueuedRule}
use Rattle.queue.proofs.RuleLaws.{heap_of_rules, entry_rule, absent_rule, queued_rule}
use Rattle.plan.specs.Directions.{opposite}
use Rattle.plan.specs.Cells.{Size, Stays, stays, entered, estimate}
use Rattle.plan.specs.Costs.{Plan, byte, shut, IsCost, IsByte, Bytes, Edges}
use Rattle.plan.proofs.DirectionLaws.{opposes}
use Rattle.plan.proofs.CellLaws.{enters, stays_back, back_again}
use Rattle.plan.proofs.GridLaws.{Open, into_is, into_has}
use Rattle.plan.proofs.MoveLaws.{area, cost_of, not_a_cost}
use Rattle.tables.specs.declared.Session.{Session}
use Rattle.tables.specs.Lent.{Tables, Fits, cells, floor, graph, session, core}
use Rattle.tables.specs.Sound.{Sound}
use Rattle.tables.specs.Asked.{Words}
use Rattle.tables.specs.Rules.{most, Numbers, MoveRule, WayRule, OwnRule, WaitingRule, CellRules}

module _ (s : Session) (t : Tables) (z : Size s.width s.height) (fit : Fits (cells s) t) (rhs32 : Words t.rhs) (k32 : Words t.k2) where
  p : Plan
  p = floor s t.plan

  member_false : {u : ℕ} → u < cells s → get_or t.place u 0 ≡ absent → get_or (core t).queued u false ≡ false
  member_false l a = member_at t.place _ (omega (arith, fit.place)) ∙ missing a

  false_member : {u : ℕ} → u < cells s → get_or (core t).queued u false ≡ false → get_or t.place u 0 ≡ absent
  false_member l e = is_absent (sym (member_at t.place _ (omega (arith, fit.place))) ∙ e)

  -- the calculated key of a cell whose g and rhs differ
  key_of : (u : ℕ) → get_or t.g u 0 ≤ infinite → get_or t.g u 0 ≢ get_or t.rhs u 0
      → first_key (hunt_of (graph s t) (session s)) u (lesser (core t) u) ≡ lesser (core t) u + estimate s.width u s.goal + s.km
  key_of u l n = first_finite (hunt_of (graph s t) (session s)) u (lesser (core t) u) (omega (arith, rhs32 u))

  -- the stored key of a cell against a calculated one, as numbers and as pairs
  key_by : (u first : ℕ) → (stored_key (core t) u ≤ key_number first (lesser (core t) u)) ↔ NotAbove (get_or t.k1 u 0) (get_or t.k2 u 0) first (lesser (core t) u)
  key_by u first = key_order (get_or t.k1 u 0) (get_or t.k2 u 0) first (lesser (core t) u) (omega (arith, k32 u)) (omega (arith, rhs32 u))

  module _ (N : Numbers s) (C : (u : ℕ) → u < cells s → CellRules s t u) where
    way : (u d : ℕ) → u < cells s → d < 4 → WayRule (floor s t.plan) t.rhs t.parent s.origin (get_or t.g u 0) u d
    way u d l ld = (C u l).ways d ld

    own : (u : ℕ) → u < cells s → OwnRule (most s) s.origin u (get_or t.g u 0) (get_or t.rhs u 0) (get_or t.parent u 0)
    own u l = (C u l).alone.own

    -- a cell is queued, or absent, as its g and rhs differ
    queued_or_not : (u : ℕ) → u < cells s → AbsentRule t.k1 t.k2 t.place u ⊎ QueuedRule s.count t.place t.list u
    queued_or_not u l = at (ℕ_discrete (get_or t.g u 0) (get_or t.rhs u 0))
      where
        at : Dec (get_or t.g u 0 ≡ get_or t.rhs u 0) → AbsentRule t.k1 t.k2 t.place u ⊎ QueuedRule s.count t.place t.list u
        at (yes e) = inl ((C u l).alone.idle e)
        at (no n) = inr ((C u l).alone.waiting n).queued

    bytes : Bytes (floor s t.plan)
    bytes u d l ld = at (stays s.width s.height u d)
      where
        at : Dec (Stays s.width s.height u d) → IsByte (byte (floor s t.plan) u d)
        at (yes m) = ((way u d l ld).stays_in m).is_byte
        at (no n) = inr ((way u d l ld).leaves n).0

    edges : Edges (floor s t.plan)
    edges u d l ld n = ((way u d l ld).leaves n).0

    g_finite : (u : ℕ) → u < cells s → get_or t.g u 0 ≤ infinite
    g_finite u l = ⊎_elim (λ (e : get_or t.g u 0 ≡ infinite). omega arith) (λ (k : get_or t.g u 0 ≤ most s). omega (arith, k, N.searches)) (own u l).g_le

    module _ (u : ℕ) (l : u < cells s) (n : u ≢ s.origin) where
      -- the moves into u: each is a move out of the neighbour
      sums : (d : ℕ) → d < 4 → (m : Stays s.width s.height u d)
          → MoveRule s.origin (byte (floor s t.plan) (entered s.width u d) (opposite d)) (get_or t.g (entered s.width u d) 0) u (get_or t.rhs u 0) (get_or t.parent u 0) (d + 1)
      sums d ld m =
          let R = (way (entered s.width u d) (opposite d) (enters z.wide m).inside (opposes d ld).small).stays_in (stays_back z.wide ld m) in
          rw (opposes d ld).back at (rw (back_again z.wide ld m) at R)

      parent_gives : (d : ℕ) → d < 4 → get_or t.parent u 0 ≡ d + 1 → get_or t.rhs u 0 ≢ infinite
          → ReachedAt (graph s t) (core t) u
      parent_gives d ld e f = at (stays s.width s.height u d)
        where
          at : Dec (Stays s.width s.height u d) → ReachedAt (graph s t) (core t) u
          at (no off) = absurd (((way u d l ld).leaves off).1 e)
          at (yes m) =
              let R = sums d ld m in
              let v = entered s.width u d in
              let c = byte (floor s t.plan) (entered s.width u d) (opposite d) in
              let unshut : c ≢ shut = λ q. R.closed q e in
              let a_cost = cost_of (bytes v (opposite d) (enters z.wide m).inside (opposes d ld).small) unshut in
              inr (
                omega (arith, rhs32 u),
                record {
                  from = v;
                  cost = c;
                  comes = into_has (floor s t.plan) z.wide u (get_or t.parent u 0) v c (record { direction = d; small = ld; named = e; stays_in = m; from = refl; costs = refl; a_cost = a_cost });
                  sum = (R.opened unshut).gives e;
                },
              )

      least : LeastAt (graph s t) (core t) u
      least = record {
        le_inf = omega (arith, rhs32 u);
        least = λ k w c i.
            let o = into_is (floor s t.plan) z.wide u k w c i in
            let ec : c ≡ byte (floor s t.plan) (entered s.width u o.direction) (opposite o.direction) = o.costs ∙ ap (λ x. byte (floor s t.plan) x (opposite o.direction)) o.from in
            omega (arith, ((sums o.direction o.small o.stays_in).opened (λ q. not_a_cost (ec ∙ q) o.a_cost)).least n, ec, ap (λ x. get_or t.g x 0) o.from);
        reached = at (ℕ_discrete (get_or t.parent u 0) 0);
      }
        where
          at : Dec (get_or t.parent u 0 ≡ 0) → ReachedAt (graph s t) (core t) u
          at (yes q) = inl ((own u l).unreached n q, q)
          at (no q) = let r = (own u l).reached n q in parent_gives (get_or t.parent u 0 - 1) (omega (arith, r.0)) (omega arith) r.1

    pub sound_of_rules : Sound s t
    sound_of_rules = record {
      plan = record { size = z; sized = fit.plan; bytes = bytes; edges = edges };
      numbers = record {
        sized = record { g = fit.g; rhs = fit.rhs; parent = fit.parent; k1 = fit.k1; k2 = fit.k2; queued = length_members t.place ∙ fit.place };
        hunter_in = N.hunter;
        target_in = N.target;
        origin_in = N.origin;
        goal_in = N.goal;
        hunter_finite = omega (arith, hunter.0, N.searches);
        hunter_parent = hunter.1;
        least = least;
        in_queue = λ u l n. place_member t.place u (omega (arith, fit.place)) (λ e. omega (arith, ((C u l).alone.waiting n).queued.used, N.count, area z));
        not_in_queue = λ u l e. member_false l ((C u l).alone.idle e).gone;
        keys = keys;
        absent = λ u l e. heap.blank u l (false_member l e);
        searches_le = N.searches;
        km_le = N.km;
        g_le = λ u l. (own u l).g_le;
        hunter_le = hunter.0;
      };
      heap = heap;
    }
      where
        hunter : (get_or t.rhs s.origin 0 ≤ most s) × (get_or t.parent s.origin 0 ≡ 0)
        hunter = (own s.origin N.origin).hunter_le refl

        heap : Heap s.width (cells s) s.count t.k1 t.k2 t.place t.list
        heap = heap_of_rules z.wide (area z) N.count (record { in1 = fit.k1; in2 = fit.k2; in_place = fit.place; in_list = fit.list }) (λ i l. (C i l).alone.entry) queued_or_not

        keys : (u : ℕ) → u < cells s → get_or (core t).queued u false ≡ true → stored_key (core t) u ≤ calculated_key (hunt_of (graph s t) (session s)) (core t) u
        keys u l q =
            let there = (member_place t.place u q).1 in
            let n : get_or t.g u 0 ≢ get_or t.rhs u 0 = λ e. there ((C u l).alone.idle e).gone in
            rw (key_of u (g_finite u l) n) ((key_by u _).1 ((C u l).alone.waiting n).key)

  module _ (S : Sound s t) where
    pub numbers_rule : Numbers s
    numbers_rule = record {
      hunter = S.numbers.hunter_in;
      target = S.numbers.target_in;
      origin = S.numbers.origin_in;
      goal = S.numbers.goal_in;
      count = S.heap.tables.agree.fits;
      searches = S.numbers.searches_le;
      km = S.numbers.km_le;
    }

    g_small : (u : ℕ) → u < cells s → get_or t.g u 0 ≤ infinite
    g_small u l = ⊎_elim (λ (e : get_or t.g u 0 ≡ infinite). omega arith) (λ (k : get_or t.g u 0 ≤ most s). omega (arith, k, S.numbers.searches_le)) (S.numbers.g_le u l)

    -- the parent's move
    parent_move : (u : ℕ) → u < cells s → u ≢ s.origin → get_or t.parent u 0 ≢ 0
        → (get_or t.rhs u 0 < infinite) × (v : Via (graph s t) (λ w. get_or t.g w 0) u (get_or t.rhs u 0) (get_or t.parent u 0)) × Open (floor s t.plan) u (get_or t.parent u 0) v.from v.cost
    parent_move u l n q = at (S.numbers.least u l n).reached
      where
        at : ReachedAt (graph s t) (core t) u
            → (get_or t.rhs u 0 < infinite) × (v : Via (graph s t) (λ w. get_or t.g w 0) u (get_or t.rhs u 0) (get_or t.parent u 0)) × Open (floor s t.plan) u (get_or t.parent u 0) v.from v.cost
        at (inl x) = absurd (q x.1)
        at (inr x) = (x.0, x.1, into_is (floor s t.plan) z.wide u (get_or t.parent u 0) x.1.from x.1.cost x.1.comes)

    own_rule : (u : ℕ) → u < cells s → OwnRule (most s) s.origin u (get_or t.g u 0) (get_or t.rhs u 0) (get_or t.parent u 0)
    own_rule u l = record {
      g_le = S.numbers.g_le u l;
      hunter_le = λ e. (rw e S.numbers.hunter_le, rw e S.numbers.hunter_parent);
      unreached = λ n q. at q (S.numbers.least u l n).reached;
      reached = λ n q. let m = parent_move u l n q in (omega (arith, m.2.named, m.2.small), λ e. omega (arith, m.0));
    }
      where
        at : get_or t.parent u 0 ≡ 0 → ReachedAt (graph s t) (core t) u → get_or t.rhs u 0 ≡ infinite
        at q (inl x) = x.0
        at q (inr x) = absurd (omega (arith, (into_is (floor s t.plan) z.wide u (get_or t.parent u 0) x.1.from x.1.cost x.1.comes).named))

    waiting_rule : (u : ℕ) → u < cells s → get_or t.g u 0 ≢ get_or t.rhs u 0 → WaitingRule s t.k1 t.k2 t.place t.list (get_or t.g u 0) (get_or t.rhs u 0) u
    waiting_rule u l n =
        let q = S.numbers.in_queue u l n in
        record {
          queued = queued_rule S.heap u l (member_place t.place u q).1;
          key = (key_by u _).0 (rw (key_of u (g_small u l) n) at (S.numbers.keys u l q));
        }

    -- the move that a parent byte names
    named_move : (u d : ℕ) → u < cells s → d < 4 → u ≢ s.origin → get_or t.parent u 0 ≡ d + 1
        → (m : Stays s.width s.height u d) × IsCost (byte (floor s t.plan) (entered s.width u d) (opposite d))
        × (get_or t.rhs u 0 ≡ get_or t.g (entered s.width u d) 0 + byte (floor s t.plan) (entered s.width u d) (opposite d))
    named_move u d l ld n e =
        let m = parent_move u l n (λ q. omega arith) in
        let o = m.2 in
        let k : o.direction ≡ d = omega (arith, o.named) in
        let f : m.1.from ≡ entered s.width u d = o.from ∙ ap (entered s.width u) k in
        let c : m.1.cost ≡ byte (floor s t.plan) (entered s.width u d) (opposite d) =
        o.costs ∙ ap (λ x. byte (floor s t.plan) x (opposite o.direction)) f ∙ ap (λ x. byte (floor s t.plan) (entered s.width u d) (opposite x)) k in
        (subst (λ x. Stays s.width s.height u x) k o.stays_in, subst IsCost c o.a_cost, omega (arith, m.1.sum, c, ap (λ x. get_or t.g x 0) f))

    -- the hunter has no parent
    not_hunter : (u d : ℕ) → get_or t.parent u 0 ≡ d + 1 → u ≢ s.origin
    not_hunter u d x e = let q : get_or t.parent u 0 ≡ 0 = rw e S.numbers.hunter_parent in omega arith

    -- the move into u from its neighbour in direction d
    move_rule : (u d : ℕ) → u < cells s → d < 4 → Stays s.width s.height u d
        → MoveRule s.origin (byte (floor s t.plan) (entered s.width u d) (opposite d)) (get_or t.g (entered s.width u d) 0) u (get_or t.rhs u 0) (get_or t.parent u 0) (d + 1)
    move_rule u d l ld m =
        let v = entered s.width u d in
        let c = byte (floor s t.plan) (entered s.width u d) (opposite d) in
        let is_byte = S.plan.bytes v (opposite d) (enters z.wide m).inside (opposes d ld).small in
        record {
          is_byte = is_byte;
          closed = λ q x. not_a_cost q (named_move u d l ld (not_hunter u d x) x).1;
          opened = λ q. record {
            gives = λ x. (named_move u d l ld (not_hunter u d x) x).2;
            least = λ n.
                (S.numbers.least u l n).least (d + 1) v c
                (into_has (floor s t.plan) z.wide u (d + 1) v c (record { direction = d; small = ld; named = refl; stays_in = m; from = refl; costs = refl; a_cost = cost_of is_byte q }));
          };
        }

    -- the move out of u is the move into the cell entered
    way_rule : (u d : ℕ) → u < cells s → d < 4 → WayRule (floor s t.plan) t.rhs t.parent s.origin (get_or t.g u 0) u d
    way_rule u d l ld = record {
      leaves = λ off. (S.plan.edges u d l ld off, λ x. off (named_move u d l ld (not_hunter u d x) x).0);
      stays_in = λ m. turned m (move_rule (entered s.width u d) (opposite d) (enters z.wide m).inside (opposes d ld).small (stays_back z.wide ld m));
    }
      where
        turned : (m : Stays s.width s.height u d)
            → MoveRule s.origin
            (byte (floor s t.plan) (entered s.width (entered s.width u d) (opposite d)) (opposite (opposite d)))
            (get_or t.g (entered s.width (entered s.width u d) (opposite d)) 0)
            (entered s.width u d) (get_or t.rhs (entered s.width u d) 0) (get_or t.parent (entered s.width u d) 0) (opposite d + 1)
            → MoveRule s.origin (byte (floor s t.plan) u d) (get_or t.g u 0) (entered s.width u d) (get_or t.rhs (entered s.width u d) 0) (get_or t.parent (entered s.width u d) 0) (opposite d + 1)
        turned m R = rw (opposes d ld).back at (rw (back_again z.wide ld m) at R)

    pub cell_rules : (u : ℕ) → u < cells s → CellRules s t u
    cell_rules u l = record {
      alone = record {
        entry = entry_rule S.heap u l;
        own = own_rule u l;
        idle = λ e. absent_rule S.heap u l (false_member l (S.numbers.not_in_queue u l e));
        waiting = waiting_rule u l;
      };
      ways = λ d ld. way_rule u d l ld;
    }

-- Sound tables have their lengths.
pub sound_fits : {s : Session} {t : Tables} → Sound s t → Fits (cells s) t
sound_fits S = record {
  plan = S.plan.sized;
  g = S.numbers.sized.g;
  rhs = S.numbers.sized.rhs;
  parent = S.numbers.sized.parent;
  k1 = S.numbers.sized.k1;
  k2 = S.numbers.sized.k2;
  place = S.heap.tables.agree.length_place;
  list = S.heap.tables.agree.length_list;
}
