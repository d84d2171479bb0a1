-- The tables hold a true heap exactly if every place of the list and every cell obeys its rule.
use mathlib.Core.Path.{◌≡◌}
use mathlib.Core.Logic.{◌⊎◌, inl, inr}
use mathlib.Core.List.{List}
use Prim.Native.Nat.{ℕ, ◌-◌, ◌/◌, ◌≤◌, ◌<◌}
use native.Mathlib.Omega.{arith}
use lib.ListN.{get_or}
use Rattle.queue.specs.Queue.{absent, most, Agree, Heap}
use Rattle.queue.specs.Rules.{EntryRule, AbsentRule, QueuedRule, Lengths}
use Rattle.queue.proofs.HeapLaws.{above, above_inside}
use Rattle.queue.proofs.PlaceLaws.{place_used}

module _ {width room count : ℕ} {k1 k2 place list : List ℕ} where
  pub heap_of_rules : 0 < width → room ≤ most → count ≤ room → Lengths room k1 k2 place list
      → ((i : ℕ) → i < room → EntryRule width room count k1 k2 place list i) → ((c : ℕ) → c < room → AbsentRule k1 k2 place c ⊎ QueuedRule count place list c)
      → Heap width room count k1 k2 place list
  heap_of_rules w s f l es cs = record {
    tables = record {
      wide = w;
      length1 = l.in1;
      length2 = l.in2;
      agree = record {
        small = s;
        fits = f;
        length_place = l.in_place;
        length_list = l.in_list;
        named = λ i d. ((es i (omega arith)).used d).0;
        placed = λ i d. ((es i (omega arith)).used d).1;
        listed = λ c d g. listed g (cs c d);
        gone = λ c d g. gone g (cs c d);
        unused = λ i g d. (es i d).unused g;
      };
    };
    blank = λ c d o. blank o (cs c d);
    ordered = record {
      holds = λ x y u d.
          let e : (y - 1) / 2 ≡ x = omega (arith, u.low, u.high) in
          rw (← e) ((es y (omega arith)).above d (omega (arith, u.low))).ordered;
    };
  }
    where
      listed : {c : ℕ} → get_or place c 0 < count → AbsentRule k1 k2 place c ⊎ QueuedRule count place list c → get_or list (get_or place c 0) 0 ≡ c
      listed l (inl a) = absurd (omega (arith, a.gone))
      listed l (inr q) = q.named

      gone : {c : ℕ} → count ≤ get_or place c 0 → AbsentRule k1 k2 place c ⊎ QueuedRule count place list c → get_or place c 0 ≡ absent
      gone g (inl a) = a.gone
      gone g (inr q) = absurd (omega (arith, q.used))

      blank : {c : ℕ} → get_or place c 0 ≡ absent → AbsentRule k1 k2 place c ⊎ QueuedRule count place list c → (get_or k1 c 0 ≡ 0) × (get_or k2 c 0 ≡ 0)
      blank o (inl a) = (a.first, a.second)
      blank o (inr q) = absurd (omega (arith, q.used))

  module _ (h : Heap width room count k1 k2 place list) where
    pub entry_rule : (i : ℕ) → i < room → EntryRule width room count k1 k2 place list i
    entry_rule i d = record {
      used = λ l. (a.named i l, a.placed i l);
      above = λ l p. record { named = a.named ((i - 1) / 2) (above_inside (above p) l); ordered = h.ordered.holds ((i - 1) / 2) i (above p) l };
      unused = λ g. a.unused i g d;
    }
      where
        a : Agree room count place list
        a = h.tables.agree

    pub absent_rule : (c : ℕ) → c < room → get_or place c 0 ≡ absent → AbsentRule k1 k2 place c
    absent_rule c d o = let b = h.blank c d o in record { gone = o; first = b.0; second = b.1 }

    pub queued_rule : (c : ℕ) → c < room → (get_or place c 0 ≡ absent → ⊥) → QueuedRule count place list c
    queued_rule c d n = let q = place_used h.tables.agree d n in record { used = q.0; named = q.1 }
