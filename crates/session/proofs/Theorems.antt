-- What the calls' statements settle: two results that one allows are equal, the order inside the heap apart; a call that no rule refuses is done; sound tables stay sound.
use mathlib.Core.Path.{◌≡◌, refl, sym, ap, subst, ◌∙◌}
use mathlib.Core.Bool.{Bool, false}
use mathlib.Core.List.{List}
use Prim.Native.Nat.{ℕ, ◌≤◌, ◌<◌}
use native.Mathlib.Omega.{arith}
use native.Mathlib.Decide.{ℕ_discrete, dec_lt}
use lib.ListN.{get_or, get_or-eq_default}
use lib.Seq.{ext_get_or}
use Rattle.std.specs.Prelude.{Result, Ok}
use Rattle.refusal.specs.declared.Refusal.{Refusal}
use Rattle.refusal.specs.Numbers.{number_in}
use Rattle.method.specs.Tables as method
use Rattle.method.specs.Session.{opened}
use Rattle.method.specs.Sound as method_sound
use Rattle.method.proofs.Theorems as method_theorems
use Rattle.queue.specs.Queue.{absent, members, Heap}
use Rattle.queue.proofs.MemberLaws.{missing, is_absent, member_at, tally}
use Rattle.queue.proofs.PlaceLaws.{counted as tallied, not_absent, place_used}
use Rattle.plan.specs.Cells.{Size}
use Rattle.plan.specs.Costs.{Obeys}
use Rattle.tables.specs.declared.Session.{Session}
use Rattle.tables.specs.Lent.{Tables, Frame, tables, frame_of_size, cells, floor_in, graph_in, core}
use Rattle.tables.specs.Sound.{Sound}
use Rattle.tables.specs.Told.{told_number}
use Rattle.tables.proofs.FrameLaws.{graph_in_laws}
use Rattle.entries.specs.Begin.{Openable, begun, Opened}
use Rattle.session.specs.declared.Reply.{Reply}
use Rattle.session.specs.Refusals.{told_by}
use Rattle.session.specs.Promises.{hunter_at, target_at, Places, Opens, Names, Alike}
use Rattle.session.proofs.RefusalLaws.{answered, number_is, answer_is, place_number, open_number_is, place_granted, open_granted, place_passes, open_passes}

-- ---- answers and replies

-- The answer as the code returns it.
pub place_answer : {s placed : Session} {cell : ℕ} {r : Reply} (P : Places s placed cell r) → r.answer ≡ answered P.number
place_answer {r = r} P = answer_is r.answer P.number P.answer

pub open_answer : {width height hunter target : ℕ} {t t' : Tables} {r : Reply} (P : Opens width height hunter target t r t') → r.answer ≡ answered P.number
open_answer {r = r} P = answer_is r.answer P.number P.answer

-- An answer that is done tells 0.
pub done_zero : (n : ℕ) {a : Result Unit Refusal} → told_by a ≡ told_number n → a ≡ Ok tt → n ≡ 0
done_zero n {a} t e = sym (number_is a n t) ∙ ap number_in e

reply : Session → Result Unit Refusal → Reply
reply s a = record { session = s; answer = a }

pub same_reply : {r r' : Reply} → r.session ≡ r'.session → r.answer ≡ r'.answer → r ≡ r'
unfolding reply
same_reply {r} {r'} e f = ap (λ x. reply x r.answer) e ∙ ap (λ x. reply r'.session x) f

-- ---- a call that no rule refuses is done

pub place_done : {s placed : Session} {cell : ℕ} {r : Reply} → Places s placed cell r → Size s.width s.height → cell < cells s → (r.answer ≡ Ok tt) × (r.session ≡ placed)
place_done {s} P z l = let e = place_passes s P.rules z l in (place_answer P ∙ ap answered e, P.done e)

pub open_done : {width height hunter target : ℕ} {t t' : Tables} {r : Reply} → Opens width height hunter target t r t' → Openable (frame_of_size width height) hunter target t → r.answer ≡ Ok tt
open_done P o = open_answer P ∙ ap answered (open_passes P.rules o)

-- ---- two results of one placing

pub one_placing : {s placed : Session} {cell : ℕ} {r r' : Reply} → Places s placed cell r → Places s placed cell r' → r ≡ r'
one_placing {s} {placed} {cell} {r} {r'} P Q = same_reply (at (ℕ_discrete P.number 0)) (place_answer P ∙ ap answered e ∙ sym (place_answer Q))
  where
    e : P.number ≡ Q.number
    e = place_number s P.rules Q.rules

    at : Dec (P.number ≡ 0) → r.session ≡ r'.session
    at (yes z) = P.done z ∙ sym (Q.done (sym e ∙ z))
    at (no n) = P.refused n ∙ sym (Q.refused (λ z. n (e ∙ z)))

-- ---- heaps with the same members

-- They have the same count.
same_count : {width room count count' : ℕ} {k1 k2 place list k1' k2' place' list' : List ℕ} → Heap width room count k1 k2 place list → Heap width room count' k1' k2' place' list'
    → members place ≡ members place' → count ≡ count'
same_count {room = room} {count = count} {count' = count'} {place = place} {list = list} {place' = place'} {list' = list'} h h' e =
    sym (tallied room count place list h.tables.agree) ∙ ap tally e ∙ tallied room count' place' list' h'.tables.agree

-- A cell absent in one is absent in the other.
same_absent : {width room count count' : ℕ} {k1 k2 place list k1' k2' place' list' : List ℕ} → Heap width room count k1 k2 place list → Heap width room count' k1' k2' place' list'
    → members place ≡ members place' → (x : ℕ) → x < room → get_or place x 0 ≡ absent → get_or place' x 0 ≡ absent
same_absent {place = place} {place' = place'} h h' e x l a =
    is_absent (
    sym (member_at place' x (omega (arith, h'.tables.agree.length_place))) ∙ ap (λ (z : List Bool). get_or z x false) (sym e)
    ∙ member_at place x (omega (arith, h.tables.agree.length_place)) ∙ missing a
    )

-- A cell that the list of one names is named by the list of the other.
same_named : (t t' : Tables) {width room count : ℕ} → Heap width room count t.k1 t.k2 t.place t.list → Heap width room count t'.k1 t'.k2 t'.place t'.list
    → members t.place ≡ members t'.place → (x : ℕ) → Names count t x → Names count t' x
same_named t t' {room = room} h h' e x n =
    let l : x < room = subst (λ y. y < room) n.2 (h.tables.agree.named n.0 n.1) in
    let p : get_or t.place x 0 ≡ n.0 = subst (λ y. get_or t.place y 0 ≡ n.0) n.2 (h.tables.agree.placed n.0 n.1) in
    let q = place_used h'.tables.agree l (λ a. not_absent h.tables.agree n.1 (sym p ∙ same_absent h' h (sym e) x l a)) in
    (get_or t'.place x 0, q.0, q.1)

same_unused : {width room count : ℕ} {k1 k2 place list k1' k2' place' list' : List ℕ} → Heap width room count k1 k2 place list → Heap width room count k1' k2' place' list'
    → (i : ℕ) → count ≤ i → get_or list i 0 ≡ get_or list' i 0
same_unused {room = room} {list = list} {list' = list'} h h' i c = at (dec_lt i room)
  where
    at : Dec (i < room) → get_or list i 0 ≡ get_or list' i 0
    at (yes l) = h.tables.agree.unused i c l ∙ sym (h'.tables.agree.unused i c l)
    at (no n) =
        get_or-eq_default list 0 {n = i} (omega (arith, h.tables.agree.length_list)) ∙ sym (get_or-eq_default list' 0 {n = i} (omega (arith, h'.tables.agree.length_list)))

-- A heap of one cell has one order: places and list are the same.
module _ {width room : ℕ} {k1 k2 place list k1' k2' place' list' : List ℕ} (h : Heap width room 1 k1 k2 place list) (h' : Heap width room 1 k1' k2' place' list') (e : members place ≡ members place') where
  one_place : place ≡ place'
  one_place = ext_get_or 0 place place' (h.tables.agree.length_place ∙ sym h'.tables.agree.length_place) (λ x l. at x (omega (arith, l, h.tables.agree.length_place)) (ℕ_discrete (get_or place x 0) absent))
    where
      at : (x : ℕ) → x < room → Dec (get_or place x 0 ≡ absent) → get_or place x 0 ≡ get_or place' x 0
      at x l (yes a) = a ∙ sym (same_absent h h' e x l a)
      at x l (no n) = omega (arith, (place_used h.tables.agree l n).0, (place_used h'.tables.agree l (λ a. n (same_absent h' h (sym e) x l a))).0)

  one_list : list ≡ list'
  one_list = ext_get_or 0 list list' (h.tables.agree.length_list ∙ sym h'.tables.agree.length_list) (λ i l. at i (ℕ_discrete i 0))
    where
      first : get_or list 0 0 ≡ get_or list' 0 0
      first =
          let lc = h.tables.agree.named 0 (omega arith) in
          let z : get_or place' (get_or list 0 0) 0 ≡ 0 = ap (λ (p : List ℕ). get_or p (get_or list 0 0) 0) (sym one_place) ∙ h.tables.agree.placed 0 (omega arith) in
          sym (ap (λ x. get_or list' x 0) (sym z) ∙ h'.tables.agree.listed (get_or list 0 0) lc (omega (arith, z)))

      at : (i : ℕ) → Dec (i ≡ 0) → get_or list i 0 ≡ get_or list' i 0
      at i (yes z) = rw z first
      at i (no n) = same_unused h h' i (omega arith)

-- ---- two results of one opening: nothing is left open

same_tables : {t t' : Tables} → t.plan ≡ t'.plan → core t ≡ core t' → t.place ≡ t'.place → t.list ≡ t'.list → t ≡ t'
same_tables {t} {t'} ep ec el em =
    at ep (ap (λ (T : method.Tables). T.g) ec) (ap (λ (T : method.Tables). T.rhs) ec) (ap (λ (T : method.Tables). T.parent) ec) (ap (λ (T : method.Tables). T.k1) ec) (ap (λ (T : method.Tables). T.k2) ec) el em
  where
    at : {p g r q a b l m p' g' r' q' a' b' l' m' : List ℕ} → p ≡ p' → g ≡ g' → r ≡ r' → q ≡ q' → a ≡ a' → b ≡ b' → l ≡ l' → m ≡ m' → tables p g r q a b l m ≡ tables p' g' r' q' a' b' l' m'
    at e f g h i j k l = rw (e, f, g, h, i, j, k, l) refl

pub one_opening : {width height hunter target : ℕ} {t a a' : Tables} {r r' : Reply} → Opens width height hunter target t r a → Opens width height hunter target t r' a' → (r ≡ r') × (a ≡ a')
one_opening {a = a} {a' = a'} {r = r} {r' = r'} P Q = let x = at (ℕ_discrete P.number 0) in (same_reply x.0 (open_answer P ∙ ap answered e ∙ sym (open_answer Q)), x.1)
  where
    e : P.number ≡ Q.number
    e = open_number_is P.rules Q.rules

    at : Dec (P.number ≡ 0) → (r.session ≡ r'.session) × (a ≡ a')
    at (yes z) =
        let p = P.done z in
        let q = Q.done (sym e ∙ z) in
        let c : core a ≡ core a' = p.1.is ∙ sym q.1.is in
        let m : members a.place ≡ members a'.place = ap (λ (T : method.Tables). T.queued) c in (
          p.0 ∙ sym q.0,
          same_tables (p.1.plan ∙ sym q.1.plan) c (one_place p.1.heap q.1.heap m) (one_list p.1.heap q.1.heap m),
        )
    at (no n) =
        let p = P.refused n in
        let q = Q.refused (λ z. n (e ∙ z)) in
        (p.0 ∙ sym q.0, p.1 ∙ sym q.1)

-- ---- two results that are equal but for the order inside the heap

pub alike_same : {count : ℕ} {t t' : Tables} → t ≡ t' → Alike count t t'
alike_same {count} e = record {
  plan = ap (λ (x : Tables). x.plan) e;
  core = ap core e;
  named = λ x. (subst (λ (y : Tables). Names count y x) e, subst (λ (y : Tables). Names count y x) (sym e));
  unused = λ i _. ap (λ (x : Tables). get_or x.list i 0) e;
}

-- The counts are equal too.
pub alike : {width room count count' : ℕ} (a a' : Tables) → a.plan ≡ a'.plan → core a ≡ core a' → Heap width room count a.k1 a.k2 a.place a.list
    → Heap width room count' a'.k1 a'.k2 a'.place a'.list
    → (count ≡ count') × Alike count a a'
alike {width} {room} a a' p c h h' =
    let m : members a.place ≡ members a'.place = ap (λ (T : method.Tables). T.queued) c in
    let n = same_count h h' m in
    let g = subst (λ k. Heap width room k a'.k1 a'.k2 a'.place a'.list) (sym n) h' in (
      n,
      record { plan = p; core = c; named = λ x. (same_named a a' h g m x, same_named a' a g h (sym m) x); unused = same_unused h g },
    )

-- ---- sound tables

-- A fresh start leaves sound tables ..
pub fresh_sound : {f : Frame} {hunter target : ℕ} {t t' : Tables} → Openable f hunter target t → Opened f hunter target t t' → Sound (begun f hunter target) t'
fresh_sound {f} {hunter} {target} {t} {t'} o p = record {
  plan = subst (λ x. Obeys (floor_in f x)) (sym p.plan) o.obeys;
  numbers =
      subst (λ x. method_sound.Sound (graph_in f x) (opened hunter target) (core t')) (sym p.plan)
      (subst (λ T. method_sound.Sound (graph_in f t.plan) (opened hunter target) T) (sym p.is)
      (method_theorems.open_sound (graph_in_laws f t.plan o.obeys.size) hunter target o.hunter_in o.target_in));
  heap = p.heap;
}

-- .. and so does an open that is done.
pub opened_sound : {width height hunter target : ℕ} {t t' : Tables} {r : Reply} → Opens width height hunter target t r t' → r.answer ≡ Ok tt → Sound r.session t'
opened_sound {t' = t'} P e =
    let z = done_zero P.number P.answer e in
    let p = P.done z in
    subst (λ x. Sound x t') (sym p.0) (fresh_sound (open_granted P.rules z) p.1)

-- Placing the hunter or the target, which writes no table, keeps sound tables sound.
placed_sound : {s placed : Session} {t : Tables} {cell : ℕ} {r : Reply} → Sound s t → (cell < cells s → Sound placed t) → Places s placed cell r → Sound r.session t
placed_sound {s} {placed} {t} {cell} {r} S f P = at (ℕ_discrete P.number 0)
  where
    at : Dec (P.number ≡ 0) → Sound r.session t
    at (yes z) = subst (λ x. Sound x t) (sym (P.done z)) (f (place_granted s P.rules z).1)
    at (no n) = subst (λ x. Sound x t) (sym (P.refused n)) S

pub hunter_placed_sound : {s : Session} {t : Tables} {cell : ℕ} {r : Reply} → Sound s t → Places s (hunter_at s cell) cell r → Sound r.session t
hunter_placed_sound {cell = cell} S = placed_sound S (λ l. record { plan = S.plan; numbers = method_theorems.hunter_placed_sound S.numbers cell l; heap = S.heap })

pub target_placed_sound : {s : Session} {t : Tables} {cell : ℕ} {r : Reply} → Sound s t → Places s (target_at s cell) cell r → Sound r.session t
target_placed_sound {cell = cell} S = placed_sound S (λ l. record { plan = S.plan; numbers = method_theorems.target_placed_sound S.numbers cell l; heap = S.heap })
