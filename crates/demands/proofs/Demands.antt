-- The letter's three demands, proved of the calls; specs/Demands.antt says what each means.
use mathlib.Core.Path.{◌≡◌, refl, sym, ap, subst, ◌∙◌}
use mathlib.Core.Logic.{◌≢◌, ◌↔◌}
use mathlib.Core.List.{List, []}
use Prim.Native.Nat.{ℕ, zero, suc, ◌*◌, ◌≤◌, ◌<◌}
use native.Mathlib.Omega.{arith}
use native.Mathlib.Decide.{ℕ_discrete}
use lib.ListN.{length}
use Rattle.std.specs.Prelude.{Result}
use Rattle.refusal.specs.declared.Refusal.{Refusal}
use Rattle.decide.proofs.ChooseLaws.{differ}
use Rattle.method.specs.Numbers.{renewal}
use Rattle.method.specs.Graph.{GraphLaws}
use Rattle.method.specs.Session as calls
use Rattle.method.specs.Sound as method_sound
use Rattle.method.specs.Course.{Runs}
use Rattle.method.specs.Walk.{NoChain, RightAnswer, none_there, way_there}
use Rattle.method.proofs.Theorems as method
use Rattle.queue.specs.Queue.{Heap}
use Rattle.plan.specs.Costs.{Obeys}
use Rattle.tables.specs.declared.Session.{Session}
use Rattle.tables.specs.Lent.{Tables, Frame, frame, framed, cells, floor_in, graph_in, graph, session, core}
use Rattle.tables.specs.Sound.{Sound}
use Rattle.tables.specs.Told.{none_leads as none, refusal, Told, told_refusal, told_none, told_way, told_number}
use Rattle.tables.proofs.FrameLaws.{graph_in_laws}
use Rattle.tables.proofs.SoundLaws.{sound_fits}
use Rattle.session.specs.Promises.{Alike}
use Rattle.session.proofs.RefusalLaws.{refusal_told, place_number, open_number_is}
use Rattle.session.proofs.Theorems.{alike, alike_same}
use Rattle.change.proofs.RefusalLaws.{change_number}
use Rattle.answer.specs.declared.Answer.{Answer}
use Rattle.answer.specs.Answer.{told_by, tells, answer_of, cells_of}
use Rattle.answer.proofs.AnswerLaws.{told_alike}
use Rattle.search.specs.declared.Outcome.{Outcome}
use Rattle.search.specs.Promise.{SearchRules, outcome, written, Searched, Searches}
use Rattle.demands.specs.Demands.{RefusesByNumber, Exactly, RefusesExactly, steps_of, RightlyAnswered, caught, none_leads, way_shown, TakesTheSteps, FewSteps}
use Rattle.search.proofs.RefusalLaws.{search_number, search_granted, search_passes}
use Rattle.search.proofs.SearchLaws.{searched_answer}

-- ---- 1

-- Faulty input is refused by number and changes nothing.
pub demand_1 : RefusesByNumber
demand_1 = record {
  place = λ {s} P R n. let e = place_number s P.rules R in (P.answer ∙ ap told_number e ∙ sym (refusal_told _ n), P.refused (λ z. n (sym e ∙ z)));
  opening = λ P R n. let e = open_number_is P.rules R in let q = P.refused (λ z. n (sym e ∙ z)) in (P.answer ∙ ap told_number e ∙ sym (refusal_told _ n), q.0, q.1);
  change = λ P R n. let e = change_number P.rules R in let q = P.refused (λ z. n (sym e ∙ z)) in (P.answer ∙ ap told_number e ∙ sym (refusal_told _ n), q.0, q.1);
  search = λ way P R n. let e = search_number way P.rules R in let q = P.refused (λ z. n (sym e ∙ z)) in (q.0 ∙ ap told_refusal e, q.1, q.2, q.3);
}

-- ---- 2 and 3: a search of sound tables, with room for the way, is not refused

pub not_refused : {s : Session} {t t' : Tables} (way : List ℕ) {way' : List ℕ} {r : Outcome} → Sound s t → cells s ≤ length way → Searches s t way r t' way' → Searched s t way r t' way'
not_refused way S room P = P.done (search_passes way P.rules (sound_fits S) S room)

module _ {s : Session} {t : Tables} (S : Sound s t) where
  laws : GraphLaws (graph s t)
  laws = graph_in_laws (frame s) t.plan S.plan.size

  -- the answer that the method gives is right
  right : (way : List ℕ) → RightlyAnswered s t way (tells (outcome s t).answer) (written (cells_of (outcome s t).answer) way)
  right way = at (ℕ_discrete s.hunter s.target)
    where
      from : {steps : ℕ} {a : calls.Answer} → s.hunter ≢ s.target → steps ≡ length (steps_of s t) → RightAnswer (graph s t) s.hunter s.target steps a
          → RightlyAnswered s t way (tells a) (written (cells_of a) way)
      from n e (none_there f) = subst (λ k. RightlyAnswered s t way (told_none k) way) (sym e) (none_leads n f)
      from n e (way_there {cost} {cells = shown} c l) = subst (λ k. RightlyAnswered s t way (told_way cost k (length shown) shown) (written shown way)) (sym e) (way_shown n c l)

      at : Dec (s.hunter ≡ s.target) → RightlyAnswered s t way (tells (outcome s t).answer) (written (cells_of (outcome s t).answer) way)
      at (yes e) =
          subst (λ o. RightlyAnswered s t way (tells o.answer) (written (cells_of o.answer) way)) (sym (method.caught_unchanged laws S.numbers e)) (caught e)
      at (no n) = from n refl (method.right_answer laws S.numbers n)

  -- the steps that the answer tells
  told : (a : calls.Answer) (list : List ℕ) → (told_by (answer_of a) list).steps ≡ calls.steps_shown a
  told (calls.caught x) list = refl
  told (calls.none_leads n) list = refl
  told (calls.way c n l) list = refl
  told calls.cut_off list = refl

  module _ (way : List ℕ) {way' : List ℕ} {t' : Tables} {r : Outcome} (room : cells s ≤ length way) (P : Searches s t way r t' way') where
    done : Searched s t way r t' way'
    done = not_refused way S room P

    answered_right : RightlyAnswered s t way (told_by r.answer way') way'
    answered_right =
        subst (λ w. RightlyAnswered s t way (told_by r.answer way') w) (sym done.shown)
        (subst (λ x. RightlyAnswered s t way x (written (cells_of (outcome s t).answer) way)) (sym done.answer) (right way))

    pub demand_2 : TakesTheSteps s t way r t' way'
    demand_2 = record {
      steps = λ n.
          let σ = calls.taken_over (graph s t) (session s) (core t) in
          subst (λ T. Runs (calls.hunt_of (graph s t) σ.session) σ.tables (steps_of s t) T) (sym done.tables_are) (method.search_is_course laws S.numbers n);
      answer = answered_right;
      none_exactly = λ n. at n answered_right;
    }
      where
        at : {x : Told} {w : List ℕ} → s.hunter ≢ s.target → RightlyAnswered s t way x w → (x.name ≡ none) ↔ NoChain (graph s t) s.hunter s.target
        at n (caught e) = absurd (n e)
        at n (none_leads _ f) = (λ _. f, λ _. refl)
        at n (way_shown _ c l) = (λ e. differ cc, λ f. absurd (f _ _ c.leads))

    pub demand_3 : FewSteps s t r t'
    demand_3 = record {
      at_most_3_n = method.at_most_3_n laws S.numbers;
      no_step_twice = method.no_step_twice laws S.numbers;
      reported = λ list. ap (λ a. (told_by a list).steps) (searched_answer done) ∙ told (outcome s t).answer list ∙ method.shown_steps laws S.numbers;
      sound_again = sound;
    }
      where
        numbers : method_sound.Sound (graph s t) (session r.session) (core t')
        numbers =
            subst (λ σ. method_sound.Sound (graph s t) σ (core t')) (sym done.record_is)
            (subst (λ T. method_sound.Sound (graph s t) (outcome s t).session T) (sym done.tables_are) (method.search_sound laws S.numbers))

        -- what holds of the frame and the plan as they came holds of them now
        still : (P : Frame → List ℕ → Type 0) → P (frame s) t.plan → P (frame r.session) t'.plan
        still P h = subst (λ f. P f t'.plan) (sym done.frame_is) (subst (P (frame s)) (sym done.plan) h)

        sound : Sound r.session t'
        sound = record {
          plan = still (λ f plan. Obeys (floor_in f plan)) S.plan;
          numbers = still (λ f plan. method_sound.Sound (graph_in f plan) (session r.session) (core t')) numbers;
          heap = still (λ f _. Heap f.width (f.height * f.width) r.session.count t'.k1 t'.k2 t'.place t'.list) done.heap;
        }

-- ---- 1, both ways

-- A refusal told is that of a number which is not 0; where none is told, the number is 0.
refused_number : (n k : ℕ) → told_number n ≡ told_refusal k → (n ≢ 0) × (n ≡ k)
refused_number zero k e = let q = ap (λ (x : Told). x.name) e in differ cc
refused_number (suc n) k e = (λ z. omega arith, ap (λ (x : Told). x.number) e)

no_refusal : (n : ℕ) → (told_number n).name ≢ refusal → n ≡ 0
no_refusal zero f = refl
no_refusal (suc n) f = absurd (f refl)

-- Where a call tells the number, it is refused exactly by the first rule broken.
exactly : {x : Told} {Rules : ℕ → Type 0} {n : ℕ} → ((k : ℕ) → Rules k → n ≡ k) → Rules n → x ≡ told_number n → Exactly Rules x
exactly {x} {Rules} {n} one R e = record {
  refused = λ k. (
    λ q. let z = refused_number n k (sym e ∙ q) in (λ zero_k. z.0 (z.1 ∙ zero_k), subst Rules z.1 R),
    λ q. e ∙ ap told_number (one k q.1) ∙ sym (refusal_told k q.0),
  );
  done = (
    λ f. subst Rules (no_refusal n (subst (λ (y : Told). y.name ≢ refusal) e f)) R,
    λ q f. let g = sym (ap (λ (y : Told). y.name) (e ∙ ap told_number (one 0 q))) ∙ f in differ cc,
  );
}

-- A search that is not refused tells no refusal; one that is, tells the number.
module _ {s : Session} {t t' : Tables} (way : List ℕ) {way' : List ℕ} {r : Outcome} (P : Searches s t way r t' way') where
  answers : P.number ≡ 0 → (told_by r.answer way').name ≢ refusal
  answers z e = at (let g = search_granted way P.rules z in answered_right g.0 way g.1 P) e
    where
      at : {x : Told} {w : List ℕ} → RightlyAnswered s t way x w → x.name ≡ refusal → ⊥
      at (caught _) q = differ cc
      at (none_leads _ _) q = differ cc
      at (way_shown _ _ _) q = differ cc

  search_exactly : Exactly (SearchRules s t way) (told_by r.answer way')
  search_exactly = record {
    refused = λ k. (λ q. from k q (ℕ_discrete P.number 0), λ x. (P.refused (λ z. x.0 (sym (one k x.1) ∙ z))).0 ∙ ap told_refusal (one k x.1));
    done = (λ f. to f (ℕ_discrete P.number 0), λ x. answers (one 0 x));
  }
    where
      one : (k : ℕ) → SearchRules s t way k → P.number ≡ k
      one k = search_number way P.rules

      from : (k : ℕ) → told_by r.answer way' ≡ told_refusal k → Dec (P.number ≡ 0) → (k ≢ 0) × SearchRules s t way k
      from k q (yes z) = absurd (answers z (ap (λ (x : Told). x.name) q))
      from k q (no n) = let e = ap (λ (x : Told). x.number) (sym (P.refused n).0 ∙ q) in (λ z. n (e ∙ z), subst (SearchRules s t way) e P.rules)

      to : (told_by r.answer way').name ≢ refusal → Dec (P.number ≡ 0) → SearchRules s t way 0
      to f (yes z) = subst (SearchRules s t way) z P.rules
      to f (no n) = absurd (f (ap (λ (x : Told). x.name) (P.refused n).0))

-- "Given exactly when": both ways.
pub demand_1_exactly : RefusesExactly
demand_1_exactly = record {
  place = λ {s} P. exactly (λ k. place_number s P.rules) P.rules P.answer;
  opening = λ P. exactly (λ k. open_number_is P.rules) P.rules P.answer;
  change = λ P. exactly (λ k. change_number P.rules) P.rules P.answer;
  search = λ way P. search_exactly way P;
}

-- ---- a search with nothing to write

-- The hunter stays, nothing starts fresh, and no step is taken: no table is written, list and places neither, whether the search answers or is refused.
pub search_untouched : {s : Session} {t t' : Tables} (way : List ℕ) {way' : List ℕ} {r : Outcome} → Searches s t way r t' way' → s.hunter ≡ s.origin → s.searches < renewal
    → steps_of s t ≡ [] → (r.session.count ≡ s.count) × (t' ≡ t)
search_untouched {s} {t} {t'} way {r = r} P h m e = at (ℕ_discrete P.number 0)
  where
    at : Dec (P.number ≡ 0) → (r.session.count ≡ s.count) × (t' ≡ t)
    at (yes z) = (P.done z).untouched h m e
    at (no n) = let q = P.refused n in (ap (λ (x : Session). x.count) q.1, q.2)

-- ---- two results of one search: equal but for the order inside the heap

same_record : {r r' : Session} → frame r ≡ frame r' → session r ≡ session r' → r.count ≡ r'.count → r ≡ r'
same_record {r} {r'} ef es ec = ap (λ f. built f (session r) r.count) ef ∙ ap (λ σ. built (frame r') σ r.count) es ∙ ap (built (frame r') (session r')) ec
  where
    built : Frame → calls.Session → ℕ → Session
    built f σ n = framed f σ.hunter σ.target σ.origin σ.goal σ.km n σ.searches

same_outcome : {r r' : Outcome} → r.session ≡ r'.session → r.answer ≡ r'.answer → r ≡ r'
same_outcome {r} {r'} e f = ap (λ x. made x r.answer) e ∙ ap (λ x. made r'.session x) f
  where
    made : Session → Result Answer Refusal → Outcome
    made s a = record { session = s; answer = a }

pub one_search : {s : Session} {t a a' : Tables} (way : List ℕ) {w w' : List ℕ} {r r' : Outcome} → Searches s t way r a w → Searches s t way r' a' w'
    → (r ≡ r') × Alike r.session.count a a' × (w ≡ w')
one_search {s} {t} {a} {a'} way {w} {w'} {r} {r'} P Q = at (ℕ_discrete P.number 0)
  where
    e : P.number ≡ Q.number
    e = search_number way P.rules Q.rules

    at : Dec (P.number ≡ 0) → (r ≡ r') × Alike r.session.count a a' × (w ≡ w')
    at (yes z) =
        let p = P.done z in
        let q = Q.done (sym e ∙ z) in
        let c : core a ≡ core a' = p.tables_are ∙ sym q.tables_are in
        let x = alike a a' (p.plan ∙ sym q.plan) c p.heap q.heap in
        let left = same_record (p.frame_is ∙ sym q.frame_is) (p.record_is ∙ sym q.record_is) x.0 in
        (same_outcome left (told_alike r.answer r'.answer w w' (p.answer ∙ sym q.answer)), x.1, p.shown ∙ sym q.shown)
    at (no n) =
        let p = P.refused n in
        let q = Q.refused (λ z. n (e ∙ z)) in
        (same_outcome (p.1 ∙ sym q.1) (told_alike r.answer r'.answer w w' (p.0 ∙ ap told_refusal e ∙ sym q.0)), alike_same (p.2 ∙ sym q.2), p.3 ∙ sym q.3)
