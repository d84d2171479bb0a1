-- The search over the tables is the method's search.
use mathlib.Core.Path.{◌≡◌, refl, sym, ap, subst, ◌∙◌}
use mathlib.Core.Bool.{Bool, true, false, true≢false, Bool-discrete}
use mathlib.Core.Logic.{◌≢◌}
use mathlib.Core.List.{List, [], ◌∷◌, append-nil}
use Prim.Native.Nat.{ℕ, suc, ◌+◌, ◌-◌, ◌*◌, ◌≤◌, ◌<◌}
use native.Mathlib.Omega.{arith}
use native.Mathlib.Decide.{ℕ_discrete}
use lib.ListN.{get_or, length, set}
use Rattle.std.specs.Prelude.{Result, Ok}
use Rattle.refusal.specs.declared.Refusal.{Refusal}
use Rattle.decide.proofs.ChooseLaws.{choose_yes, choose_no}
use Rattle.method.specs.Numbers.{infinite}
use Rattle.method.specs.Graph.{GraphLaws}
use Rattle.method.specs.Tables as method
use Rattle.method.specs.Loop.{Ran, run}
use Rattle.method.specs.Session as calls
use Rattle.method.specs.During.{During}
use Rattle.method.proofs.Facts.{rhs_le}
use Rattle.method.proofs.Readying.{taken_over_sized, ready}
use Rattle.method.proofs.Answers.{Stopped, Trail, trail, trail_way}
use Rattle.method.proofs.Searching.{hunt_taken, bound_taken, run_taken, during_start, went_to, ended}
use Rattle.queue.specs.Queue.{members}
use Rattle.plan.proofs.MoveLaws.{area}
use Rattle.plan.specs.Reached.{At}
use Rattle.tables.specs.declared.Session.{Session}
use Rattle.tables.specs.Lent.{Tables, tables, frame, framed, cells, graph, session, core}
use Rattle.tables.specs.Sound.{Sound}
use Rattle.tables.specs.Told.{Told, told_way}
use Rattle.tables.proofs.FrameLaws.{graph_in_laws}
use Rattle.entries.specs.declared.Aim.{Aim}
use Rattle.entries.specs.Aims.{aim_by, AimOf, Aimed}
use Rattle.steps.specs.Loop.{Started, Finished}
use Rattle.take_over.specs.TakeOver.{Holds, Takes}
use Rattle.answer.specs.Way.{Leads}
use Rattle.answer.proofs.WayLaws.{trail_leads, leads_unique}
use Rattle.answer.proofs.AnswerLaws.{answer_is}
use Rattle.answer.specs.declared.Answer.{Answer}
use Rattle.answer.specs.declared.Answer.TheVariants.{Caught}
use Rattle.answer.specs.Answer.{told_by, tells, answer_of, cells_of, Answering, Answers, cut_off, none_there, way_shown}
use Rattle.search.specs.declared.Outcome.{Outcome}
use Rattle.search.specs.Promise.{outcome, written, Searched}

-- The answer as the code returns it.
pub searched_answer : {s : Session} {t t' : Tables} {way way' : List ℕ} {r : Outcome} → Searched s t way r t' way' → r.answer ≡ answer_of (outcome s t).answer
searched_answer {s} {t} {way' = way'} {r = r} D = answer_is r.answer way' (outcome s t).answer D.answer

-- ---- a catch

-- the first place of the list holds the cell
pub first_set : (way : List ℕ) (x : ℕ) → 1 ≤ length way → set way 0 x ≡ written (x ∷ []) way
first_set [] x l = absurd (omega arith)
first_set (y ∷ way) x l = refl

module _ {s : Session} {t : Tables} (S : Sound s t) (e : s.hunter ≡ s.target) where
  caught_is : outcome s t ≡ record { answer = calls.caught s.hunter; session = session s; tables = core t; steps = [] }
  unfolding calls.search
  caught_is = choose_yes (ℕ_discrete s.hunter s.target) _ _ e

  pub searched_caught : {way way' : List ℕ} → cells s ≤ length way → way' ≡ set way 0 s.hunter → Searched s t way (record { session = s; answer = Ok (Caught s.hunter) }) t way'
  searched_caught {way} long ew = record {
    answer = sym (ap (λ o. tells o.answer) caught_is);
    frame_is = refl;
    record_is = sym (ap (λ o. o.session) caught_is);
    plan = refl;
    tables_are = sym (ap (λ o. o.tables) caught_is);
    heap = S.heap;
    shown = ew ∙ first_set way s.hunter (omega (arith, S.numbers.hunter_in)) ∙ sym (ap (λ o. written (cells_of o.answer) way) caught_is);
    caught = λ _. (refl, refl);
    untouched = λ _ _ _. (refl, refl);
    kept = λ _ _ _ _ _ _. (refl, refl, refl);
  }

-- ---- the search proper

-- The record that a search leaves: so many cells queued, so many searches.
abbrev pub left_by : Session → ℕ → ℕ → Session
left_by r count searches = framed (frame r) r.hunter r.target r.origin r.goal r.km count searches

module _ {s : Session} {t : Tables} (S : Sound s t) where
  laws : GraphLaws (graph s t)
  laws = graph_in_laws (frame s) t.plan S.plan.size

  abbrev taken : calls.State
  taken = calls.taken_over (graph s t) (session s) (core t)

  abbrev ran : Ran
  ran = run_taken (graph s t) (session s) (core t) (3 * cells s)

  module _ {r : Session} {a : Aim} {g₁ rhs₁ parent₁ k1₁ k2₁ place₁ list₁ : List ℕ}
      (K : Takes s t r (tables t.plan g₁ rhs₁ parent₁ k1₁ k2₁ place₁ list₁)) (O : AimOf r a) where
    abbrev t₁ : Tables
    t₁ = tables t.plan g₁ rhs₁ parent₁ k1₁ k2₁ place₁ list₁

    H : Holds s (calls.taken_over (graph s t) (session s) (core t)) r t₁
    H = K.holds

    abbrev b : Aim
    b = aim_by (frame s) (calls.taken_over (graph s t) (session s) (core t)).session a.target_at

    pub aim_is : a ≡ aim_by (frame s) (calls.taken_over (graph s t) (session s) (core t)).session a.target_at
    aim_is =
        O.is ∙ ap (λ f. aim_by f (session r) a.target_at) H.frame_is ∙ ap (λ σ. aim_by (frame s) σ a.target_at) H.record_is

    pub run_aimed : Aimed a t.plan
    run_aimed =
        let R = ready laws S.numbers in
        subst (λ x. Aimed x t.plan) (sym aim_is)
        (record {
          obeys = S.plan;
          hunter_in = omega (arith, R.hunter, S.numbers.hunter_in);
          target_in = omega (arith, R.target, S.numbers.target_in);
          target_at = stands;
          km_le = omega (arith, R.km_le, R.searches_lt);
        })
      where
        stands : At s.width taken.session.goal a.target_at
        stands = subst (λ w. At w taken.session.goal a.target_at) (ap (λ f. f.width) H.frame_is)
            (subst (λ x. At r.width x a.target_at) (ap (λ σ. σ.goal) H.record_is) O.target_at)

    pub run_started : Started a (3 * cells s) r.count (tables t.plan g₁ rhs₁ parent₁ k1₁ k2₁ place₁ list₁)
    run_started =
        let R = ready laws S.numbers in
        subst (λ x. Started x (3 * cells s) r.count t₁) (sym aim_is)
        (record {
          held = record { sized = subst (λ T. method.Sized (cells s) T) (sym H.tables_are) (taken_over_sized (graph s t) (session s) S.numbers.sized); heap = H.heap };
          bound = bound_taken (graph s t) (session s) (core t);
          during = subst (λ T. During (hunt_taken (graph s t) (session s) (core t)) (bound_taken (graph s t) (session s) (core t)) T) (sym H.tables_are) (during_start laws S.numbers);
          small = omega (arith, R.searches_lt, area S.plan.size);
          limited = omega (arith, area S.plan.size);
        })

    pub few_searches : r.searches < 1000
    few_searches = omega (arith, ap (λ σ. σ.searches) H.record_is, (ready laws S.numbers).searches_lt)

    -- ---- after the last step

    module _ {n steps : ℕ} {over : Bool} {g₂ rhs₂ parent₂ k1₂ k2₂ place₂ list₂ : List ℕ}
        (F : Finished a (3 * cells s) r.count (tables t.plan g₁ rhs₁ parent₁ k1₁ k2₁ place₁ list₁) (tables t.plan g₂ rhs₂ parent₂ k1₂ k2₂ place₂ list₂) n steps over) where
      abbrev t₂ : Tables
      t₂ = tables t.plan g₂ rhs₂ parent₂ k1₂ k2₂ place₂ list₂

      finished : Finished b (3 * cells s) r.count t₁ t₂ n steps over
      finished = subst (λ x. Finished x (3 * cells s) r.count t₁ t₂ n steps over) aim_is F

      ran_is : core t₂ ≡ ran.tables
      ran_is = finished.tables.is ∙ ap (λ T. (run (hunt_taken (graph s t) (session s) (core t)) (3 * cells s) T).tables) H.tables_are

      steps_are : steps ≡ length ran.steps
      steps_are = finished.steps_are ∙ ap (λ T. length (run (hunt_taken (graph s t) (session s) (core t)) (3 * cells s) T).steps) H.tables_are

      over_is : over ≡ true
      over_is = finished.ended_is ∙ ap (λ T. (run (hunt_taken (graph s t) (session s) (core t)) (3 * cells s) T).ended) H.tables_are ∙ ended laws S.numbers

      during : During (hunt_taken (graph s t) (session s) (core t)) (bound_taken (graph s t) (session s) (core t)) (core t₂)
      during = subst (λ T. During (hunt_taken (graph s t) (session s) (core t)) (bound_taken (graph s t) (session s) (core t)) T) (sym ran_is) (went_to laws S.numbers (3 * cells s)).during

      stopped : Stopped (hunt_taken (graph s t) (session s) (core t)) (core t₂)
      stopped = subst (λ T. Stopped (hunt_taken (graph s t) (session s) (core t)) T) (sym ran_is) ((went_to laws S.numbers (3 * cells s)).stopped (ended laws S.numbers))

      -- the trail of parents, where rhs of the target is finite
      led : get_or rhs₂ b.target 0 ≢ infinite
          → (l : List ℕ) × Trail (hunt_taken (graph s t) (session s) (core t)) parent₂ b.target l × (length l ≤ cells s) × (get_or rhs₂ b.hunter 0 ≤ get_or rhs₂ b.target 0)
      led f =
          trail during.stands during.right stopped
          (omega (arith, f, rhs_le (hunt_taken (graph s t) (session s) (core t)) (core t₂) during.right b.target during.stands.target_in))

      leads : {l : List ℕ} → Trail (hunt_taken (graph s t) (session s) (core t)) parent₂ b.target l → Leads b parent₂ b.target l
      leads = trail_leads t.plan S.plan.size

      pub answering : {way : List ℕ} → cells s ≤ length way → Answering a rhs₂ parent₂ way
      answering {way} long =
          subst (λ x. Answering x rhs₂ parent₂ way) (sym aim_is)
          (record {
            size = S.plan.size;
            hunter_in = during.stands.hunter_in;
            target_in = during.stands.target_in;
            long = during.sized.rhs;
            led = λ f. let q = led f in record {
              followed = record {
                size = S.plan.size;
                target_in = during.stands.target_in;
                long_parent = during.sized.parent;
                cells = q.0;
                leads = leads q.1;
                few = q.2;
              };
              room = long;
            };
            not_above = λ f. (led f).3;
          })

      -- what the method answers
      module _ (apart : s.hunter ≢ s.target) where
        search_is : outcome s t ≡ calls.searched_from (graph s t) taken
        unfolding calls.search
        search_is = choose_no (ℕ_discrete s.hunter s.target) _ _ apart

        answer_none : get_or rhs₂ b.target 0 ≡ infinite → (outcome s t).answer ≡ calls.none_leads steps
        unfolding calls.answer_of
        answer_none i =
            ap (λ o. o.answer) search_is ∙ choose_yes (Bool-discrete ran.ended true) _ _ (ended laws S.numbers)
            ∙ choose_yes (ℕ_discrete (method.rhs_at ran.tables b.target) infinite) _ _ (ap (λ T. method.rhs_at T b.target) (sym ran_is) ∙ i) ∙ ap calls.none_leads (sym steps_are)

        answer_way : (f : get_or rhs₂ b.target 0 ≢ infinite) → (outcome s t).answer ≡ calls.way (get_or rhs₂ b.target 0 - get_or rhs₂ b.hunter 0) steps (led f).0
        unfolding calls.answer_of
        answer_way f =
            ap (λ o. o.answer) search_is ∙ choose_yes (Bool-discrete ran.ended true) _ _ (ended laws S.numbers)
            ∙ choose_no (ℕ_discrete (method.rhs_at ran.tables b.target) infinite) _ _ (λ e. f (ap (λ T. method.rhs_at T b.target) ran_is ∙ e))
            ∙ ap (λ T. calls.way (method.rhs_at T b.target - method.rhs_at T b.hunter) (length ran.steps)
            (calls.way_from (hunt_taken (graph s t) (session s) (core t)) T.parent (cells s) b.target []))
            (sym ran_is)
            ∙ ap (λ k. calls.way (get_or rhs₂ b.target 0 - get_or rhs₂ b.hunter 0) k (calls.way_from (hunt_taken (graph s t) (session s) (core t)) parent₂ (cells s) b.target [])) (sym steps_are)
            ∙ ap (λ l. calls.way (get_or rhs₂ b.target 0 - get_or rhs₂ b.hunter 0) steps l)
            (let q = led f in trail_way laws q.1 (cells s) [] (omega (arith, q.2)) ∙ append-nil q.0)

        record_is : session (left_by r n (r.searches + 1)) ≡ (outcome s t).session
        record_is =
            ap (λ k. session (left_by r n k)) (next r.searches) ∙ ap calls.counted H.record_is ∙ ap (λ o. o.session) (sym search_is)
          where
            next : (k : ℕ) → k + 1 ≡ suc k
            next k = omega arith

        by_answer : {way way' : List ℕ} {x : Result Answer Refusal} → told_by x way' ≡ tells (outcome s t).answer → way' ≡ written (cells_of (outcome s t).answer) way
            → Searched s t way (record { session = left_by r n (r.searches + 1); answer = x }) t₂ way'
        by_answer ea ew = record {
          answer = ea;
          frame_is = H.frame_is;
          record_is = record_is;
          plan = refl;
          tables_are = ran_is ∙ ap (λ o. o.tables) (sym search_is);
          heap = finished.tables.heap;
          shown = ew;
          caught = λ e. absurd (apart e);
          untouched = λ h m e.
              let f = F.untouched (steps_are ∙ ap (λ o. length o.steps) (sym search_is) ∙ ap length e) in
              let k = K.untouched h m in
              (f.0 ∙ k.0, f.1 ∙ k.1);
          kept = λ m i e e1 e2 q.
              let f = F.untouched (steps_are ∙ ap (λ o. length o.steps) (sym search_is) ∙ ap length e) in
              let k = K.kept m i (ap (λ (x : Tables). x.k1) (sym f.1) ∙ e1) (ap (λ (x : Tables). x.k2) (sym f.1) ∙ e2) (ap (λ (x : Tables). members x.place) (sym f.1) ∙ q) in
              (f.0 ∙ k.0, ap (λ (x : Tables). x.place) f.1 ∙ k.1, ap (λ (x : Tables). x.list) f.1 ∙ k.2);
        }

        -- what is told after the last step is what the method tells
        told_is : {x : Told} {way way' : List ℕ} → Answers b over steps rhs₂ parent₂ way x way' → (x ≡ tells (outcome s t).answer) × (way' ≡ written (cells_of (outcome s t).answer) way)
        told_is (cut_off e) = let z : true ≡ false = sym over_is ∙ e in absurd (true≢false z)
        told_is {way = way} (none_there _ i) = (sym (ap tells (answer_none i)), sym (ap (λ y. written (cells_of y) way) (answer_none i)))
        told_is {way = way} (way_shown {l} _ f k) =
            let q = led f in
            let e = leads_unique k (leads q.1) in (
              ap (λ m. told_way (get_or rhs₂ b.target 0 - get_or rhs₂ b.hunter 0) steps (length m) m) e ∙ sym (ap tells (answer_way f)),
              ap (λ m. written m way) e ∙ sym (ap (λ y. written (cells_of y) way) (answer_way f)),
            )

        pub searched : {way way' : List ℕ} {x : Result Answer Refusal} → Answers a over steps rhs₂ parent₂ way (told_by x way') way'
            → Searched s t way (record { session = left_by r n (r.searches + 1); answer = x }) (tables t.plan g₂ rhs₂ parent₂ k1₂ k2₂ place₂ list₂) way'
        searched {way} {way'} {x} A = let q = told_is (subst (λ y. Answers y over steps rhs₂ parent₂ way (told_by x way') way') aim_is A) in by_answer q.0 q.1
