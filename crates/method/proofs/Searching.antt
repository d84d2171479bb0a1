-- The whole search call: what holds between its steps, that 3N steps are enough, and that its answer is right.
use mathlib.Core.Path.{◌≡◌, refl, subst}
use mathlib.Core.Bool.{Bool, true, false}
use mathlib.Core.Logic.{◌≢◌}
use mathlib.Core.List.{List, []}
use Prim.Native.Nat.{ℕ, suc, ◌+◌, ◌-◌, ◌*◌, ◌≤◌, ◌<◌}
use native.Mathlib.Omega.{arith}
use lib.ListN.{length}
use Rattle.decide.proofs.ChooseLaws.{choose_is, differ}
use Rattle.method.specs.Numbers.{infinite, most_cost, most_estimate, growth}
use Rattle.method.specs.Graph.{Graph, GraphLaws, Hunt}
use Rattle.method.specs.Tables.{Tables, rhs_at}
use Rattle.method.specs.Loop.{Ran, run}
use Rattle.method.specs.Session.{Session, hunt_of, taken_over, counted, Answer, caught, way, way_from, answer_of, Outcome, searched_from, search}
use Rattle.method.specs.Sound.{Sound}
use Rattle.method.specs.Walk.{RightAnswer, none_there, way_there}
use Rattle.method.specs.During.{Stands, During}
use Rattle.method.proofs.Facts.{rhs_le, to_come, to_come_le}
use Rattle.method.proofs.Answers.{Stopped, Room, no_chain, cheapest}
use Rattle.method.proofs.Bounds.{starts, sum_fits}
use Rattle.method.proofs.Running.{Went, went}
use Rattle.method.proofs.Soundness.{sound_stands, sound_right, sound_bound, right_sound}
use Rattle.method.proofs.Readying.{Ready, ready}

-- ---- the answer

-- The answer of a run that has ended is right.
answer_right : {H : Hunt} {A : ℕ} (r : Ran) → During H A r.tables → Stopped H r.tables → r.ended ≡ true
    → RightAnswer H.graph H.hunter H.target (length r.steps) (answer_of H r)
unfolding answer_of
answer_right {H} r D Z e = choose_is Q _ (λ _. choose_is Q _ (λ i. none_there (no_chain D.stands D.right Z room i)) shown) (λ n. absurd (n e))
  where
    Q : Answer → Type 0
    Q a = RightAnswer H.graph H.hunter H.target (length r.steps) a

    room : Room H r.tables
    room s l f = sum_fits D s most_cost l f (omega arith)

    shown : rhs_at r.tables H.target ≢ infinite
        → Q (way (rhs_at r.tables H.target - rhs_at r.tables H.hunter) (length r.steps) (way_from H r.tables.parent H.graph.cells H.target []))
    shown n =
        let c = cheapest D.stands D.right Z (omega (arith, n, rhs_le H r.tables D.right H.target D.stands.target_in)) in
        way_there c.0 c.1

-- The cost that it shows.
pub answer_cost : (H : Hunt) (r : Ran) {cost steps : ℕ} {cells : List ℕ} → answer_of H r ≡ way cost steps cells
    → cost ≡ rhs_at r.tables H.target - rhs_at r.tables H.hunter
unfolding answer_of
answer_cost H r {cost} {steps} {cells} = choose_is Q _ (λ _. choose_is Q _ (λ _ e. differ cc) (λ _ e. cc)) (λ _ e. differ cc)
  where
    Q : Answer → Type 0
    Q a = a ≡ way cost steps cells → cost ≡ rhs_at r.tables H.target - rhs_at r.tables H.hunter

-- ---- the search proper

-- Up to 4,000 searches there is room for the numbers of one more step.
sums_fit : (n : ℕ) → n ≤ 4000 → growth * n + most_cost + most_cost + most_estimate + most_estimate * n < infinite
sums_fit n l = omega arith

-- Sound tables are within the bounds of a search.
pub sound_during : {G : Graph} → GraphLaws G → {σ : Session} {T : Tables} → Sound G σ T → During (hunt_of G σ) (growth * σ.searches) T
sound_during L {σ} S =
    starts (sound_stands S L) (omega (arith, sums_fit (suc σ.searches) (omega (arith, S.searches_le)), S.km_le, L.few)) S.sized (sound_right S) (sound_bound S)

-- What the search goes by after the take-over, the bound on its numbers, and so many steps of it.
abbrev pub hunt_taken : Graph → Session → Tables → Hunt
hunt_taken G σ T = hunt_of G (taken_over G σ T).session

abbrev pub bound_taken : Graph → Session → Tables → ℕ
bound_taken G σ T = growth * (taken_over G σ T).session.searches + most_cost

abbrev pub run_taken : Graph → Session → Tables → ℕ → Ran
run_taken G σ T limit = run (hunt_taken G σ T) limit (taken_over G σ T).tables

module _ {G : Graph} (L : GraphLaws G) {σ : Session} {T : Tables} (S : Sound G σ T) where
  ready_here : Ready G σ T (taken_over G σ T)
  ready_here = ready L S

  stands : Stands (hunt_taken G σ T)
  stands = record { laws = L; hunter_in = omega (arith, ready_here.hunter, S.hunter_in); target_in = omega (arith, ready_here.target, S.target_in) }

  -- What holds between the steps holds of what is taken over,
  pub during_start : During (hunt_taken G σ T) (bound_taken G σ T) (taken_over G σ T).tables
  during_start =
      starts stands (omega (arith, sums_fit (suc (taken_over G σ T).session.searches) (omega (arith, ready_here.searches_lt)), ready_here.km_le, L.few))
      ready_here.sized ready_here.right ready_here.bound

  -- and where it holds the tables are sound.
  pub during_sound : {E : Tables} → During (hunt_taken G σ T) (bound_taken G σ T) E → Sound G (counted (taken_over G σ T).session) E
  during_sound D =
      right_sound
      (record {
        hunter_in = omega (arith, ready_here.placed_hunter, S.hunter_in);
        target_in = omega (arith, ready_here.placed_target, S.target_in);
        origin_in = stands.hunter_in;
        goal_in = stands.target_in;
        searches_le = ready_here.searches_lt;
        km_le = ready_here.km_le;
      })
      D.sized D.right
      (record { g = λ s l f. omega (arith, D.bound.g s l f, D.room, L.few); hunter = omega (arith, D.bound.hunter, D.room, L.few) })

  -- So many steps of the search.
  pub went_to : (limit : ℕ) → Went (hunt_taken G σ T) (bound_taken G σ T) during_start.last limit (taken_over G σ T).tables (run_taken G σ T limit)
  went_to limit = went limit during_start

  few_come : to_come (hunt_taken G σ T) during_start.last (taken_over G σ T).tables ≤ 3 * G.cells
  few_come = to_come_le (hunt_taken G σ T) during_start.last (taken_over G σ T).tables

  -- 3N steps are enough.
  pub ended : (run_taken G σ T (3 * G.cells)).ended ≡ true
  ended = at (run_taken G σ T (3 * G.cells)).ended refl
    where
      at : (b : Bool) → (run_taken G σ T (3 * G.cells)).ended ≡ b → b ≡ true
      at true e = refl
      at false e = absurd (omega (arith, (went_to (3 * G.cells)).cut e, few_come))

  pub few_steps : length (run_taken G σ T (3 * G.cells)).steps ≤ 3 * G.cells
  few_steps = omega (arith, (went_to (3 * G.cells)).few, few_come)

  pub searched_right : RightAnswer G σ.hunter σ.target (length (searched_from G (taken_over G σ T)).steps) (searched_from G (taken_over G σ T)).answer
  searched_right =
      subst (λ h. Q h σ.target) ready_here.hunter
      (subst (λ t. Q (taken_over G σ T).session.origin t) ready_here.target
      (answer_right (run_taken G σ T (3 * G.cells)) (went_to (3 * G.cells)).during ((went_to (3 * G.cells)).stopped ended) ended))
    where
      Q : ℕ → ℕ → Type 0
      Q hunter target = RightAnswer G hunter target (length (searched_from G (taken_over G σ T)).steps) (searched_from G (taken_over G σ T)).answer

-- ---- the call

-- What holds of a catch and of the search proper holds of the call.
pub of_search : (G : Graph) (σ : Session) (T : Tables) (P : Outcome → Type 0)
    → (σ.hunter ≡ σ.target → P (record { answer = caught σ.hunter; session = σ; tables = T; steps = [] }))
    → (σ.hunter ≢ σ.target → P (searched_from G (taken_over G σ T))) → P (search G σ T)
unfolding search
of_search G σ T P c s = choose_is P _ c s
