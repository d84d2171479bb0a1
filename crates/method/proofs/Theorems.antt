-- What the method is known to do: statements to be read beside document 01. The arguments stand in the other files.
use mathlib.Core.Path.{◌≡◌, refl, sym, ap, ◌∙◌, subst}
use mathlib.Core.Bool.{true, true≢false, false≢true}
use mathlib.Core.Logic.{◌⊎◌, inl, inr, ◌≢◌, ◌↔◌}
use mathlib.Core.Option.{Option, none, some}
use mathlib.Core.List.{List, []}
use Prim.Native.Nat.{ℕ, zero, suc, ◌+◌, ◌-◌, ◌*◌, ◌≤◌, ◌<◌}
use native.Mathlib.Omega.{arith}
use native.Mathlib.Decide.{dec_lt}
use lib.ListN.{length, get_or}
use Rattle.decide.proofs.ChooseLaws.{differ}
use Rattle.method.specs.Numbers.{infinite, most_cost, most_estimate, most_searches, growth}
use Rattle.method.specs.Graph.{Graph, GraphLaws, Hunt}
use Rattle.method.specs.Tables.{Tables, Sized, g_at, rhs_at, queued_at, key_number, NotAbove, lesser, first_key}
use Rattle.method.specs.Steps.{stepped}
use Rattle.method.specs.Loop.{least_queued, next_cell, Step, Ran, after, is_none, run}
use Rattle.method.specs.Course.{Before, LeastCell, Runs, ends, takes}
use Rattle.method.specs.Session.{Session, hunt_of, opened, fresh, hunter_placed, target_placed, move_changed, taken_over, counted, Answer, caught, none_leads, way, cut_off, steps_shown, search}
use Rattle.method.specs.Sound.{Sound}
use Rattle.method.specs.Walk.{NoChain, RightAnswer, none_there, way_there, Once, none_yet}
use Rattle.method.specs.Change.{Altered}
use Rattle.method.specs.Growth.{NumbersFit, RaisesAtMost}
use Rattle.method.specs.During.{Inconsistent}
use Rattle.method.proofs.Facts.{rhs_le}
use Rattle.method.proofs.Bounds.{or_infinite, rhs_bound, lesser_finite, sum_fits, key_fits}
use Rattle.method.proofs.Entries.{first_finite}
use Rattle.method.proofs.Taking.{least_is, least_one, least_cell, none_queued, next_some, next_none, next_is}
use Rattle.method.proofs.Running.{step_on, run_zero, run_none, run_some}
use Rattle.method.proofs.Soundness.{sound_stands, sound_right, sound_bound, right_sound}
use Rattle.method.proofs.Changing.{move_changed_sized, Changed, changed_is}
use Rattle.method.proofs.Readying.{fresh_sized, fresh_right, fresh_bound, ready}
use Rattle.method.proofs.Searching.{answer_cost, sound_during, hunt_taken, run_taken, during_start, during_sound, went_to, ended, few_steps, searched_right, of_search}
use Rattle.method.proofs.Growth.{search_up_to}

module _ {G : Graph} (L : GraphLaws G) {σ : Session} {T : Tables} (S : Sound G σ T) where
  -- ---- demand 3: the steps of a search of sound tables

  -- No step comes twice: each kind of step at most once a cell.
  pub no_step_twice : Once (search G σ T).steps
  no_step_twice = of_search G σ T (λ o. Once o.steps) (λ _. none_yet) (λ _. (went_to L S (3 * G.cells)).once)

  -- There are at most 3N steps.
  pub at_most_3_n : length (search G σ T).steps ≤ 3 * G.cells
  at_most_3_n = of_search G σ T (λ o. length o.steps ≤ 3 * G.cells) (λ _. omega arith) (λ _. few_steps L S)

  -- The number of steps in the answer is the number of steps taken.
  pub shown_steps : steps_shown (search G σ T).answer ≡ length (search G σ T).steps
  shown_steps = of_search G σ T (λ o. steps_shown o.answer ≡ length o.steps) (λ _. refl) (λ _. at (searched_right L S))
    where
      at : {steps : ℕ} {a : Answer} → RightAnswer G σ.hunter σ.target steps a → steps_shown a ≡ steps
      at (none_there f) = refl
      at (way_there c l) = refl

  -- The search is never cut off.
  pub never_cut_off : (search G σ T).answer ≢ cut_off
  never_cut_off = of_search G σ T (λ o. o.answer ≢ cut_off) (λ _ e. differ cc) (λ _. at (searched_right L S))
    where
      at : {steps : ℕ} {a : Answer} → RightAnswer G σ.hunter σ.target steps a → a ≢ cut_off
      at (none_there f) e = differ cc
      at (way_there c l) e = differ cc

  -- ---- demand 2: the answer of a search of sound tables

  -- Hunter and target apart: no chain of open moves leads there, or the way shown is a cheapest one, of at most N cells.
  pub right_answer : σ.hunter ≢ σ.target → RightAnswer G σ.hunter σ.target (length (search G σ T).steps) (search G σ T).answer
  right_answer n = of_search G σ T (λ o. RightAnswer G σ.hunter σ.target (length o.steps) o.answer) (λ e. absurd (n e)) (λ _. searched_right L S)

  -- The cost shown is rhs of the target less rhs of the hunter.
  pub cost_shown : (cost steps : ℕ) (cells : List ℕ) → (search G σ T).answer ≡ way cost steps cells
      → cost ≡ rhs_at (search G σ T).tables σ.target - rhs_at (search G σ T).tables σ.hunter
  cost_shown cost steps cells =
      of_search G σ T (λ o. o.answer ≡ way cost steps cells → cost ≡ rhs_at o.tables σ.target - rhs_at o.tables σ.hunter) (λ _ e. differ cc)
      (λ _ e. answer_cost (hunt_taken G σ T) r e ∙ ap (λ t. rhs_at r.tables t - rhs_at r.tables (taken_over G σ T).session.origin) (ready L S).target
      ∙ ap (λ h. rhs_at r.tables σ.target - rhs_at r.tables h) (ready L S).hunter)
    where
      r : Ran
      r = run_taken G σ T (3 * G.cells)

  -- "None" exactly if no chain of open moves leads from hunter to target.
  pub none_exactly : σ.hunter ≢ σ.target → ((search G σ T).answer ≡ none_leads (length (search G σ T).steps)) ↔ NoChain G σ.hunter σ.target
  none_exactly n = at (right_answer n)
    where
      at : {steps : ℕ} {a : Answer} → RightAnswer G σ.hunter σ.target steps a → (a ≡ none_leads steps) ↔ NoChain G σ.hunter σ.target
      at (none_there f) = (λ _. f, λ _. refl)
      at (way_there c l) = (λ e. differ cc, λ f. absurd (f _ _ c.leads))

  -- "Caught" exactly if hunter and target are one cell ..
  pub caught_exactly : ((search G σ T).answer ≡ caught σ.hunter) ↔ (σ.hunter ≡ σ.target)
  caught_exactly =
      of_search G σ T (λ o. (o.answer ≡ caught σ.hunter) ↔ (σ.hunter ≡ σ.target)) (λ e. (λ _. e, λ _. refl)) (λ n. (at (searched_right L S), λ e. absurd (n e)))
    where
      at : {steps : ℕ} {a : Answer} → RightAnswer G σ.hunter σ.target steps a → a ≡ caught σ.hunter → σ.hunter ≡ σ.target
      at (none_there f) e = differ cc
      at (way_there c l) e = differ cc

  -- .. and then nothing changes and no step is taken.
  pub caught_unchanged : σ.hunter ≡ σ.target → search G σ T ≡ record { answer = caught σ.hunter; session = σ; tables = T; steps = [] }
  caught_unchanged e = of_search G σ T (λ o. o ≡ record { answer = caught σ.hunter; session = σ; tables = T; steps = [] }) (λ _. refl) (λ n. absurd (n e))

  -- ---- sound tables stay sound

  -- After the take-over the tables are sound for the search that is now counted ..
  pub taken_over_sound : Sound G (counted (taken_over G σ T).session) (taken_over G σ T).tables
  taken_over_sound = during_sound L S (during_start L S)

  -- .. and so they are after every single step: however early the loop is cut off.
  pub every_step_sound : (limit : ℕ) → Sound G (counted (taken_over G σ T).session) (run_taken G σ T limit).tables
  every_step_sound limit = during_sound L S (went_to L S limit).during

  -- After a search.
  pub search_sound : Sound G (search G σ T).session (search G σ T).tables
  search_sound = of_search G σ T (λ o. Sound G o.session o.tables) (λ _. S) (λ _. every_step_sound (3 * G.cells))

-- After placing hunter or target on a cell of the graph.
module _ {G : Graph} {σ : Session} {T : Tables} (S : Sound G σ T) (s : ℕ) (l : s < G.cells) where
  pub hunter_placed_sound : Sound G (hunter_placed σ s) T
  hunter_placed_sound =
      right_sound
      (record {
        hunter_in = l;
        target_in = S.target_in;
        origin_in = S.origin_in;
        goal_in = S.goal_in;
        searches_le = S.searches_le;
        km_le = S.km_le;
      })
      S.sized (sound_right S) (sound_bound S)

  pub target_placed_sound : Sound G (target_placed σ s) T
  target_placed_sound =
      right_sound
      (record {
        hunter_in = S.hunter_in;
        target_in = l;
        origin_in = S.origin_in;
        goal_in = S.goal_in;
        searches_le = S.searches_le;
        km_le = S.km_le;
      })
      S.sized (sound_right S) (sound_bound S)

-- After opening.
pub open_sound : {G : Graph} → GraphLaws G → (hunter target : ℕ) → hunter < G.cells → target < G.cells → Sound G (opened hunter target) (fresh G hunter target)
open_sound {G} L hunter target lh lt =
    right_sound (record { hunter_in = lh; target_in = lt; origin_in = lh; goal_in = lt; searches_le = omega arith; km_le = omega arith })
    (fresh_sized G hunter target) (fresh_right L lh) (fresh_bound L lh)

-- After a change of a move, on the graph as it then is.
pub move_changed_sound : {G G' : Graph} {σ : Session} {T : Tables} {v k u old new : ℕ} → Altered G G' v k u old new → Sound G σ T → v < G.cells
    → Sound G' σ (move_changed (hunt_of G' σ) T v k u old new)
move_changed_sound {G} {G'} {σ} {T} {v} {k} {u} {old} {new} A S lv =
    right_sound
    (record {
      hunter_in = omega (arith, S.hunter_in, A.cells);
      target_in = omega (arith, S.target_in, A.cells);
      origin_in = omega (arith, S.origin_in, A.cells);
      goal_in = omega (arith, S.goal_in, A.cells);
      searches_le = S.searches_le;
      km_le = S.km_le;
    })
    (subst (λ n. Sized n (move_changed (hunt_of G' σ) T v k u old new)) (sym A.cells) (move_changed_sized S.sized (hunt_of G' σ) v k u old new)) C.right
    (record { g = λ s l f. omega (arith, same s, (sound_bound S).g s (omega (arith, A.cells)) (omega (arith, same s))); hunter = omega (arith, C.hunter, S.hunter_le) })
  where
    C : Changed (hunt_of G' σ) T (move_changed (hunt_of G' σ) T v k u old new)
    C = changed_is A S lv

    same : (s : ℕ) → g_at (move_changed (hunt_of G' σ) T v k u old new) s ≡ g_at T s
    same s = ap (λ x. get_or x s 0) C.g

-- ---- numbers

-- For any search number up to 4,000: a g and a cost, and the lesser number (at most a g and a cost), an estimate and km, stay below infinite.
pub numbers_fit : (n g cost estimate km : ℕ) → n ≤ 4000 → g ≤ growth * n → cost ≤ most_cost → estimate ≤ most_estimate → km ≤ most_estimate * n
    → (g + cost < infinite) × (g + cost + estimate + km < infinite)
numbers_fit n g cost estimate km l lg lc le lk = omega arith

-- Of sound tables, where the search number is at most 1,000:
module _ {G : Graph} (L : GraphLaws G) {σ : Session} {T : Tables} (S : Sound G σ T) where
  -- a finite g and a cost;
  pub sum_below : (s c : ℕ) → s < G.cells → g_at T s ≢ infinite → c ≤ most_cost → g_at T s + c < infinite
  sum_below s c l n h = sum_fits (sound_during L S) s c l (omega (arith, n, (sound_right S).g_le s l)) h

  -- every rhs, which is infinite or at most one cost above the bound on g;
  pub rhs_below : (s : ℕ) → s < G.cells → (rhs_at T s ≡ infinite) ⊎ (rhs_at T s ≤ growth * σ.searches + most_cost)
  rhs_below s l =
      or_infinite (rhs_at T s) (λ n. rhs_bound (sound_stands S L) (sound_right S) (sound_bound S) s l (omega (arith, n, rhs_le (hunt_of G σ) T (sound_right S) s l)))

  -- the first key number of a cell with a finite lesser number;
  pub key_below : (s : ℕ) → s < G.cells → lesser T s < infinite → lesser T s + G.estimate s σ.goal + σ.km < infinite
  key_below s l f = key_fits (sound_during L S) s l f

  -- both numbers of a queued cell's calculated key, and the first of its stored key.
  pub queued_below : (s : ℕ) → s < G.cells → queued_at T s ≡ true → (first_key (hunt_of G σ) s (lesser T s) < infinite) × (lesser T s < infinite) × (get_or T.k1 s 0 < infinite)
  queued_below s l q =
      let n : Inconsistent T s = λ e. true≢false (sym q ∙ S.not_in_queue s l e) in
      let f : lesser T s < infinite = lesser_finite (sound_during L S) s l n in
      let h : lesser T s + G.estimate s σ.goal + σ.km < infinite = key_below s l f in
      (omega (arith, first_finite (hunt_of G σ) s (lesser T s) f), f, omega (arith, (sound_right S).keys s l n))

  -- So no number of sound tables is lost at the end of its width.
  pub sound_numbers_fit : NumbersFit G σ T
  sound_numbers_fit = record {
    sum = λ s cost l h. or_infinite (g_at T s) (λ n. sum_below s cost l n h);
    rhs = λ s l. at (rhs_below s l);
    key = λ s l. or_infinite (lesser T s) (λ n. key_below s l (omega (arith, n, (sound_right S).g_le s l)));
    stored = λ s l q. (queued_below s l q).2;
    km = omega (arith, S.km_le, S.searches_le);
    searches = S.searches_le;
  }
    where
      at : {r : ℕ} → (r ≡ infinite) ⊎ (r ≤ growth * σ.searches + most_cost) → (r ≡ infinite) ⊎ (r ≤ growth * most_searches + most_cost)
      at (inl e) = inl e
      at (inr h) = inr (omega (arith, S.searches_le))

  -- A search raises the greatest finite number by at most 1,024,250.
  pub raises_at_most : RaisesAtMost G.cells T (search G σ T).tables
  raises_at_most most F = search_up_to L S F

-- ---- one least cell

module _ {G : Graph} (L : GraphLaws G) (T : Tables) (n : ℕ) where
  -- The cell named is the queued cell below n that comes before every other, and whoever names such a cell names this one.
  pub least_cell_exactly : (u : ℕ) → (least_queued G T n ≡ some u) ↔ LeastCell G T n u
  least_cell_exactly u = (λ e. rw e at (least_is L T n), least_one L T n u)

  -- It is enough that no queued cell comes before it.
  pub least_cell_enough : (u : ℕ) → u < n → queued_at T u ≡ true → ((s : ℕ) → s < n → queued_at T s ≡ true → Before G T s u → ⊥) → least_queued G T n ≡ some u
  least_cell_enough u l q f = least_one L T n u (least_cell L T n u l q f)

  -- None is named exactly if none is queued.
  pub least_cell_none : (least_queued G T n ≡ none) ↔ ((s : ℕ) → s < n → queued_at T s ≡ true → ⊥)
  least_cell_none = (λ e. rw e at (least_is L T n), none_queued L T n)

-- The order of keys as one number is that of the pairs, k1 first ..
pub key_order : (a b c d : ℕ) → b ≤ 4294967296 → d < 4294967296 → (key_number a b ≤ key_number c d) ↔ NotAbove a b c d
key_order a b c d lb ld = (λ h. to h (dec_lt a c), from)
  where
    to : key_number a b ≤ key_number c d → Dec (a < c) → NotAbove a b c d
    to h (yes l) = inl l
    to h (no n) = inr (omega arith, omega arith)

    from : NotAbove a b c d → key_number a b ≤ key_number c d
    from (inl l) = omega arith
    from (inr e) = omega (arith, e)

-- .. "below" too ..
pub key_less : (a b c d : ℕ) → b < 4294967296 → d < 4294967296 → (key_number a b < key_number c d) ↔ ((a < c) ⊎ ((a ≡ c) × (b < d)))
key_less a b c d lb ld = let next = key_order a (suc b) c d lb ld in (λ h. next.0 (omega arith), λ h. omega (arith, next.1 h))

-- .. and equal numbers are equal pairs.
pub key_equal : (a b c d : ℕ) → b < 4294967296 → d < 4294967296 → key_number a b ≡ key_number c d → (a ≡ c) × (b ≡ d)
key_equal a b c d lb ld e = (omega arith, omega arith)

-- ---- one course

module _ {H : Hunt} (L : GraphLaws H.graph) where
  -- Whoever takes a least queued cell each time, while the loop's condition holds, does what `run` does with steps enough.
  pub course_is_run : {T E : Tables} {l : List Step} → Runs H T l E → (limit : ℕ) → length l ≤ limit → run H limit T ≡ record { tables = E; steps = l; ended = true }
  course_is_run {T} (ends n) limit h = run_none H limit T (next_none H L T n)
  course_is_run (takes u F c r) zero h = absurd (omega arith)
  course_is_run {T} (takes u F c r) (suc limit) h = run_some H limit T u (next_some H L T u F c) ∙ ap (λ x. after (step_on H T u) x) (course_is_run r limit (omega arith))

  -- So any two such courses from the same tables take the same steps to the same tables.
  pub one_course : {T E E' : Tables} {l l' : List Step} → Runs H T l E → Runs H T l' E' → (l ≡ l') × (E ≡ E')
  one_course {T} {E} {E'} {l} {l'} r r' =
      let e : ◌≡◌ {A = Ran} (record { tables = E; steps = l; ended = true }) (record { tables = E'; steps = l'; ended = true }) =
      sym (course_is_run r (length l + length l') (omega arith)) ∙ course_is_run r' (length l + length l') (omega arith) in
      (ap (λ x. x.steps) e, ap (λ x. x.tables) e)

  -- And a `run` that has ended is such a course.
  pub run_is_course : (limit : ℕ) (T : Tables) → (run H limit T).ended ≡ true → Runs H T (run H limit T).steps (run H limit T).tables
  unfolding is_none
  run_is_course zero T e = at (next_cell H T) refl
    where
      at : (o : Option ℕ) → next_cell H T ≡ o → Runs H T (run H zero T).steps (run H zero T).tables
      at none q = rw (run_zero H T) (ends (next_is H L T none q))
      at (some u) q = absurd (false≢true (ap is_none (sym q) ∙ ap (λ x. x.ended) (sym (run_zero H T)) ∙ e))
  run_is_course (suc limit) T e = at (λ U. run_is_course limit U) (next_cell H T) refl
    where
      at : ((U : Tables) → (run H limit U).ended ≡ true → Runs H U (run H limit U).steps (run H limit U).tables) → (o : Option ℕ) → next_cell H T ≡ o
          → Runs H T (run H (suc limit) T).steps (run H (suc limit) T).tables
      at ih none q = rw (run_none H (suc limit) T q) (ends (next_is H L T none q))
      at ih (some u) q =
          let n = next_is H L T (some u) q in
          rw (run_some H limit T u q) (takes u n.0 n.1 (ih (stepped H T u) (rw (run_some H limit T u q) at e)))

-- The steps and tables of a search of sound tables are those of the course from the tables taken over.
pub search_is_course : {G : Graph} → GraphLaws G → {σ : Session} {T : Tables} → Sound G σ T → σ.hunter ≢ σ.target
    → Runs (hunt_taken G σ T) (taken_over G σ T).tables (search G σ T).steps (search G σ T).tables
search_is_course {G} L {σ} {T} S n =
    of_search G σ T (λ o. Runs (hunt_taken G σ T) (taken_over G σ T).tables o.steps o.tables) (λ e. absurd (n e))
    (λ _. run_is_course L (3 * G.cells) (taken_over G σ T).tables (ended L S))
