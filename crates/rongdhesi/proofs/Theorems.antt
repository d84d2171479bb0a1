-- What the C functions' statements settle: faulty input is refused by number, exactly, and changes nothing; a search of sound tables answers rightly in few steps;
-- two results that one statement allows are equal, the order inside the heap apart.
use mathlib.Core.Path.{◌≡◌, refl, sym, ap, subst, ◌∙◌}
use mathlib.Core.Logic.{◌⊎◌, inl, inr, ◌≢◌, ◌↔◌}
use mathlib.Core.List.{List}
use Prim.Native.Nat.{ℕ, ◌≤◌}
use native.Mathlib.Omega.{arith}
use native.Mathlib.Decide.{ℕ_discrete}
use lib.ListN.{length}
use Rattle.decide.proofs.ChooseLaws.{differ}
use Rattle.decide.proofs.RuledLaws.{passed_one, ruled_one}
use Rattle.method.specs.Walk.{NoChain}
use Rattle.tables.specs.declared.Session.{Session}
use Rattle.tables.specs.Lent.{Tables, cells, graph}
use Rattle.tables.specs.Sound.{Sound}
use Rattle.tables.specs.Told.{none_leads as none, refusal, Told, told_refusal}
use Rattle.std.specs.Prelude.{Result, Ok, Err}
use Rattle.refusal.specs.declared.Refusal.{Refusal}
use Rattle.session.specs.declared.Reply.{Reply as CallReply}
use Rattle.session.specs.Refusals.{told_by as told_by_call, PlaceRules, OpenRules}
use Rattle.session.specs.Promises.{nothing, Places, Opens, Alike}
use Rattle.session.proofs.Theorems.{one_placing, one_opening}
use Rattle.change.specs.Refusals.{ChangeRules}
use Rattle.change.specs.Promise.{Changes}
use Rattle.change.proofs.Theorems.{one_change}
use Rattle.answer.specs.declared.Answer.{Answer}
use Rattle.answer.specs.declared.Answer.TheVariants.{Caught, NoWay, Way}
use Rattle.answer.specs.Answer.{told_by}
use Rattle.search.specs.declared.Outcome.{Outcome}
use Rattle.search.specs.Promise.{SearchRules, Searches}
use Rattle.demands.specs.Demands.{Exactly, steps_of, RightlyAnswered, caught, none_leads, way_shown, TakesTheSteps, FewSteps}
use Rattle.demands.proofs.Demands.{demand_1, demand_1_exactly, demand_2, demand_3, one_search}
use Rattle.rongdhesi.specs.declared.Reply.{Reply}
use Rattle.drill_writer.specs.Promise.{written_told, WriteRules, Writes}
use Rattle.drill_writer.proofs.Theorems.{one_writing, write_exactly}
use Rattle.drill_writer.proofs.Theorems as writer
use Rattle.drill_writer.proofs.WriteLaws.{refused_told}
use Rattle.rongdhesi.specs.declared.Lengths.{Lengths}
use Rattle.rongdhesi.specs.declared.Written.{Written}
use Rattle.rongdhesi.specs.Told.{kind_of, reply_of, written_of, CallTold, SearchTold, Measures, WritingTold}
use Rattle.reach.specs.declared.Counts.{Counts}
use Rattle.reach.specs.Promise.{reach_told, ReachRules, Reports}
use Rattle.reach.proofs.Theorems.{reach_refused, reach_number, one_reach}
use Rattle.along.specs.Along.{running_told, AlongRules, Costed}
use Rattle.along.proofs.Theorems.{along_refused, along_number, one_along}
use Rattle.through.specs.Through.{ThroughRules, ThroughTold, Passes}
use Rattle.through.proofs.Theorems.{through_refused_told, through_number, one_through}
use Rattle.rongdhesi.specs.declared.Reached.{Reached}
use Rattle.rongdhesi.specs.declared.Running.{Running}
use Rattle.rongdhesi.specs.declared.Through.{Through}
use Rattle.rongdhesi.specs.Reasons.{reached_of, running_of, through_of, Gives}
use Rattle.rongdhesi.specs.Demanded.{ToldExactly, RightlyTold, TakesTheStepsTold, FewStepsTold}

-- ---- what is told of a reply

same_told : {r r' : Reply} {x x' : CallReply} → r ≡ reply_of x.session (told_by_call x.answer) → r' ≡ reply_of x'.session (told_by_call x'.answer) → x ≡ x' → r ≡ r'
same_told a b e = a ∙ ap (λ (y : CallReply). reply_of y.session (told_by_call y.answer)) e ∙ sym b

-- ---- refusals: where k is the number of the first rule broken, the reply is k's and carries nothing else

refusal_told : {r : Reply} {s s' : Session} {x : Told} (k : ℕ) → r ≡ reply_of s x → x ≡ told_refusal k → s ≡ s' → r ≡ reply_of s' (told_refusal k)
refusal_told {s = s} k e a b = e ∙ ap (λ (y : Told). reply_of s y) a ∙ ap (λ (y : Session). reply_of y (told_refusal k)) b

pub placing_refused : {s placed : Session} {cell k : ℕ} {r : Reply} → CallTold (Places s placed cell) r → PlaceRules s cell k → k ≢ 0 → r ≡ reply_of s (told_refusal k)
placing_refused {k = k} P rules n =
    let d = demand_1.place P.promised rules n in
    refusal_told k P.told d.0 d.1

pub opening_refused : {width height hunter target k : ℕ} {t t' : Tables} {r : Reply} → CallTold (λ x. Opens width height hunter target t x t') r → OpenRules width height hunter target t k → k ≢ 0
    → (r ≡ reply_of nothing (told_refusal k)) × (t' ≡ t)
opening_refused {k = k} P rules n =
    let d = demand_1.opening P.promised rules n in
    (refusal_told k P.told d.0 d.1, d.2)

pub change_refused : {s : Session} {t t' : Tables} {u d cost k : ℕ} {r : Reply} → CallTold (λ x. Changes s t u d cost x t') r → ChangeRules s t u d cost k → k ≢ 0
    → (r ≡ reply_of s (told_refusal k)) × (t' ≡ t)
change_refused {k = k} P rules n =
    let d = demand_1.change P.promised rules n in
    (refusal_told k P.told d.0 d.1, d.2)

pub search_refused : {s : Session} {t t' : Tables} (way : List ℕ) {way' : List ℕ} {k : ℕ} {r : Reply} → SearchTold (λ x. Searches s t way x t' way') r → SearchRules s t way k → k ≢ 0
    → (r ≡ reply_of s (told_refusal k)) × (t' ≡ t) × (way' ≡ way)
search_refused way {way'} {k} P rules n =
    let d = demand_1.search way P.promised rules n in
    (refusal_told k (P.told way') d.0 d.1, d.2, d.3)

-- ---- refusals, both ways: the number told is k exactly if k is the number of the first rule broken

-- What is told is no refusal and has number 0, or is the refusal of its number.
abbrev Numbered : Told → Type 0
Numbered x = ((x.name ≢ refusal) × (x.number ≡ 0)) ⊎ (x ≡ told_refusal x.number)

call_number : (a : Result Unit Refusal) → Numbered (told_by_call a)
call_number (Ok _) = inl (λ e. differ cc, refl)
call_number (Err r) = inr refl

search_number : (a : Result Answer Refusal) (list : List ℕ) → Numbered (told_by a list)
search_number (Ok (Caught x)) list = inl (λ e. differ cc, refl)
search_number (Ok (NoWay n)) list = inl (λ e. differ cc, refl)
search_number (Ok (Way c n k)) list = inl (λ e. differ cc, refl)
search_number (Err r) list = inr refl

told_exactly : {Rules : ℕ → Type 0} {r : Reply} (s : Session) (x : Told) → r ≡ reply_of s x → Exactly Rules x → Numbered x → ToldExactly Rules r
told_exactly {Rules} s x e E p k = subst (λ (y : Reply). (y.refusal ≡ k) ↔ Rules k) (sym e) (by p)
  where
    by : Numbered x → (x.number ≡ k) ↔ Rules k
    by (inl (f, z)) = (λ q. subst Rules (sym z ∙ q) (E.done.0 f), λ R. at R (ℕ_discrete k 0))
      where
        at : Rules k → Dec (k ≡ 0) → x.number ≡ k
        at R (yes q) = z ∙ sym q
        at R (no n) = absurd (f (ap (λ (y : Told). y.name) ((E.refused k).1 (n, R))))
    by (inr q) = (λ h. subst Rules h ((E.refused x.number).0 q).1, λ R. at R (ℕ_discrete k 0))
      where
        at : Rules k → Dec (k ≡ 0) → x.number ≡ k
        at R (yes z) = absurd (E.done.1 (subst Rules z R) (ap (λ (y : Told). y.name) q))
        at R (no n) = ap (λ (y : Told). y.number) ((E.refused k).1 (n, R))

call_exactly : {Rules : ℕ → Type 0} {r : Reply} (x : CallReply) → r ≡ reply_of x.session (told_by_call x.answer) → Exactly Rules (told_by_call x.answer) → ToldExactly Rules r
call_exactly x e E = told_exactly x.session (told_by_call x.answer) e E (call_number x.answer)

pub placing_exactly : {s placed : Session} {cell : ℕ} {r : Reply} → CallTold (Places s placed cell) r → ToldExactly (PlaceRules s cell) r
placing_exactly P = call_exactly P.called P.told (demand_1_exactly.place P.promised)

pub opening_exactly : {width height hunter target : ℕ} {t t' : Tables} {r : Reply} → CallTold (λ x. Opens width height hunter target t x t') r → ToldExactly (OpenRules width height hunter target t) r
opening_exactly P = call_exactly P.called P.told (demand_1_exactly.opening P.promised)

pub change_exactly : {s : Session} {t t' : Tables} {u d cost : ℕ} {r : Reply} → CallTold (λ x. Changes s t u d cost x t') r → ToldExactly (ChangeRules s t u d cost) r
change_exactly P = call_exactly P.called P.told (demand_1_exactly.change P.promised)

pub search_told_exactly : {s : Session} {t t' : Tables} (way : List ℕ) {way' : List ℕ} {r : Reply} → SearchTold (λ x. Searches s t way x t' way') r → ToldExactly (SearchRules s t way) r
search_told_exactly way {way'} P = told_exactly P.called.session (told_by P.called.answer way') (P.told way') (demand_1_exactly.search way P.promised) (search_number P.called.answer way')

-- ---- demands 2 and 3: a search of sound tables, with room for the way

module _ {s : Session} {t t' : Tables} (S : Sound s t) (way : List ℕ) {way' : List ℕ} {r : Reply} (room : cells s ≤ length way) (P : SearchTold (λ x. Searches s t way x t' way') r) where
  takes : TakesTheSteps s t way P.called t' way'
  takes = demand_2 S way room P.promised

  few : FewSteps s t P.called t'
  few = demand_3 S way room P.promised

  left_is : r.session ≡ P.called.session
  left_is = ap (λ (y : Reply). y.session) (P.told way')

  answer_told : RightlyTold s t way r way'
  answer_told = record {
    told = told_by P.called.answer way';
    right = takes.answer;
    reply = P.told way' ∙ ap (λ (y : Session). reply_of y (told_by P.called.answer way')) (sym left_is);
  }

  pub search_right_told : TakesTheStepsTold s t way r t' way'
  search_right_told = record {
    steps = takes.steps;
    answer = answer_told;
    none_exactly = λ n. subst (λ (y : Reply). (y.kind ≡ kind_of none) ↔ NoChain (graph s t) s.hunter s.target) (sym (P.told way')) (at n takes.answer);
  }
    where
      at : {x : Told} {w : List ℕ} → s.hunter ≢ s.target → RightlyAnswered s t way x w → (kind_of x.name ≡ kind_of none) ↔ NoChain (graph s t) s.hunter s.target
      at n (caught e) = absurd (n e)
      at n (none_leads _ f) = (λ _. f, λ _. refl)
      at n (way_shown _ c l) = (λ e. absurd (omega (arith, e)), λ f. absurd (f _ _ c.leads))

  steps_told : r.steps ≡ length (steps_of s t)
  steps_told = ap (λ (y : Reply). y.steps) (P.told way') ∙ few.reported way'

  pub few_steps_told : FewStepsTold s t r t'
  few_steps_told = record {
    at_most_3_n = omega (arith, steps_told, few.at_most_3_n);
    no_step_twice = few.no_step_twice;
    reported = steps_told;
    sound_again = subst (λ (y : Session). Sound y t') (sym left_is) few.sound_again;
  }

-- ---- one result

pub one_placing_told : {s placed : Session} {cell : ℕ} {r r' : Reply} → CallTold (Places s placed cell) r → CallTold (Places s placed cell) r' → r ≡ r'
one_placing_told P Q = same_told P.told Q.told (one_placing P.promised Q.promised)

pub one_opening_told : {width height hunter target : ℕ} {t a a' : Tables} {r r' : Reply} → CallTold (λ x. Opens width height hunter target t x a) r → CallTold (λ x. Opens width height hunter target t x a') r'
    → (r ≡ r') × (a ≡ a')
one_opening_told P Q =
    let one = one_opening P.promised Q.promised in
    (same_told P.told Q.told one.0, one.1)

pub one_change_told : {s : Session} {t a a' : Tables} {u d cost : ℕ} {r r' : Reply} → CallTold (λ x. Changes s t u d cost x a) r → CallTold (λ x. Changes s t u d cost x a') r'
    → (r ≡ r') × Alike r.session.count a a'
one_change_told {a = a} {a' = a'} P Q =
    let one = one_change P.promised Q.promised in
    (same_told P.told Q.told one.0, subst (λ (n : ℕ). Alike n a a') (sym (ap (λ (y : Reply). y.session.count) P.told)) one.1)

pub one_search_told : {s : Session} {t a a' : Tables} (way : List ℕ) {w w' : List ℕ} {r r' : Reply} → SearchTold (λ x. Searches s t way x a w) r → SearchTold (λ x. Searches s t way x a' w') r'
    → (r ≡ r') × Alike r.session.count a a' × (w ≡ w')
one_search_told {a = a} {a' = a'} way P Q =
    let one = one_search way P.promised Q.promised in
    let counted = sym (ap (λ (y : Reply). y.session.count) (P.told way)) in
    (P.told way ∙ ap (λ (y : Outcome). reply_of y.session (told_by y.answer way)) one.0 ∙ sym (Q.told way), subst (λ (n : ℕ). Alike n a a') counted one.1, one.2)

-- The lengths that a size gives.
pub one_measuring : {width height : ℕ} {r r' : Lengths} → Measures width height r → Measures width height r' → r ≡ r'
one_measuring {r = r} {r' = r'} P Q = at (ℕ_discrete r.refusal 0)
  where
    e : r.refusal ≡ r'.refusal
    e = ruled_one passed_one r.refusal r'.refusal P.rules Q.rules

    lengths : ℕ → ℕ → ℕ → Lengths
    lengths a b c = record { refusal = a; plan = b; cells = c }

    same : (r.plan ≡ r'.plan) → (r.cells ≡ r'.cells) → r ≡ r'
    same p c = ap (λ x. lengths x r.plan r.cells) e ∙ ap (λ x. lengths r'.refusal x r.cells) p ∙ ap (λ x. lengths r'.refusal r'.plan x) c

    at : Dec (r.refusal ≡ 0) → r ≡ r'
    at (yes z) = let p = P.done z in let q = Q.done (sym e ∙ z) in same (p.0 ∙ sym q.0) (p.1 ∙ sym q.1)
    at (no n) = let p = P.refused n in let q = Q.refused (λ z. n (e ∙ z)) in same (p.0 ∙ sym q.0) (p.1 ∙ sym q.1)

-- ---- writing a drill file

module _ {width height hunter target : ℕ} {plan actions file file' : List ℕ} {r : Written} (P : WritingTold (λ x. Writes width height hunter target plan actions file x file') r) where
  -- Where k is the number of the first rule broken, the reply carries k and nothing else, and nothing has changed;
  pub write_refused : {k : ℕ} → WriteRules width height hunter target plan actions (length file) k → k ≢ 0 → (r ≡ written_of (record { refusal = k; bytes = 0 })) × (file' ≡ file)
  write_refused {k} rules n = (P.told ∙ ap written_of (refused_told P.called ((write_exactly P.promised k).1 rules) n), (writer.write_refused P.promised rules n).1)

  -- the number told is k exactly if k is the number of the first rule broken, and 0 exactly if none is.
  pub write_told_exactly : (k : ℕ) → (r.refusal ≡ k) ↔ WriteRules width height hunter target plan actions (length file) k
  write_told_exactly k = subst (λ (y : Written). (y.refusal ≡ k) ↔ WriteRules width height hunter target plan actions (length file) k) (sym P.told) (write_exactly P.promised k)

-- Two results that the statement allows are equal, every byte of the room too.
pub one_writing_told : {width height hunter target : ℕ} {plan actions file a b : List ℕ} {r s : Written} → WritingTold (λ x. Writes width height hunter target plan actions file x a) r
    → WritingTold (λ x. Writes width height hunter target plan actions file x b) s → (r ≡ s) × (a ≡ b)
one_writing_told P Q =
    let one = one_writing P.promised Q.promised in
    (P.told ∙ ap (λ (x : Result ℕ Refusal). written_of (written_told x)) one.0 ∙ sym Q.told, one.1)

-- ---- what is asked of a plan alone

-- Two results told of equal answers are equal.
same_given : {A B : Type 0} {tell : A → B} {P Q : A → Type 0} {r s : B} (a : Gives tell P r) (b : Gives tell Q s) → a.called ≡ b.called → r ≡ s
same_given {tell = tell} a b e = a.told ∙ ap tell e ∙ sym b.told

module _ {width height hunter : ℕ} {plan rows moves rows' moves' : List ℕ} {r : Reached} (P : Gives reached_of (λ x. Reports width height hunter plan rows moves x rows' moves') r) where
  -- Where k is the number of the first rule broken, the reply carries k and nothing else, and nothing has changed;
  pub reached_refused : {k : ℕ} → ReachRules width height hunter plan rows moves k → k ≢ 0 → (r ≡ record { refusal = k; cells = 0; moves = 0 }) × (rows' ≡ rows) × (moves' ≡ moves)
  reached_refused {k = k} rules n =
      let d = reach_refused P.promised rules n in
      let is : (reach_told P.called).refusal ≡ k = (reach_number P.promised k).1 rules in
      (P.told ∙ ap reached_of d.0 ∙ ap (λ (x : ℕ). record { refusal = x; cells = 0; moves = 0 }) (sym (ap (λ (x : Result Counts Refusal). (reach_told x).refusal) d.0) ∙ is), d.1, d.2)

  -- the number told is k exactly if k is the number of the first rule broken, and 0 exactly if none is.
  pub reached_told_exactly : (k : ℕ) → (r.refusal ≡ k) ↔ ReachRules width height hunter plan rows moves k
  reached_told_exactly k = subst (λ (y : Reached). (y.refusal ≡ k) ↔ ReachRules width height hunter plan rows moves k) (sym P.told) (reach_number P.promised k)

module _ {width height : ℕ} {plan cells costs costs' : List ℕ} {r : Running} (P : Gives running_of (λ x. Costed width height plan cells costs x costs') r) where
  -- The same of the running costs ..
  pub running_refused : {k : ℕ} → AlongRules width height plan cells (length costs) k → k ≢ 0 → (r ≡ record { refusal = k; costs = 0 }) × (costs' ≡ costs)
  running_refused {k = k} rules n =
      let d = along_refused P.promised rules n in
      let is : (running_told P.called).refusal ≡ k = (along_number P.promised k).1 rules in
      (P.told ∙ ap running_of d.0 ∙ ap (λ (x : ℕ). record { refusal = x; costs = 0 }) (sym (ap (λ (x : Result ℕ Refusal). (running_told x).refusal) d.0) ∙ is), d.1)

  pub running_told_exactly : (k : ℕ) → (r.refusal ≡ k) ↔ AlongRules width height plan cells (length costs) k
  running_told_exactly k = subst (λ (y : Running). (y.refusal ≡ k) ↔ AlongRules width height plan cells (length costs) k) (sym P.told) (along_number P.promised k)

module _ {width height hunter target : ℕ} {plan : List ℕ} {cell direction : ℕ} {r : Through} (P : Gives through_of (Passes width height hunter target plan cell direction) r) where
  -- .. and of the least cost through a move, for which nothing is lent to write.
  pub through_told_refused : {k : ℕ} → ThroughRules width height hunter target plan cell direction k → k ≢ 0 → r ≡ record { refusal = k; walk = 0; cost = 0 }
  through_told_refused rules n =
      P.told ∙ ap (λ (x : ThroughTold). record { refusal = x.refusal; walk = x.walk; cost = x.cost }) (through_refused_told P.promised rules n)

  pub through_told_exactly : (k : ℕ) → (r.refusal ≡ k) ↔ ThroughRules width height hunter target plan cell direction k
  through_told_exactly k = subst (λ (y : Through). (y.refusal ≡ k) ↔ ThroughRules width height hunter target plan cell direction k) (sym P.told) (through_number P.promised k)

-- Two results that a statement allows are equal, every lent number too.
pub one_reached_told : {width height hunter : ℕ} {plan rows moves a b c d : List ℕ} {r s : Reached} → Gives reached_of (λ x. Reports width height hunter plan rows moves x a b) r
    → Gives reached_of (λ x. Reports width height hunter plan rows moves x c d) s → (r ≡ s) × (a ≡ c) × (b ≡ d)
one_reached_told P Q =
    let one = one_reach P.promised Q.promised in
    (same_given P Q one.0, one.1, one.2)

pub one_running_told : {width height : ℕ} {plan cells costs a b : List ℕ} {r s : Running} → Gives running_of (λ x. Costed width height plan cells costs x a) r
    → Gives running_of (λ x. Costed width height plan cells costs x b) s → (r ≡ s) × (a ≡ b)
one_running_told P Q =
    let one = one_along P.promised Q.promised in
    (same_given P Q one.0, one.1)

pub one_through_told : {width height hunter target : ℕ} {plan : List ℕ} {cell direction : ℕ} {r s : Through} → Gives through_of (Passes width height hunter target plan cell direction) r
    → Gives through_of (Passes width height hunter target plan cell direction) s → r ≡ s
one_through_told P Q = same_given P Q (one_through P.promised Q.promised)
