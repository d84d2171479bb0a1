-- The calls leave what the definition of a drill says, and their lines are the definition's.
use mathlib.Core.Path.{◌≡◌, refl, sym, ap, subst, ◌∙◌}
use mathlib.Core.Logic.{◌⊎◌, inl, inr, ⊎_elim, ◌≢◌}
use mathlib.Core.List.{List, [], ◌∷◌, ◌++◌, append_assoc, append-nil}
use Prim.Native.Nat.{ℕ, zero, suc, ◌+◌, ◌*◌, ◌-◌, ◌≤◌, ◌<◌}
use native.Mathlib.Omega.{arith}
use native.Mathlib.Decide.{ℕ_discrete, dec_lt}
use lib.Dec.{leb}
use lib.ListN.{length, take, drop}
use lib.Seq.{take-append_seam}
use Rattle.decide.specs.Ruled.{Ruled, fails, holds, Passed, passed}
use Rattle.decide.proofs.RuledLaws.{passed_zero, onward}
use Rattle.method.specs.Session as method_session
use Rattle.decide.specs.Choose.{choose}
use Rattle.decide.specs.Decides.{Decides}
use Rattle.decide.proofs.ChooseLaws.{choose_yes, choose_no}
use Rattle.decide.proofs.DecideLaws.{decides_le}
use Rattle.tables.specs.declared.Session.{Session}
use Rattle.tables.specs.Lent.{Tables, frame, cells, floor}
use Rattle.tables.specs.Sound.{Sound}
use Rattle.tables.specs.Told.{Name, done as name_done, refusal as name_refusal, Told, told_number}
use Rattle.tables.proofs.SoundLaws.{sound_fits}
use Rattle.session.specs.declared.Reply.{Reply}
use Rattle.session.specs.Promises.{hunter_at, target_at, Places}
use Rattle.session.specs.Refusals.{told_by}
use Rattle.session.proofs.RefusalLaws.{place_granted, sound_rules}
use Rattle.change.specs.Promise.{Changes}
use Rattle.search.specs.declared.Outcome.{Outcome}
use Rattle.answer.specs.declared.Answer as search_answer
use Rattle.answer.specs.Answer.{count_of, answer_of, cells_of}
use Rattle.answer.proofs.AnswerLaws.{count_told}
use Rattle.search.specs.Promise.{outcome, written, Searched, Searches}
use Rattle.search.proofs.SearchLaws.{searched_answer}
use Rattle.demands.specs.Demands.{RightlyAnswered, caught, none_leads, way_shown}
use Rattle.demands.proofs.Demands.{demand_2, demand_3}
use Rattle.standing.specs.Standing.{Standing, stands, searched}
use Rattle.standing.specs.Leaves.{Leaves}
use Rattle.standing.proofs.StandingLaws.{hunter_leaves, target_leaves, change_leaves, search_leaves}
use Rattle.std.specs.Prelude.{Option, Some, None, Result, Ok, Err}
use Rattle.refusal.specs.declared.Refusal.{Refusal}
use Rattle.drill_file.specs.declared.Action.{Action}
use Rattle.drill_file.specs.declared.Action.TheVariants.{Change, Hunter, Target, Search}
use Rattle.drill_file.specs.File.{action_at, actions_from}
use Rattle.text.specs.Put.{Put}
use Rattle.text.proofs.PutLaws.{put_nothing, put_then, put_as, put_end}
use Rattle.lines.specs.Lines.{refused_line, line, room}
use Rattle.drill.specs.Numbers.{move_number}
use Rattle.drill.specs.Play.{Turn, accepted, refused, turn, played, left_by, way_left}
use Rattle.drill.specs.Promises.{told, Ready, Turns, Plays}
use Rattle.drill.proofs.NumberLaws.{move_number_is}

-- ---- a reply to an action

-- The reply to an action that writes no cells leaves what the definition says, and its line is the definition's.
pub record Replied (a : Option Action) (s : Session) (t : Tables) (r : Reply) (t' : Tables) : Type 0 where
  pub sound : Sound r.session t'
  pub frame_is : frame r.session ≡ frame s
  pub is : turn (stands s t) a ≡ record { after = stands r.session t'; shown = []; line = told r.answer }

-- The action is played once the line of its reply is put.
pub turns_of : {a : Option Action} {s : Session} {t t' : Tables} {r : Reply} {way text text' : List ℕ} {used used' : ℕ} {x : Session} → Replied a s t r t'
    → x ≡ r.session → Put text used (told r.answer) used' text' → Turns a s t way text used x t' way text' used'
turns_of {a} {s} {t} {t'} {r} {way} R e p = record {
  sound = subst (λ y. Sound y t') (sym e) R.sound;
  frame_is = ap (λ y. frame y) e ∙ R.frame_is;
  after = ap (λ y. stands y t') e ∙ sym (ap (λ y. y.after) R.is);
  shown = sym (ap (λ (y : Turn). written y.shown way) R.is);
  line = put_as (sym (ap (λ y. y.line) R.is)) refl p;
}

-- The line of an answer by the number that it tells: none where it is done, that of the refusal else.
told_done_line : (a : Result Unit Refusal) → told_by a ≡ told_number 0 → told a ≡ []
told_done_line (Ok _) e = refl
told_done_line (Err r) e = let n : ◌≡◌ {A = Name} name_refusal name_done = ap (λ (x : Told). x.name) e in let z : ◌≡◌ {A = ℕ} 0 1 = cc in absurd (omega arith)

told_refused : (a : Result Unit Refusal) (n : ℕ) → n ≢ 0 → told_by a ≡ told_number n → told a ≡ refused_line n
told_refused a zero h e = absurd (h refl)
told_refused (Ok _) (suc n) h e = let n : ◌≡◌ {A = Name} name_done name_refusal = ap (λ (x : Told). x.name) e in let z : ◌≡◌ {A = ℕ} 0 1 = cc in absurd (omega arith)
told_refused (Err r) (suc n) h e = ap refused_line (ap (λ x. x.number) e)

-- What a call leaves by its number, and its line: where the definition refuses by the same number, they are the definition's.
replied : (a : Option Action) {s : Session} {t t' : Tables} {number : ℕ} {next : Standing} {r : Reply}
    → (number ≡ 0 → turn (stands s t) a ≡ accepted next) → (number ≢ 0 → turn (stands s t) a ≡ refused (stands s t) number)
    → told_by r.answer ≡ told_number number → Leaves s t number next r.session t' → Replied a s t r t'
replied a {s} {t} {t'} {number} {next} {r} done refuses e L = record { sound = L.sound; frame_is = L.frame_is; is = at (ℕ_discrete number 0) }
  where
    at : Dec (number ≡ 0) → turn (stands s t) a ≡ record { after = stands r.session t'; shown = []; line = told r.answer }
    at (yes z) =
        done z ∙ ap accepted (sym (L.done z))
        ∙ ap (λ y. record { after = stands r.session t'; shown = []; line = y }) (sym (told_done_line r.answer (subst (λ k. told_by r.answer ≡ told_number k) z e)))
    at (no n) =
        refuses n ∙ ap (λ S. refused S number) (sym (L.refused n))
        ∙ ap (λ y. record { after = stands r.session t'; shown = []; line = y }) (sym (told_refused r.answer number n e))

-- A cell that is refused is refused by 3.
placed_three : {P : Type 0} {k : ℕ} → Ruled P 3 Passed k → k ≢ 0 → (k ≡ 3) × (P → ⊥)
placed_three (fails a) n = (refl, a)
placed_three (holds p r) n = absurd (n (passed_zero r))

-- Placing a cell.
placed_replied : (a : Option Action) {s placed : Session} {t : Tables} {cell : ℕ} {next : Standing} {r : Reply}
    → turn (stands s t) a ≡ choose (dec_lt cell (cells s)) (accepted next) (refused (stands s t) 3)
    → Sound s t → (P : Places s placed cell r) → Leaves s t P.number next r.session t → Replied a s t r t
placed_replied a {s} {t = t} {cell = cell} e S P =
    replied a (λ z. e ∙ choose_yes (dec_lt cell (cells s)) _ _ (place_granted s P.rules z).1)
    (λ n. let q = placed_three (onward S.plan.size P.rules) n in e ∙ choose_no (dec_lt cell (cells s)) _ _ q.1 ∙ ap (refused (stands s t)) (sym q.0)) P.answer

pub hunter_replied : {s : Session} {t : Tables} {cell : ℕ} {r : Reply} → Sound s t → Places s (hunter_at s cell) cell r → Replied (Some (Hunter cell)) s t r t
unfolding turn
hunter_replied {cell = cell} S P = placed_replied (Some (Hunter cell)) refl S P (hunter_leaves S P)

pub target_replied : {s : Session} {t : Tables} {cell : ℕ} {r : Reply} → Sound s t → Places s (target_at s cell) cell r → Replied (Some (Target cell)) s t r t
unfolding turn
target_replied {cell = cell} S P = placed_replied (Some (Target cell)) refl S P (target_leaves S P)

-- Changing a move.
pub change_replied : {s : Session} {t t' : Tables} {u d cost : ℕ} {r : Reply} → Sound s t → Changes s t u d cost r t' → Replied (Some (Change u d cost)) s t r t'
unfolding turn
change_replied {s} {t} {u = u} {d} {cost} S P =
    replied (Some (Change u d cost)) (λ z. choose_yes test _ _ (sym n_is ∙ z)) (λ n. choose_no test _ _ (λ e. n (n_is ∙ e)) ∙ ap (refused (stands s t)) (sym n_is)) P.answer (change_leaves S P)
  where
    n_is : P.number ≡ move_number (floor s t.plan) u d cost
    n_is = move_number_is s t.plan (onward S (onward (sound_fits S) (onward S.plan.size P.rules)))

    test : Dec (move_number (floor s t.plan) u d cost ≡ 0)
    test = ℕ_discrete (move_number (floor s t.plan) u d cost) 0

-- ---- a search

module _ {s : Session} {t t' : Tables} {way way' : List ℕ} {r : Outcome} (S : Sound s t) (long : cells s ≤ length way) (D : Searched s t way r t' way') where
  searches : Searches s t way r t' way'
  searches = record { number = 0; rules = sound_rules S (holds long passed); refused = λ n. absurd (n refl); done = λ _. D }

  -- It shows no more cells than the plan has.
  pub shown_few : count_of r.answer ≤ cells s
  shown_few = omega (arith, at (demand_2 S way long searches).answer, count_told r.answer way')
    where
      at : {x : Told} {w : List ℕ} → RightlyAnswered s t way x w → x.count ≤ cells s
      at (caught e) = omega (arith, S.numbers.hunter_in)
      at (none_leads n f) = omega arith
      at (way_shown n c l) = l

  -- The line that it prints is the definition's.
  line_is : (a : method_session.Answer) → line (answer_of a) (take (count_of (answer_of a)) (written (cells_of a) way)) ≡ line (answer_of a) (cells_of a)
  line_is (method_session.caught x) = refl
  line_is (method_session.none_leads n) = refl
  line_is (method_session.way c n l) = ap (λ k. line (answer_of (method_session.way c n l)) k) (take-append_seam l (drop (length l) way))
  line_is method_session.cut_off = refl

  -- What it leaves, the cells that it writes, and its line, are the definition's.
  pub search_is : turn (stands s t) (Some Search) ≡ record { after = stands r.session t'; shown = cells_of (outcome s t).answer; line = line r.answer (take (count_of r.answer) way') }
  unfolding turn searches
  search_is = sym (ap (λ y. with_line y printed) ((search_leaves S searches).done refl) ∙ ap (with_line (searched (stands s t))) printed_is)
    where
      with_line : Standing → List ℕ → Turn
      with_line S l = record { after = S; shown = cells_of (outcome s t).answer; line = l }

      printed : List ℕ
      printed = line r.answer (take (count_of r.answer) way')

      printed_is : printed ≡ line (answer_of (outcome s t).answer) (cells_of (outcome s t).answer)
      printed_is =
          ap (λ (a : Result search_answer.Answer Refusal). line a (take (count_of a) way')) (searched_answer D)
          ∙ ap (λ w. line (answer_of (outcome s t).answer) (take (count_of (answer_of (outcome s t).answer)) w)) D.shown ∙ line_is (outcome s t).answer

  pub search_turns : {text text' : List ℕ} {used end : ℕ} → Put text used (line r.answer (take (count_of r.answer) way')) end text'
      → Turns (Some Search) s t way text used r.session t' way' text' end
  search_turns p = record {
    sound = (demand_3 S way long searches).sound_again;
    frame_is = D.frame_is;
    after = sym (ap (λ (x : Turn). x.after) search_is);
    shown = D.shown ∙ sym (ap (λ (x : Turn). written x.shown way) search_is);
    line = put_as (sym (ap (λ (x : Turn). x.line) search_is)) refl p;
  }

-- ---- a badly formed action, which no file that is played has

bad_turns : {s : Session} {t : Tables} {way text : List ℕ} {used : ℕ} → Sound s t → Turns None s t way text used s t way text used
unfolding turn
bad_turns S = record { sound = S; frame_is = refl; after = refl; shown = refl; line = put_nothing _ _ }

-- ---- the action at a place

-- What was played is the action that was read.
pub turns_at : {o : Option Action} {x a : Action} {s : Session} {t t' : Tables} {way way' text text' : List ℕ} {used used' : ℕ} {r : Session} → o ≡ Some x → x ≡ a
    → Turns (Some a) s t way text used r t' way' text' used' → Turns o s t way text used r t' way' text' used'
turns_at {s = s} {t} {t'} {way} {way'} {text} {text'} {used} {used'} {r} e f T = subst (λ y. Turns y s t way text used r t' way' text' used') (sym (e ∙ ap Some f)) T

-- Where none is read, nothing is played.
pub no_turn : {o : Option Action} {s : Session} {t : Tables} {way text : List ℕ} {used : ℕ} → ((x : Action) → o ≡ Some x → ⊥) → Sound s t → Turns o s t way text used s t way text used
no_turn {o = None} n S = bad_turns S
no_turn {o = Some x} n S = absurd (n x refl)

-- ---- the definitions of actions one after the other

-- Some actions, and then those after them.
pub actions_more : (file : List ℕ) (at n m : ℕ) → actions_from file at (n + m) ≡ actions_from file at n ++ actions_from file (at + 5 * n) m
unfolding actions_from
actions_more file at zero m = let e : zero + m ≡ m = omega arith in let f : at + 5 * zero ≡ at = omega arith in rw (e, f)
actions_more file at (suc n) m =
    let e : suc n + m ≡ suc (n + m) = omega arith in
    let f : at + 5 + 5 * n ≡ at + 5 * suc n = omega arith in
    ap (actions_from file at) e ∙ ap (λ (l : List (Option Action)). action_at file at ∷ l) (actions_more file (at + 5) n m ∙ ap (λ k. actions_from file (at + 5) n ++ actions_from file k m) f)

-- What they print, what they leave, and what they leave in the way list.
pub played_more : (S : Standing) (l m : List (Option Action)) → played S (l ++ m) ≡ played S l ++ played (left_by S l) m
unfolding played left_by
played_more S [] m = refl
played_more S (a ∷ l) m = ap (λ (x : List ℕ). (turn S a).line ++ x) (played_more (turn S a).after l m) ∙ sym (append_assoc (turn S a).line (played (turn S a).after l) _)

left_more : (S : Standing) (l m : List (Option Action)) → left_by S (l ++ m) ≡ left_by (left_by S l) m
unfolding left_by
left_more S [] m = refl
left_more S (a ∷ l) m = left_more (turn S a).after l m

way_more : (S : Standing) (l m : List (Option Action)) (way : List ℕ) → way_left S (l ++ m) way ≡ way_left (left_by S l) m (way_left S l way)
unfolding left_by way_left
way_more S [] m way = refl
way_more S (a ∷ l) m way = way_more (turn S a).after l m (written (turn S a).shown way)

-- ---- the actions one after the other

-- So far the first `done` actions are played: record and tables, the way list and the text are what the definitions give for them.
pub record Going (file : List ℕ) (s : Session) (t : Tables) (way₀ : List ℕ) (start actions : ℕ) (text₀ : List ℕ) (now : Session) (t' : Tables) (way text : List ℕ) (at left used : ℕ) : Type 0 where
  pub done : ℕ
  pub all : actions ≡ done + left
  pub place : at ≡ start + 5 * done
  pub sound : Sound now t'
  pub frame_is : frame now ≡ frame s
  pub after : stands now t' ≡ left_by (stands s t) (actions_from file start done)
  pub shown : way ≡ way_left (stands s t) (actions_from file start done) way₀
  pub lines : Put text₀ 0 (played (stands s t) (actions_from file start done)) used text

pub going_start : {file : List ℕ} {s : Session} {t : Tables} {way : List ℕ} {start actions : ℕ} {text : List ℕ} → Sound s t → Going file s t way start actions text s t way text start actions 0
unfolding actions_from played left_by way_left
going_start S = record { done = 0; all = omega arith; place = omega arith; sound = S; frame_is = refl; after = refl; shown = refl; lines = put_nothing _ _ }

module _ {file : List ℕ} {s : Session} {t : Tables} {way₀ : List ℕ} {start actions : ℕ} {text₀ : List ℕ} {now : Session} {t' : Tables} {way text : List ℕ} {at left used : ℕ}
    (G : Going file s t way₀ start actions text₀ now t' way text at left used) where
  -- The size stays as it was.
  pub going_cells : cells now ≡ cells s
  going_cells = ap (λ f. f.height * f.width) G.frame_is

  -- What is used of the text is in it.
  pub going_put : used ≤ length text₀
  going_put = omega (arith, put_end G.lines (omega arith), G.lines.long)

  -- The next action can be played where the text has room for the longest line.
  pub going_ready : cells s ≤ length way → used + room (cells s) ≤ length text → Ready now t' way text used
  going_ready l m = record { sound = G.sound; way_room = omega (arith, l, going_cells); text_room = omega (arith, m, going_cells) }

  -- One more action is played.
  pub going_more : {t'' : Tables} {way' text' : List ℕ} {used' : ℕ} {r : Session} → 0 < left → Turns (action_at file at) now t' way text used r t'' way' text' used'
      → Going file s t way₀ start actions text₀ r t'' way' text' (at + 5) (left - 1) used'
  unfolding actions_from played left_by way_left
  going_more {t''} {way'} {text'} l T = record {
    done = G.done + 1;
    all = omega (arith, G.all);
    place = omega (arith, G.place);
    sound = T.sound;
    frame_is = T.frame_is ∙ G.frame_is;
    after = T.after ∙ ap (λ (x : Turn). x.after) turn_is ∙ sym (ap (left_by S) next ∙ left_more S before (a ∷ []));
    shown =
        T.shown ∙ ap (λ (x : Turn). written x.shown way) turn_is ∙ ap (written (turn (left_by S before) a).shown) G.shown
        ∙ sym (ap (λ x. way_left S x way₀) next ∙ way_more S before (a ∷ []) way₀);
    lines =
        put_as (ap (λ (x : Turn). played S before ++ x.line) turn_is ∙ sym printed) refl (put_then G.lines T.line);
  }
    where
      S : Standing
      S = stands s t

      before : List (Option Action)
      before = actions_from file start G.done

      a : Option Action
      a = action_at file (start + 5 * G.done)

      next : actions_from file start (G.done + 1) ≡ before ++ (a ∷ [])
      next = actions_more file start G.done 1

      turn_is : turn (stands now t') (action_at file at) ≡ turn (left_by S before) a
      turn_is = ap (λ x. turn x (action_at file at)) G.after ∙ ap (λ k. turn (left_by S before) (action_at file k)) G.place

      printed : played S (actions_from file start (G.done + 1)) ≡ played S before ++ (turn (left_by S before) a).line
      printed = ap (played S) next ∙ played_more S before (a ∷ []) ∙ ap (λ (x : List ℕ). played S before ++ x) (append-nil (turn (left_by S before) a).line)

  -- Where no action is played, nothing is used of the text.
  none_used : G.done ≡ 0 → used ≡ 0
  unfolding actions_from played
  none_used z = G.lines.end ∙ ap (λ k. 0 + length (played (stands s t) (actions_from file start k))) z

  -- Playing stops: none is left over, or the text has no room for another line.
  pub going_stops : (left ≡ 0) ⊎ (length text₀ < used + room (cells s)) → Plays file s t way₀ start actions text₀ (record { session = now; at = at; left = left }) t' way text used
  going_stops e = record {
    done = G.done;
    all = G.all;
    place = G.place;
    sound = G.sound;
    frame_is = G.frame_is;
    after = G.after;
    shown = G.shown;
    lines = G.lines;
    stops = e;
    goes_on = λ a b. at_least a b (ℕ_discrete G.done 0);
  }
    where
      at_least : room (cells s) ≤ length text₀ → 0 < actions → Dec (G.done ≡ 0) → 0 < G.done
      at_least a b (no n) = omega (arith, n)
      at_least a b (yes z) = absurd (⊎_elim (λ y. omega (arith, y, z, b, G.all)) (λ y. omega (arith, y, a, none_used z)) e)

-- Whether an action is left over and the text has room for the longest line, once one is left over.
pub room_decided : (n left used bytes : ℕ) → (left ≡ 0 → ⊥) → used ≤ bytes → Decides (leb (64 + 6 * n) (bytes - used)) ((0 < left) × (used + room n ≤ bytes))
room_decided n left used bytes l m = decides_le (64 + 6 * n) (bytes - used) (λ h. (omega (arith, l), omega (arith, h, m))) (λ h. omega (arith, h.1))

-- Where not both hold, none is left over, or the text has no room.
pub room_over : (n left used bytes : ℕ) → ((0 < left) × (used + room n ≤ bytes) → ⊥) → (left ≡ 0) ⊎ (bytes < used + room n)
room_over n left used bytes none = at (ℕ_discrete left 0) (dec_lt bytes (used + room n))
  where
    at : Dec (left ≡ 0) → Dec (bytes < used + room n) → (left ≡ 0) ⊎ (bytes < used + room n)
    at (yes e) d = inl e
    at (no n) (yes l) = inr l
    at (no n) (no m) = absurd (none (omega (arith, n), omega (arith, m)))
