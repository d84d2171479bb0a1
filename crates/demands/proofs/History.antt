-- Every history of public calls: sound tables at every point, right answers in few steps at every search, no number past its width. specs/History.antt says what this means.
use mathlib.Core.Path.{◌≡◌, sym, ap, subst, ◌∙◌}
use mathlib.Core.Logic.{◌≢◌}
use mathlib.Core.List.{List}
use Prim.Native.Nat.{ℕ, ◌+◌}
use native.Mathlib.Omega.{arith}
use native.Mathlib.Decide.{ℕ_discrete}
use Rattle.std.specs.Prelude.{Ok}
use Rattle.method.specs.Numbers.{growth}
use Rattle.method.specs.Graph.{GraphLaws}
use Rattle.method.specs.Session as calls
use Rattle.method.specs.Growth.{NumbersFit, FiniteUpTo, RaisesAtMost}
use Rattle.method.proofs.Growth.{up_to_more}
use Rattle.method.proofs.Theorems as method
use Rattle.tables.specs.declared.Session.{Session}
use Rattle.tables.specs.Lent.{Tables, frame, cells, graph, session, core}
use Rattle.tables.specs.Sound.{Sound}
use Rattle.tables.proofs.FrameLaws.{graph_in_laws}
use Rattle.session.specs.declared.Reply.{Reply}
use Rattle.session.specs.Promises.{Opens}
use Rattle.session.proofs.RefusalLaws.{answered}
use Rattle.session.proofs.Theorems.{open_answer, opened_sound, hunter_placed_sound, target_placed_sound}
use Rattle.change.proofs.Theorems.{change_keeps_sound}
use Rattle.search.specs.declared.Outcome.{Outcome}
use Rattle.search.specs.Promise.{Searches}
use Rattle.search.proofs.RefusalLaws.{search_granted}
use Rattle.demands.specs.History.{Call, places_hunter, places_target, changes_move, searches, opens_again, open_refused}
use Rattle.demands.specs.History.{History, opened, from_sound, and_then, now, before, PointOf, last, earlier, SearchOf, after_steps, EveryOrder}
use Rattle.demands.proofs.Demands.{demand_2, demand_3}

-- ---- sound tables

-- A search keeps sound tables sound, done or refused.
pub search_keeps_sound : {s : Session} {t t' : Tables} {way way' : List ℕ} {r : Outcome} → Sound s t → Searches s t way r t' way' → Sound r.session t'
search_keeps_sound {s} {t} {t'} {way} {way'} {r} S P = at (ℕ_discrete P.number 0)
  where
    at : Dec (P.number ≡ 0) → Sound r.session t'
    at (yes z) = (demand_3 S way (search_granted way P.rules z).1 P).sound_again
    at (no n) = let q = P.refused n in subst (λ x. Sound x t') (sym q.1) (subst (λ x. Sound s x) (sym q.2) S)

-- An open that is refused keeps the tables.
open_keeps : {width height hunter target : ℕ} {t t' : Tables} {r : Reply} → Opens width height hunter target t r t' → r.answer ≢ Ok tt → t' ≡ t
open_keeps P n = (P.refused (λ z. n (open_answer P ∙ ap answered z))).1

-- So does every call ..
pub call_keeps_sound : {s s' : Session} {t t' : Tables} → Sound s t → Call s t s' t' → Sound s' t'
call_keeps_sound S (places_hunter P) = hunter_placed_sound S P
call_keeps_sound S (places_target P) = target_placed_sound S P
call_keeps_sound S (changes_move P) = change_keeps_sound S P
call_keeps_sound S (searches P) = search_keeps_sound S P
call_keeps_sound S (opens_again P e) = opened_sound P e
call_keeps_sound {s} S (open_refused P n) = subst (λ x. Sound s x) (sym (open_keeps P n)) S

-- .. and every history.
pub history_sound : {s : Session} {t : Tables} → History s t → Sound s t
history_sound (opened P e) = opened_sound P e
history_sound (from_sound S) = S
history_sound (and_then h c) = call_keeps_sound (history_sound h) c

-- The history up to a point of it is a history.
up_to : {s₁ : Session} {t₁ : Tables} {s : Session} {t : Tables} {h : History s t} → PointOf h s₁ t₁ → History s₁ t₁
up_to {h = h} now = h
up_to (before p) = up_to p

-- A search of it starts at a point of it ..
point_of : {s₁ : Session} {t₁ t₂ : Tables} {way way₂ : List ℕ} {r : Outcome} {s : Session} {t : Tables} {h : History s t} → SearchOf h s₁ t₁ way r t₂ way₂ → PointOf h s₁ t₁
point_of (last P) = before now
point_of (earlier x) = before (point_of x)

-- .. and is what a search promises.
promise_of : {s₁ : Session} {t₁ t₂ : Tables} {way way₂ : List ℕ} {r : Outcome} {s : Session} {t : Tables} {h : History s t} → SearchOf h s₁ t₁ way r t₂ way₂ → Searches s₁ t₁ way r t₂ way₂
promise_of (last P) = P
promise_of (earlier x) = promise_of x

-- ---- numbers

-- The plan of sound tables is a graph of the method.
laws_of : {s : Session} {t : Tables} → Sound s t → GraphLaws (graph s t)
laws_of {s} {t} S = graph_in_laws (frame s) t.plan S.plan.size

-- A search raises the greatest finite number by at most 1,024,250, for any record and tables: those that are not sound are refused and stay.
pub raises_at_most : {s : Session} {t t' : Tables} (way : List ℕ) {way' : List ℕ} {r : Outcome} → Searches s t way r t' way' → RaisesAtMost (cells s) (core t) (core t')
raises_at_most {s} {t} {t'} way P most F = at (ℕ_discrete P.number 0)
  where
    at : Dec (P.number ≡ 0) → FiniteUpTo (cells s) (most + growth) (core t')
    at (yes z) =
        let S = (search_granted way P.rules z).0 in
        subst (λ T. FiniteUpTo (cells s) (most + growth) T) (sym (P.done z).tables_are) (method.raises_at_most (laws_of S) S.numbers most F)
    at (no n) = subst (λ (x : Tables). FiniteUpTo (cells s) (most + growth) (core x)) (sym (P.refused n).2) (up_to_more (omega arith) F)

-- ---- every order

-- The numbers at a point of a history.
sound_fit : {s : Session} {t : Tables} → Sound s t → NumbersFit (graph s t) (session s) (core t)
sound_fit S = method.sound_numbers_fit (laws_of S) S.numbers

-- After any number of steps of a search from there.
steps_fit : {s : Session} {t : Tables} → Sound s t → (n : ℕ) → NumbersFit (graph s t) (calls.counted (calls.taken_over (graph s t) (session s) (core t)).session) (after_steps s t n)
steps_fit S n = method.sound_numbers_fit (laws_of S) (method.every_step_sound (laws_of S) S.numbers n)

-- The letter's "every order of door changes and moves between two searches".
pub every_order : {s : Session} {t : Tables} (h : History s t) → EveryOrder h
every_order h = record {
  sound = λ p. history_sound (up_to p);
  numbers = λ p. sound_fit (history_sound (up_to p));
  right = λ {s₁} {t₁} {t₂} {way} x room. demand_2 (history_sound (up_to (point_of x))) way room (promise_of x);
  few = λ {s₁} {t₁} {t₂} {way} x room. demand_3 (history_sound (up_to (point_of x))) way room (promise_of x);
  raises = λ {s₁} {t₁} {t₂} {way} x. raises_at_most way (promise_of x);
  between = λ x n. steps_fit (history_sound (up_to (point_of x))) n;
}
