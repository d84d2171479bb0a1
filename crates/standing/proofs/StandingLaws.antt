-- Each public call's promise, over sound tables: it leaves what the definitions say (`Leaves`).
use mathlib.Core.Path.{◌≡◌, refl, ap, ◌∙◌}
use mathlib.Core.Logic.{◌≢◌}
use mathlib.Core.List.{List}
use Prim.Native.Nat.{ℕ}
use native.Mathlib.Decide.{ℕ_discrete}
use Rattle.tables.specs.declared.Session.{Session}
use Rattle.tables.specs.Lent.{Tables, frame, session, core}
use Rattle.tables.specs.Sound.{Sound}
use Rattle.session.specs.declared.Reply.{Reply}
use Rattle.session.specs.Promises.{hunter_at as hunter_placed_at, target_at as target_placed_at, Places}
use Rattle.session.proofs.Theorems.{hunter_placed_sound, target_placed_sound}
use Rattle.change.specs.Promise.{replanned, Changes}
use Rattle.change.proofs.Theorems.{change_keeps_sound}
use Rattle.search.specs.declared.Outcome.{Outcome}
use Rattle.search.specs.Promise.{outcome, Searches}
use Rattle.demands.proofs.History.{search_keeps_sound}
use Rattle.standing.specs.Standing.{standing, stands, changed, hunter_at, target_at, searched}
use Rattle.standing.specs.Leaves.{Leaves}

-- What is so refused or done is so.
by_number : {P : Type 0} (n : ℕ) → (n ≢ 0 → P) → (n ≡ 0 → P) → P
by_number {P} n f g = at (ℕ_discrete n 0)
  where
    at : Dec (n ≡ 0) → P
    at (yes z) = g z
    at (no m) = f m

-- Placing, which writes no table.
place_leaves : {s placed : Session} {t : Tables} {cell : ℕ} {r : Reply} → frame placed ≡ frame s → Sound r.session t → (P : Places s placed cell r)
    → Leaves s t P.number (stands placed t) r.session t
place_leaves {s} {t = t} {r = r} e S P = record {
  sound = S;
  frame_is = by_number P.number (λ n. ap (λ x. frame x) (P.refused n)) (λ z. ap (λ x. frame x) (P.done z) ∙ e);
  refused = λ n. ap (λ x. stands x t) (P.refused n);
  done = λ z. ap (λ x. stands x t) (P.done z);
}

pub hunter_leaves : {s : Session} {t : Tables} {cell : ℕ} {r : Reply} → Sound s t → (P : Places s (hunter_placed_at s cell) cell r)
    → Leaves s t P.number (hunter_at (stands s t) cell) r.session t
hunter_leaves S P = place_leaves refl (hunter_placed_sound S P) P

pub target_leaves : {s : Session} {t : Tables} {cell : ℕ} {r : Reply} → Sound s t → (P : Places s (target_placed_at s cell) cell r)
    → Leaves s t P.number (target_at (stands s t) cell) r.session t
target_leaves S P = place_leaves refl (target_placed_sound S P) P

-- The record and the tables as they came stand as they stood.
kept : {s r : Session} {t t' : Tables} → r ≡ s → t' ≡ t → stands r t' ≡ stands s t
kept {s} {t' = t'} e q = ap (λ x. stands x t') e ∙ ap (λ x. stands s x) q

-- Changing a move.
pub change_leaves : {s : Session} {t t' : Tables} {u d cost : ℕ} {r : Reply} → Sound s t → (P : Changes s t u d cost r t')
    → Leaves s t P.number (changed (stands s t) u d cost) r.session t'
change_leaves {s} {t} {t'} {u} {d} {cost} S P = record {
  sound = change_keeps_sound S P;
  frame_is = by_number P.number (λ n. ap (λ x. frame x) (P.refused n).0) (λ z. ap (λ x. frame x) (P.done z).0);
  refused = λ n. kept (P.refused n).0 (P.refused n).1;
  done = λ z.
      let p = P.done z in
      ap (λ x. stands x t') p.0 ∙ ap (λ x. standing (frame s) x (session s) (core t')) p.1.plan ∙ ap (standing (frame s) (replanned s t u d cost) (session s)) p.1.is;
}

-- Searching.
pub search_leaves : {s : Session} {t t' : Tables} {way way' : List ℕ} {r : Outcome} → Sound s t → (P : Searches s t way r t' way')
    → Leaves s t P.number (searched (stands s t)) r.session t'
search_leaves {s} {t} {t'} {r = r} S P = record {
  sound = search_keeps_sound S P;
  frame_is = by_number P.number (λ n. ap (λ x. frame x) (P.refused n).1) (λ z. (P.done z).frame_is);
  refused = λ n. kept (P.refused n).1 (P.refused n).2;
  done = λ z.
      let p = P.done z in
      ap (λ f. standing f t'.plan (session r.session) (core t')) p.frame_is ∙ ap (λ x. standing (frame s) x (session r.session) (core t')) p.plan
      ∙ ap (λ σ. standing (frame s) t.plan σ (core t')) p.record_is ∙ ap (standing (frame s) t.plan (outcome s t).session) p.tables_are;
}
