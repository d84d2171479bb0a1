-- What begin and play leave in the text, one piece behind the other, is the output of the file.
use mathlib.Core.Path.{◌≡◌, sym, ap, subst, ◌∙◌}
use mathlib.Core.List.{List, ◌++◌, append-nil}
use Prim.Native.Nat.{ℕ, ◌+◌, ◌*◌, ◌-◌, ◌≤◌, ◌<◌}
use native.Mathlib.Omega.{arith}
use native.Mathlib.Decide.{ℕ_discrete}
use lib.ListN.{length, take, drop, length-take, length-drop, length-append}
use lib.Seq.{drop-drop, drop_at}
use Rattle.decide.proofs.ChooseLaws.{choose_yes}
use Rattle.plan.proofs.MoveLaws.{area}
use Rattle.tables.specs.declared.Session.{Session}
use Rattle.tables.specs.Lent.{Tables, cells}
use Rattle.std.specs.Prelude.{Option}
use Rattle.drill_file.specs.declared.Action.{Action}
use Rattle.drill_file.specs.File.{actions_from, actions_of}
use Rattle.drill_file.specs.Numbers.{file_number}
use Rattle.drill_file.proofs.NumberLaws.{formed, file_formed}
use Rattle.text.specs.Put.{Put}
use Rattle.lines.specs.Lines.{refused_line, room}
use Rattle.drill.specs.declared.Played.{Played}
use Rattle.standing.specs.Standing.{Standing, stands}
use Rattle.drill.specs.Play.{played, left_by}
use Rattle.drill.specs.Output.{begun, output}
use Rattle.drill.specs.Promises.{Playing, Plays, Begins, Unprinted, NextPiece}
use Rattle.drill.proofs.NumberLaws.{refused_prints}
use Rattle.drill.proofs.PlayLaws.{actions_more, played_more}

-- ---- a piece

-- The part of a list from its start on.
pub from_start : (n : ℕ) (l : List ℕ) → take (n - 0) (drop 0 l) ≡ take n l
from_start n l = let e : n - 0 ≡ n = omega arith in ap (λ k. take k l) e

-- A text put at the front is the first bytes of the buffer.
front : {b a x : List ℕ} {r : ℕ} → Put b 0 x r a → length (take r a) ≡ r
front p = omega (arith, ap length p.stands, p.end)

-- A piece is printed: the rest is still to be.
taken_off : (out : List ℕ) (printed used : ℕ) (piece : List ℕ) {more : List ℕ} → printed ≤ length out → drop printed out ≡ piece ++ more → length piece ≡ used
    → (printed + used ≤ length out) × (drop (printed + used) out ≡ more)
taken_off out printed used piece {more} l e f = (
  omega (arith, ap length e, length-drop printed out, length-append piece more),
  sym (drop-drop used printed out) ∙ ap (drop used) e ∙ drop_at piece more used f,
)

-- No actions are left over: all is printed.
pub all_printed : {file : List ℕ} {printed : ℕ} {S : Standing} (at : ℕ) {left : ℕ} → left ≡ 0 → Unprinted file printed S (actions_from file at left) → printed ≡ length (output file)
unfolding actions_from played
all_printed {file} {printed} {S} at e U =
    omega (arith, U.within, length-drop printed (output file), ap length U.rest ∙ ap (λ k. length (played S (actions_from file at k))) e)

-- ---- actions played

module _ {file : List ℕ} {s : Session} {t : Tables} {way : List ℕ} {at left : ℕ} {text : List ℕ} {r : Played} {t' : Tables} {way' text' : List ℕ} {used : ℕ}
    (P : Plays file s t way at left text r t' way' text' used) where
  -- What stands in the text, and then what the actions left over print, is what all of them print.
  pub prints : played (stands s t) (actions_from file at left) ≡ take used text' ++ played (stands r.session t') (actions_from file r.at r.left)
  prints =
      ap (λ k. played S (actions_from file at k)) P.all ∙ ap (played S) (actions_more file at P.done r.left) ∙ played_more S before (actions_from file (at + 5 * P.done) r.left)
      ∙ ap (λ (x : List ℕ). x ++ played (left_by S before) (actions_from file (at + 5 * P.done) r.left)) (sym P.lines.stands)
      ∙ ap (λ x. take used text' ++ played x (actions_from file (at + 5 * P.done) r.left)) (sym P.after)
      ∙ ap (λ k. take used text' ++ played (stands r.session t') (actions_from file k r.left)) (sym P.place)
    where
      S : Standing
      S = stands s t

      before : List (Option Action)
      before = actions_from file at P.done

  -- The text is the next piece of the output ..
  pub next_piece : {printed : ℕ} → Unprinted file printed (stands s t) (actions_from file at left) → NextPiece file printed (take used text')
  next_piece U = record { within = U.within; rest = played (stands r.session t') (actions_from file r.at r.left); is = U.rest ∙ prints }

  -- .. and once it is printed, what is left over is still to be.
  pub next_printed : {printed bytes : ℕ} → Unprinted file printed (stands s t) (actions_from file at left) → bytes ≡ printed + used
      → Unprinted file bytes (stands r.session t') (actions_from file r.at r.left)
  next_printed {printed} U e =
      let h = taken_off (output file) printed used (take used text') U.within (U.rest ∙ prints) (front P.lines) in
      subst (λ k. Unprinted file k (stands r.session t') (actions_from file r.at r.left)) (sym e) (record { within = h.0; rest = h.1 })

  -- The size stays as it was.
  pub same_cells : cells r.session ≡ cells s
  same_cells = ap (λ f. f.height * f.width) P.frame_is

  -- The actions left over can be played, and there are fewer.
  pub rest_playing : length way' ≡ length way → Playing file s t way at left → Playing file r.session t' way' r.at r.left
  rest_playing e Q = record { sound = P.sound; way_room = omega (arith, e, Q.way_room, same_cells); in_file = omega (arith, P.place, P.all, Q.in_file) }

  pub rest_fewer : room (cells s) ≤ length text → 0 < left → r.left < left
  rest_fewer l m = omega (arith, P.goes_on l m, P.all)

-- ---- a file opened or refused

module _ {file : List ℕ} {t : Tables} {text : List ℕ} {r : Played} {t' : Tables} {text' : List ℕ} {used : ℕ} (B : Begins file t text r t' text' used) where
  -- The text is the whole of the output, or its first piece with what is left to play.
  pub begun_prints : output file ≡ take used text' ++ played (stands r.session t') (actions_from file r.at r.left)
  unfolding output actions_from played
  begun_prints = by_number (ℕ_discrete (file_number file) 0)
    where
      by_number : Dec (file_number file ≡ 0) → output file ≡ take used text' ++ played (stands r.session t') (actions_from file r.at r.left)
      by_number (yes z) =
          let O = B.opened z in
          choose_yes (ℕ_discrete (file_number file) 0) (played (begun file) (actions_of file)) (refused_line (file_number file)) z ∙ ap (λ x. played x (actions_of file)) (sym O.after)
          ∙ ap (λ k. take k text' ++ played (stands r.session t') (actions_of file)) (sym O.unused) ∙ cc (O.place, O.all_left)
      by_number (no n) =
          let R = (B.refused n).0 in
          refused_prints file n ∙ sym R.line.stands ∙ sym (append-nil (take used text'))
          ∙ ap (λ k. take used text' ++ played (stands r.session t') (actions_from file r.at k)) (sym R.none_left)

  -- The text keeps its length, and what is used of it is in it.
  pub begun_long : length text' ≡ length text
  begun_long = by_number (ℕ_discrete (file_number file) 0)
    where
      by_number : Dec (file_number file ≡ 0) → length text' ≡ length text
      by_number (yes z) = ap length (B.opened z).blank
      by_number (no n) = (B.refused n).0.line.long

  begun_front : length (take used text') ≡ used
  begun_front = by_number (ℕ_discrete (file_number file) 0)
    where
      by_number : Dec (file_number file ≡ 0) → length (take used text') ≡ used
      by_number (yes z) = ap (λ k. length (take k text')) (B.opened z).unused ∙ sym (B.opened z).unused
      by_number (no n) = front (B.refused n).0.line

  pub begun_used : used ≤ length text'
  begun_used = omega (arith, begun_front, length-take used text')

  pub first_piece : NextPiece file 0 (take used text')
  first_piece = record { within = omega arith; rest = played (stands r.session t') (actions_from file r.at r.left); is = begun_prints }

  pub first_printed : {bytes : ℕ} → bytes ≡ 0 + used → Unprinted file bytes (stands r.session t') (actions_from file r.at r.left)
  first_printed e =
      let h = taken_off (output file) 0 used (take used text') (omega arith) begun_prints begun_front in
      subst (λ k. Unprinted file k (stands r.session t') (actions_from file r.at r.left)) (sym e) (record { within = h.0; rest = h.1 })

  -- A file that has actions left to play was opened, and they can be played.
  pub begun_playing : {way : List ℕ} → 0 < r.left → 4096 ≤ length way → Playing file r.session t' way r.at r.left
  begun_playing {way} l m = by_number (ℕ_discrete (file_number file) 0)
    where
      by_number : Dec (file_number file ≡ 0) → Playing file r.session t' way r.at r.left
      by_number (yes z) =
          let O = B.opened z in
          let F = formed file (file_formed file z) in
          record { sound = O.sound; way_room = omega (arith, m, area O.sound.plan.size); in_file = omega (arith, F.whole, O.place, O.all_left) }
      by_number (no n) = absurd (omega (arith, (B.refused n).0.none_left))
