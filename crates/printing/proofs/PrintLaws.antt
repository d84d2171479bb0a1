-- How the count moves on; a piece played is the next of the output, and once it is printed what is left over can be played and printed in turn.
use mathlib.Core.Path.{◌≡◌, refl, sym, ap, subst, ◌∙◌}
use mathlib.Core.Logic.{◌⊎◌, inl, inr, ⊎_elim}
use Rattle.std.specs.Prelude.{Option, Some, None, option_map}
use mathlib.Core.List.{List}
use Prim.Native.Nat.{ℕ, ◌+◌, ◌<◌, ◌≤◌, ◌^◌}
use native.Mathlib.Omega.{arith}
use lib.ListN.{length, take}
use lib.Seq.{length-take-le}
use Rattle.tables.specs.declared.Session.{Session}
use Rattle.tables.specs.Lent.{Tables}
use Rattle.standing.specs.Standing.{stands}
use Rattle.drill_file.specs.File.{actions_from}
use Rattle.text.proofs.PutLaws.{put_end}
use Rattle.drill.specs.declared.Played.{Played}
use Rattle.drill.specs.Output.{output}
use Rattle.drill.specs.Promises.{Playing, Plays, Unprinted, NextPiece}
use Rattle.drill.proofs.PieceLaws.{all_printed, next_piece, next_printed, same_cells, rest_playing, rest_fewer}
use Rattle.drill.proofs.LengthLaws.{piece_counted}
use Rattle.printing.specs.Promises.{Piece, Moves, Printing, WrittenTo}

-- ---- the count

-- Where the count says how many bytes are written, those of the next piece can be added.
pub sum_fits : {input : List ℕ} {got : ℕ} {text : List ℕ} {used : ℕ} {count : Option ℕ} (P : Piece input got text used count) {written : ℕ} → count ≡ Some written → written + used < 2 ^ 64
sum_fits {text = text} {used = used} P e = omega (arith, ap number (sym e ∙ P.counted), piece_counted P.next, length-take-le used text P.put)
  where
    number : Option ℕ → ℕ
    number (Some n) = n
    number None = 0

-- No write has failed where a piece is the next: after one (a write that failed), no piece is the next.
pub none_after_failure : {input : List ℕ} {got : ℕ} {text : List ℕ} {used : ℕ} {count : Option ℕ} (P : Piece input got text used count) → count ≡ None → ⊥
none_after_failure P e = omega (arith, ap is (sym e ∙ P.counted))
  where
    is : Option ℕ → ℕ
    is (Some n) = 1
    is None = 0

-- ---- a drill, piece after piece

-- Before a turn: a write has failed and nothing is left to play, or what is left over can be played and printed.
abbrev pub SoFar : (input : List ℕ) (got : ℕ) (file : List ℕ) → Session → Tables → (way text : List ℕ) (at left : ℕ) (count : Option ℕ) → Type 0
SoFar input got file s t way text at left count = ((left ≡ 0) × (count ≡ None)) ⊎ Printing input got file s t way at left text count

module _ {input : List ℕ} {got : ℕ} {file : List ℕ} {s : Session} {t : Tables} {way text : List ℕ} {at left : ℕ} {count : Option ℕ} (F : SoFar input got file s t way text at left count) where
  -- The file and the place, known by other names.
  pub so_far_named : {file' : List ℕ} {at' : ℕ} → file' ≡ file → at' ≡ at → SoFar input got file' s t way text at' left count
  so_far_named {at' = at'} e p =
      subst (λ (f : List ℕ). SoFar input got f s t way text at' left count) (sym e)
      (subst (λ (k : ℕ). SoFar input got file s t way text k left count) (sym p) F)

  -- Actions are left over: no write has failed.
  pub goes_on : 0 < left → Printing input got file s t way at left text count
  goes_on l = ⊎_elim (λ (f : (left ≡ 0) × (count ≡ None)). absurd (omega (arith, l, f.0))) (λ (P : Printing input got file s t way at left text count). P) F

  -- None is left over: a write has failed, or all is printed.
  pub all_done : left ≡ 0 → WrittenTo (length (output file)) count
  all_done e = ⊎_elim (λ (f : (left ≡ 0) × (count ≡ None)). inr f.1) (λ (P : Printing input got file s t way at left text count). inl (P.counted ∙ ap Some (all_printed at e P.unprinted))) F

module _ {input : List ℕ} {got : ℕ} {file : List ℕ} {s : Session} {t : Tables} {way : List ℕ} {at left : ℕ} {text : List ℕ} {count : Option ℕ} {r : Played} {t' : Tables} {way' text' : List ℕ} {used : ℕ}
    (P : Printing input got file s t way at left text count) (Q : Plays file s t way at left text r t' way' text' used) (l : 0 < left) where
  fewer : r.left < left
  fewer = rest_fewer Q P.text_room l

  put : used ≤ length text'
  put = put_end Q.lines (omega arith)

  same : length text' ≡ length text
  same = Q.lines.long

  -- What stands in the text can be printed.
  pub piece : Piece input got text' used count
  piece = record {
    read = P.read;
    put = put;
    written = P.written;
    counted = P.counted;
    next = subst (λ (f : List ℕ). NextPiece f P.written (take used text')) P.part (next_piece Q P.unprinted);
  }

  module _ (n : ℕ) (count' : Option ℕ) (M : Moves n r.left 0 used count count') where
    -- It is printed, or a write failed: so far.
    pub next_so_far : length way' ≡ length way → SoFar input got file r.session t' way' text' r.at n count'
    next_so_far e = ⊎_elim (λ (m : (n ≡ r.left) × (count' ≡ option_map (λ written. written + used) count)). inr (onward m.0 m.1)) (λ (f : (n ≡ 0) × (count' ≡ None)). inl f) M
      where
        onward : n ≡ r.left → count' ≡ option_map (λ written. written + used) count → Printing input got file r.session t' way' r.at n text' count'
        onward same_left moved = record {
          read = P.read;
          part = P.part;
          playing = subst (λ (k : ℕ). Playing file r.session t' way' r.at k) (sym same_left) (rest_playing Q e P.playing);
          text_room = omega (arith, same_cells Q, P.text_room, same);
          written = P.written + used;
          counted = moved ∙ ap (option_map (λ written. written + used)) P.counted;
          unprinted = subst (λ (k : ℕ). Unprinted file (P.written + used) (stands r.session t') (actions_from file r.at k)) (sym same_left) (next_printed Q P.unprinted refl);
        }

    -- There is less left over.
    pub next_fewer : n < left
    next_fewer = ⊎_elim (λ (m : (n ≡ r.left) × (count' ≡ option_map (λ written. written + used) count)). omega (arith, m.0, fewer)) (λ (f : (n ≡ 0) × (count' ≡ None)). omega (arith, f.0, l)) M
