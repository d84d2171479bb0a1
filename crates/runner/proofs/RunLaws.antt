-- A file begun and its first piece printed, and the parts of the tables that are lent.
use mathlib.Core.Path.{◌≡◌, refl, sym, ap, subst, ◌∙◌}
use mathlib.Core.Logic.{inl, inr, ⊎_elim}
use mathlib.Core.List.{List}
use Rattle.std.specs.Prelude.{Option, Some, option_map}
use Prim.Native.Nat.{ℕ, ◌+◌, ◌*◌, ◌-◌, ◌≤◌}
use native.Mathlib.Omega.{arith}
use lib.ListN.{length, take, drop}
use lib.Seq.{length-take-le}
use Rattle.plan.proofs.MoveLaws.{area}
use Rattle.tables.specs.Lent.{Tables, tables}
use Rattle.standing.specs.Standing.{stands}
use Rattle.drill_file.specs.declared.Trailer.{Trailer}
use Rattle.drill_file.specs.File.{trailer_in, cells_told, cells_in, actions_from}
use Rattle.drill_file.proofs.FileLaws.{cells_of, cells_few}
use Rattle.drill.specs.declared.Played.{Played}
use Rattle.drill.specs.Output.{output}
use Rattle.drill.specs.Promises.{Playing, Begins, Unprinted, NextPiece}
use Rattle.drill.proofs.PieceLaws.{from_start, all_printed, first_piece, first_printed, begun_long, begun_used, begun_playing}
use Rattle.printing.specs.Promises.{Piece, Moves, Printing, WrittenTo}
use Rattle.runner.specs.Own.{Own, Running, most_cells}

-- ---- the parts of the tables

-- The first elements of a table.
abbrev pub part : ℕ → List ℕ → List ℕ
part n l = take (n - 0) (drop 0 l)

part_long : (l : List ℕ) (n : ℕ) → n ≤ length l → length (part n l) ≡ n
part_long l n h = ap length (from_start n l) ∙ length-take-le n l h

-- A trailer tells no more cells than the tables have room for.
pub parts_room : (x : Trailer) {n : ℕ} → n ≡ cells_told x → n ≤ most_cells
parts_room x e = omega (arith, cells_few x)

-- What was read can be run on the parts that it asks for.
pub running : {plan g rhs parent k1 k2 place list way text : List ℕ} {input : List ℕ} {got : ℕ} {file : List ℕ} {count : Option ℕ} {x : Trailer} {n : ℕ} → got ≤ length input → file ≡ take got input
    → count ≡ Some 0 → Own (tables plan g rhs parent k1 k2 place list) way text → x ≡ trailer_in file → n ≡ cells_told x
    → Running input got file count
    (tables (part (4 * n) plan) (part n g) (part n rhs) (part n parent) (part n k1) (part n k2) (part n place) (part n list))
    way text
running {plan} {g} {rhs} {parent} {k1} {k2} {place} {list} {file = file} {x = x} {n = n} read is none O trailer told = record {
  read = read;
  part = is;
  unwritten = none;
  opening = record {
    fits = record {
      plan = part_long plan (4 * n) (omega (arith, l, O.plan_room)) ∙ ap (λ k. 4 * k) e;
      g = part_long g n (omega (arith, l, O.g_room)) ∙ e;
      rhs = part_long rhs n (omega (arith, l, O.rhs_room)) ∙ e;
      parent = part_long parent n (omega (arith, l, O.parent_room)) ∙ e;
      k1 = part_long k1 n (omega (arith, l, O.k1_room)) ∙ e;
      k2 = part_long k2 n (omega (arith, l, O.k2_room)) ∙ e;
      place = part_long place n (omega (arith, l, O.place_room)) ∙ e;
      list = part_long list n (omega (arith, l, O.list_room)) ∙ e;
    };
    text_room = omega (arith, O.text_room);
  };
  way_room = omega (arith, O.way_room);
  text_room = O.text_room;
}
  where
    l : n ≤ most_cells
    l = parts_room x told

    e : n ≡ cells_in file
    e = told ∙ cells_of _ trailer

-- ---- a file begun

module _ {input : List ℕ} {got : ℕ} {file : List ℕ} {count : Option ℕ} {t : Tables} {way text : List ℕ} {r : Played} {t' : Tables} {text' : List ℕ} {used : ℕ}
    (R : Running input got file count t way text) (B : Begins file t text r t' text' used) where
  -- What begin leaves in the text is the first piece of the output of what was read.
  pub first_read : Piece input got text' used count
  first_read = record {
    read = R.read;
    put = begun_used B;
    written = 0;
    counted = R.unwritten;
    next = subst (λ f. NextPiece f 0 (take used text')) R.part (first_piece B);
  }

  -- Once it is printed, or a write failed ..
  module _ {left : ℕ} {count' : Option ℕ} (M : Moves left r.left 0 used count count') where
    first_counted : count' ≡ option_map (λ written. written + used) count → count' ≡ Some (0 + used)
    first_counted e = e ∙ ap (option_map (λ written. written + used)) R.unwritten

    rest : Unprinted file (0 + used) (stands r.session t') (actions_from file r.at r.left)
    rest = first_printed B refl

    -- .. and nothing is left to play, all of the output is written;
    pub whole_written : left ≡ 0 → WrittenTo (length (output file)) count'
    whole_written none = ⊎_elim (λ m. inl (first_counted m.1 ∙ ap Some (all_printed r.at (sym m.0 ∙ none) rest))) (λ f. inr f.1) M

    -- .. else what is left can be played and printed.
    pub rest_printing : (left ≡ 0 → ⊥) → Printing input got file r.session t' way r.at left text' count'
    rest_printing some = ⊎_elim (λ m. subst (λ n. Printing input got file r.session t' way r.at n text' count') (sym m.0) (goes_on m.0 m.1)) (λ f. absurd (some f.0)) M
      where
        goes_on : left ≡ r.left → count' ≡ option_map (λ written. written + used) count → Printing input got file r.session t' way r.at r.left text' count'
        goes_on e moved = record {
          read = R.read;
          part = R.part;
          playing = can_play;
          text_room = omega (arith, R.text_room, begun_long B, area can_play.sound.plan.size);
          written = 0 + used;
          counted = first_counted moved;
          unprinted = rest;
        }
          where
            can_play : Playing file r.session t' way r.at r.left
            can_play = begun_playing B (omega (arith, e, some)) R.way_room
