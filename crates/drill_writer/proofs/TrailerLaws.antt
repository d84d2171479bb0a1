-- A trailer is read back from its bytes, and its bytes are those that it was read from.
use mathlib.Core.Path.{◌≡◌, refl, ap, ◌∙◌}
use mathlib.Core.List.{List, ◌++◌}
use Prim.Native.Nat.{ℕ, ◌+◌, ◌-◌, ◌<◌}
use native.Mathlib.Nat.{add_assoc}
use native.Mathlib.Omega.{arith}
use lib.ListN.{length, get_or, drop, drop_of_length-le}
use Rattle.drill_file.specs.declared.Trailer.{Trailer}
use Rattle.drill_file.specs.File.{two, trailer_at, trailer_of}
use Rattle.drill_writer.specs.Drill.{trailer_bytes}
use Rattle.drill_writer.proofs.ByteLaws.{two_back, four_back, cut_byte, cut_two, cut_four}
use Rattle.drill_writer.proofs.PartLaws.{length_three, third, third_two}

-- Two trailers with equal fields.
pub same_trailer : {width width' height height' hunter hunter' target target' actions actions' offset offset' : ℕ}
    → width ≡ width' → height ≡ height' → hunter ≡ hunter' → target ≡ target' → actions ≡ actions' → offset ≡ offset'
    → ◌≡◌ {A = Trailer} (record { width = width; height = height; hunter = hunter; target = target; actions = actions; offset = offset })
    (record { width = width'; height = height'; hunter = hunter'; target = target'; actions = actions'; offset = offset' })
same_trailer a b c d e f = rw (a, b, c, d, e, f)

-- Each number of a trailer has room in its bytes.
pub record Small (t : Trailer) : Type 0 where
  pub hunter : t.hunter < 65536
  pub target : t.target < 65536
  pub actions : t.actions < 65536
  pub offset : t.offset < 4294967296

-- Behind two other parts, such a trailer is what is read as the trailer.
pub trailer_back : (a b : List ℕ) (t : Trailer) → Small t → trailer_of (a ++ b ++ trailer_bytes t) ≡ t
trailer_back a b t S = ap (trailer_at w) here ∙ same_trailer
    (ap (λ k. get_or w k 0) (omega arith) ∙ third a b c 0)
    (third a b c 1)
    (third_two a b c 2 ∙ two_back t.hunter S.hunter)
    (third_two a b c 4 ∙ two_back t.target S.target)
    (third_two a b c 6 ∙ two_back t.actions S.actions)
    (omega (arith, third_two a b c 8, ap (two w) (add_assoc (length a + length b) 8 2) ∙ third_two a b c 10, four_back t.offset S.offset))
  where
    c : List ℕ
    c = trailer_bytes t

    w : List ℕ
    w = a ++ b ++ c

    here : length w - 12 ≡ length a + length b
    here = omega (arith, length_three a b c)

-- The last 12 bytes of a file are those of the trailer that is read from them.
pub cut_trailer : (file : List ℕ) → ((i : ℕ) → get_or file i 0 < 256) → (at : ℕ) → at + 12 ≡ length file → drop at file ≡ trailer_bytes (trailer_at file at)
cut_trailer file octets at l =
    cut_byte file at (at + 1) refl (omega arith)
    (cut_byte file (at + 1) (at + 2) (omega arith) (omega arith)
    (cut_two file octets (at + 2) (at + 4) (omega arith) (omega arith)
    (cut_two file octets (at + 4) (at + 6) (omega arith) (omega arith)
    (cut_two file octets (at + 6) (at + 8) (omega arith) (omega arith)
    (cut_four file octets (at + 8) (at + 12) (omega arith) (omega arith)
    (drop_of_length-le file {i = at + 12} (omega arith)))))))
