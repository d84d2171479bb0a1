-- Texts put one behind the other.
use mathlib.Core.Path.{◌≡◌, refl, sym, ap, subst, ◌∙◌}
use mathlib.Core.List.{List, [], ◌∷◌, ◌++◌, append_assoc, append-nil}
use Prim.Native.Nat.{ℕ, ◌+◌, ◌-◌, ◌/◌, ◌%◌, ◌≤◌, ◌<◌}
use native.Mathlib.Omega.{arith}
use native.Mathlib.Numerals.{add-one}
use lib.ListN.{length, take, drop, set, length-append, length-take, length-drop, length-set}
use lib.Seq.{take-suc-set, length-take-le, drop-set-lt, drop-drop}
use borrow.Rule.Slice.PartMut.{put_mid, same_len_mid}
use Rattle.std.proofs.lemmas.Slice.{take-put_mid, drop-put_mid}
use Rattle.text.specs.Text.{decimal}
use Rattle.text.specs.Put.{Put}
use Rattle.text.proofs.DecimalLaws.{decimal_tens}

-- Nothing is put by leaving the buffer as it is.
pub put_nothing : (b : List ℕ) (at : ℕ) → Put b at [] at b
put_nothing b at = record { end = omega arith; stands = sym (append-nil (take at b)); behind = refl; long = refl }

-- A byte stored at the place is put there.
pub put_byte : (b : List ℕ) (at x : ℕ) → at < length b → Put b at (x ∷ []) (at + 1) (set b at x)
put_byte b at x l = record { end = refl; stands = rw add-one (take-suc-set b at x l); behind = drop-set-lt (at + 1) b at x (omega arith); long = length-set b at x }

-- A word that takes the place of as many bytes is put there.
pub put_part : (b w : List ℕ) {ys : List ℕ} (at k : ℕ) → ys ≡ w → k ≡ length w → at + length w ≤ length b → Put b at w (at + length w) (put_mid at k b ys)
put_part b w {ys} at k e n l =
    let long : length ys ≡ length w = ap length e in
    record {
      end = refl;
      stands = take-put_mid at k b ys _ (omega arith) (omega arith) ∙ ap (λ (x : List ℕ). take at b ++ x) e;
      behind = drop-put_mid at k b ys _ (omega arith) (omega arith) (omega arith);
      long = same_len_mid at k b ys (omega (arith, length-take-le k (drop at b) (omega (arith, length-drop at b))));
    }

-- What is the same from a place on is the same from any later place on.
later : (b a : List ℕ) (r q : ℕ) → r ≤ q → drop r a ≡ drop r b → drop q a ≡ drop q b
later b a r q l e =
    let n : r + (q - r) ≡ q = omega arith in
    subst (λ k. drop k a ≡ drop k b) n (sym (drop-drop (q - r) r a) ∙ ap (drop (q - r)) e ∙ drop-drop (q - r) r b)

-- A text put behind another: both are put, one after the other.
pub put_then : {b m a x y : List ℕ} {at r q : ℕ} → Put b at x r m → Put m r y q a → Put b at (x ++ y) q a
put_then {b} {m} {a} {x} {y} {at} {r} {q} p s = record {
  end = omega (arith, p.end, s.end, length-append x y);
  stands = s.stands ∙ ap (λ (l : List ℕ). l ++ y) p.stands ∙ append_assoc (take at b) x y;
  behind = s.behind ∙ later b m r q (omega (arith, s.end)) p.behind;
  long = s.long ∙ p.long;
}

-- The place behind a text that was put is in the buffer.
pub put_end : {b a x : List ℕ} {at r : ℕ} → Put b at x r a → at ≤ length b → r ≤ length a
put_end {b} {a} {x} {at} {r} p l = omega (arith, p.end, ap length p.stands, length-append (take at b) x, length-take-le at b l, length-take r a)

-- The same text and the same end, written otherwise.
pub put_as : {b a x y : List ℕ} {at r q : ℕ} → x ≡ y → r ≡ q → Put b at x r a → Put b at y q a
put_as e f p = rw (← e, ← f) p

-- The last digit of a number of 64 bits put behind its tens.
pub put_last_digit : {b m a : List ℕ} {at r q : ℕ} (n : ℕ) → 10 ≤ n → n < 18446744073709551616 → Put b at (decimal (n / 10)) r m → Put m r ((48 + n % 10) ∷ []) q a → Put b at (decimal n) q a
put_last_digit n l f p s = put_as (decimal_tens n l f) refl (put_then p s)
