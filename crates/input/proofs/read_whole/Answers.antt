-- What a read puts behind the bytes read before is what it took from the reader.
use Rattle.std.proofs.Common.{◌≡◌, ℕ, ◌+◌, ◌≤◌, List, ◌++◌, rules, length, take, sym, ap, ◌∙◌, subst, le_refl, drop_at, length-take-le}
use Rattle.std.proofs.lemmas.Slice.{take-put_mid_below}
use Rattle.std.specs.Io.KnownBytes.{Consumes}
use Rattle.std.proofs.KnownBytes.{Consumes-trans}
use borrow.Rule.Slice.PartMut.{put_mid, post_of}
use lib.Seq.{take-add, take-append-le}
use Rattle.input.proofs.read_whole.Goals as goal

-- The bytes up to a place in the buffer, and those that were put from there on.
read_behind : (a k n : ℕ) (xs ys : List ℕ) → a ≤ length xs → n ≤ length ys → take a xs ++ take n ys ≡ take (a + n) (put_mid a k xs ys)
read_behind a k n xs ys within fits =
    let front : take a (put_mid a k xs ys) ≡ take a xs = take-put_mid_below _ _ _ _ _ (le_refl _) within in
    let behind = ap (take n) (drop_at (take a xs) (ys ++ post_of a k xs) a (length-take-le a xs within)) ∙ take-append-le n ys (post_of a k xs) fits in
    ap (λ l. l ++ take n ys) (sym front) ∙ ap (λ l. take a (put_mid a k xs ys) ++ l) (sym behind) ∙ sym (take-add a n (put_mid a k xs ys))

pub loop-done-preserved : goal.loop-done-preserved
loop-done-preserved g c =
    let before = c.loop-done.invariant in
    record {
      within = search rules;
      long = search rules;
      bytes = subst (Consumes _ _) (read_behind _ _ _ _ _ before.within c.in_ok-more.ensures.bound.0) (Consumes-trans _ _ _ _ _ before.bytes c.in_ok-more.ensures.bytes.0);
    }
