-- The cells of a way: how they are written one by one, and how many bytes they take.
use mathlib.Core.Path.{◌≡◌, refl, sym, ap, subst, ◌∙◌}
use mathlib.Core.List.{List, [], ◌∷◌, ◌++◌, append_assoc, append-nil}
use Prim.Native.Nat.{ℕ, zero, suc, ◌+◌, ◌*◌, ◌≤◌, ◌<◌}
use native.Mathlib.Numerals.{add-one}
use native.Mathlib.Omega.{arith}
use lib.ListN.{length, take, get_or, length-append}
use lib.Seq.{take-suc}
use Rattle.std.proofs.Common.{take_all}
use Rattle.text.specs.Text.{bytes, decimal}
use Rattle.text.specs.Put.{Put}
use Rattle.text.proofs.DecimalLaws.{digits_few}
use Rattle.text.proofs.PutLaws.{put_then, put_as}
use Rattle.lines.specs.Lines.{spaced}

-- A cell, a number of 16 bits, has at most five digits.
pub cell_few : (n : ℕ) → n < 65536 → length (decimal n) ≤ 5
cell_few n l = digits_few 20 4 n (omega arith)

-- One cell more behind the others.
spaced_more : (l : List ℕ) (s : ℕ) → spaced l ++ (bytes " " ++ decimal s) ≡ spaced (l ++ (s ∷ []))
unfolding spaced
spaced_more [] s = sym (append-nil (bytes " " ++ decimal s))
spaced_more (x ∷ l) s = append_assoc (bytes " " ++ decimal x) (spaced l) (bytes " " ++ decimal s) ∙ ap (λ (y : List ℕ). bytes " " ++ decimal x ++ y) (spaced_more l s)

-- The first i cells of a list, then the next one.
cells_more : (way : List ℕ) (i : ℕ) → i < length way → spaced (take i way) ++ (bytes " " ++ decimal (get_or way i 0)) ≡ spaced (take (i + 1) way)
cells_more way i l = spaced_more (take i way) (get_or way i 0) ∙ ap spaced (sym (take-suc way i 0 l) ∙ ap (λ k. take k way) (sym (add-one i)))

-- The first k cells, of 16 bits each, take at most six bytes each.
pub cells_few : (way : List ℕ) (k : ℕ) → ((i : ℕ) → get_or way i 0 < 65536) → length (spaced (take k way)) ≤ 6 * k
unfolding spaced bytes
cells_few way zero small = omega arith
cells_few [] (suc k) small = omega arith
cells_few (s ∷ way) (suc k) small =
    omega (arith, length-append (bytes " " ++ decimal s) (spaced (take k way)), cell_few s (small 0), cells_few way k (λ i. small (suc i)))

-- So for all the cells of a list.
pub way_few : (way : List ℕ) → ((i : ℕ) → get_or way i 0 < 65536) → length (spaced way) ≤ 6 * length way
way_few way small = subst (λ (l : List ℕ). length (spaced l) ≤ 6 * length way) (take_all (length way) way (omega arith)) (cells_few way (length way) small)

-- A space and the next cell put behind the cells before it.
pub put_cell : {b m c a : List ℕ} {at r e q : ℕ} (way : List ℕ) (i : ℕ) → i < length way → Put b at (spaced (take i way)) r m → Put m r (bytes " ") e c → Put c e (decimal (get_or way i 0)) q a
    → Put b at (spaced (take (i + 1) way)) q a
put_cell way i l p s d = put_as (cells_more way i l) refl (put_then p (put_then s d))
