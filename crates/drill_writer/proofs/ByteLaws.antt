-- Numbers in two bytes and in four, and back; a file from a place on as the numbers that are read there.
use mathlib.Core.Path.{◌≡◌, refl, ap, ◌∙◌}
use mathlib.Core.List.{List, ◌∷◌, ◌++◌}
use Prim.Native.Nat.{ℕ, suc, ◌+◌, ◌*◌, ◌/◌, ◌%◌, ◌≤◌, ◌<◌}
use native.Mathlib.Omega.{arith}
use lib.ListN.{length, get_or, drop}
use lib.Seq.{drop-cons}
use Rattle.drill_file.specs.File.{two, four}
use Rattle.drill_writer.specs.Drill.{in_two, in_four}

-- A number of two bytes read from its bytes ..
pub two_back : (n : ℕ) → n < 65536 → n % 256 + 256 * (n / 256 % 256) ≡ n
two_back n l = omega arith

-- .. and one of four.
pub four_back : (n : ℕ) → n < 4294967296 → (n % 65536 % 256 + 256 * (n % 65536 / 256 % 256)) + 65536 * (n / 65536 % 256 + 256 * (n / 65536 / 256 % 256)) ≡ n
four_back n l = omega (arith, two_back (n % 65536) (omega arith), two_back (n / 65536) (omega arith))

-- The low and the high byte of a number that was read from them ..
low : (a b : ℕ) → a < 256 → (a + 256 * b) % 256 ≡ a
low a b l = omega arith

high : (a b : ℕ) → a < 256 → b < 256 → (a + 256 * b) / 256 % 256 ≡ b
high a b l m = omega arith

-- .. and its low and high pair of bytes.
low_pair : (a b : ℕ) → a < 65536 → (a + 65536 * b) % 65536 ≡ a
low_pair a b l = omega arith

high_pair : (a b : ℕ) → a < 65536 → (a + 65536 * b) / 65536 ≡ b
high_pair a b l = omega arith

module _ (file : List ℕ) where
  -- From a place on: the byte there, and what follows it ..
  pub cut_byte : (k m : ℕ) {rest : List ℕ} → m ≡ k + 1 → m ≤ length file → drop m file ≡ rest → drop k file ≡ get_or file k 0 ∷ rest
  cut_byte k m e l f =
      let next : suc k ≡ m = omega arith in
      drop-cons file k 0 (omega arith) ∙ ap (λ (x : List ℕ). get_or file k 0 ∷ x) (ap (λ j. drop j file) next ∙ f)

  module _ (octets : (i : ℕ) → get_or file i 0 < 256) where
    -- .. the two bytes of the number there ..
    pub cut_two : (k m : ℕ) {rest : List ℕ} → m ≡ k + 2 → m ≤ length file → drop m file ≡ rest → drop k file ≡ in_two (two file k) ++ rest
    cut_two k m e l f =
        rw (low (get_or file k 0) (get_or file (k + 1) 0) (octets k), high (get_or file k 0) (get_or file (k + 1) 0) (octets k) (octets (k + 1)))
        (cut_byte k (k + 1) refl (omega arith) (cut_byte (k + 1) m (omega arith) l f))

    -- .. or its four.
    pub cut_four : (k m : ℕ) {rest : List ℕ} → m ≡ k + 4 → m ≤ length file → drop m file ≡ rest → drop k file ≡ in_four (four file k) ++ rest
    cut_four k m e l f =
        rw (low_pair (two file k) (two file (k + 2)) few, high_pair (two file k) (two file (k + 2)) few)
        (cut_two k (k + 2) refl (omega arith) (cut_two (k + 2) m (omega arith) l f))
      where
        few : two file k < 65536
        few = omega (arith, octets k, octets (k + 1))
