-- A text is a list of bytes: the bytes of a word, and a number in decimal.
use Rattle.std.specs.Prelude.{List, [], ◌∷◌, ◌++◌, ℕ, zero, suc, ◌+◌, ◌/◌, ◌%◌}
use Prim.Native.Char.{code}
use Prim.Native.String.{String, [] as empty, ◌∷◌ as ◌then◌}
use Rattle.std.proofs.Math.Decide.{dec_lt}
use Rattle.decide.specs.Choose.{choose}

-- The bytes of a word.
unfoldable pub bytes : String → List ℕ
bytes empty = []
bytes (c then s) = code c ∷ bytes s

-- The decimal digits of a number that has at most so many: those of its tens, then its last.
unfoldable pub digits : ℕ → ℕ → List ℕ
digits zero n = []
digits (suc k) n = choose (dec_lt n 10) ((48 + n) ∷ []) (digits k (n / 10) ++ ((48 + n % 10) ∷ []))

-- A number in decimal: no number of 64 bits has more than twenty digits.
abbrev pub decimal : ℕ → List ℕ
decimal n = digits 20 n
