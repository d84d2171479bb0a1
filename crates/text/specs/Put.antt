-- A text put into a lent buffer.
use Rattle.std.specs.Prelude.{◌≡◌, List, ◌++◌, ℕ, ◌+◌, length, take, drop}
use Rattle.text.specs.declared.Text.{Text}

-- What stands before the place `at` stays, the text follows it, and r is the place behind the text, from which on the buffer stays as it was.
pub record Put (before : List ℕ) (at : ℕ) (text : List ℕ) (r : ℕ) (after : List ℕ) : Type 0 where
  pub end : r ≡ at + length text
  pub stands : take r after ≡ take at before ++ text
  pub behind : drop r after ≡ drop r before
  pub long : length after ≡ length before

-- A text is put behind what stands in a lent room.
abbrev pub PutIn : Text → List ℕ → Text → Type 0
PutIn t text t' = Put t.room.now t.used text t'.used t'.room.now
