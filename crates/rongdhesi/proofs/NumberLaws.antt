-- The byte of a cost.
use mathlib.Core.Path.{◌≡◌, sym, ap, subst, ◌∙◌}
use mathlib.Core.Bool.{Bool, cond}
use Prim.Native.Nat.{ℕ, ◌≤◌, ◌<◌}
use native.Mathlib.Omega.{arith}
use Rattle.std.specs.Prelude.{Result, Ok, Err}
use Rattle.std.specs.Result.{OkIff, result_unwrap_or}
use borrow.Author.Tests.{lt-ltb, le-ltb}
use Rattle.tables.specs.declared.Session.{Session}
use Rattle.tables.specs.Lent.{Tables}
use Rattle.session.specs.declared.Reply.{Reply as CallReply}
use Rattle.change.specs.Promise.{Changes}
use Rattle.rongdhesi.specs.Told.{byte_of}

pub no_byte : (n : ℕ) → 255 < n → 0 ≡ byte_of n
unfolding byte_of
no_byte n h = sym (ap (λ (t : Bool). cond t 0 n) (lt-ltb 255 n h))

pub a_byte : (n : ℕ) → n ≤ 255 → n ≡ byte_of n
unfolding byte_of
a_byte n h = sym (ap (λ (t : Bool). cond t 0 n) (le-ltb 255 n h))

pub changed_by : {s : Session} {t t' : Tables} {u d b c : ℕ} {x : CallReply} → b ≡ c → Changes s t u d b x t' → Changes s t u d c x t'
changed_by {s} {t} {t'} {u} {d} {x = x} e = subst (λ (n : ℕ). Changes s t u d n x t') e

-- What is left of a number that may be no byte is the byte that it gives.
pub byte_or_none : {E : Type 0} (r : Result ℕ E) (n : ℕ) → OkIff r (n < 256) n → result_unwrap_or r 0 ≡ byte_of n
byte_or_none (Ok m) n O = O.1 ∙ a_byte n (omega (arith, O.0))
byte_or_none (Err e) n O = no_byte n (omega (arith, O))
