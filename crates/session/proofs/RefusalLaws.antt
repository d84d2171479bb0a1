-- What is told by a number, and the answer read off it. The rules of each call give one number; number 0 gives every rule, and where every rule holds the number is 0.
use mathlib.Core.Path.{◌≡◌, refl, sym, ap, ◌∙◌}
use mathlib.Core.Logic.{◌≢◌}
use Prim.Native.Nat.{ℕ, zero, suc, ◌<◌}
use native.Mathlib.Omega.{arith}
use Rattle.std.specs.Prelude.{Result, Ok, Err}
use Rattle.refusal.specs.declared.Refusal.{Refusal}
use Rattle.refusal.specs.Numbers.{number_of, number_in, refusal_of}
use Rattle.refusal.proofs.NumberLaws.{refusal_is, numbered}
use Rattle.decide.specs.Ruled.{holds, Passed}
use Rattle.decide.proofs.RuledLaws.{passed_one, ruled_one, granted, passed_zero, onward, further, passed_not}
use Rattle.plan.specs.Cells.{Size}
use Rattle.tables.specs.declared.Session.{Session}
use Rattle.tables.specs.Lent.{Tables, frame_of_size, cells}
use Rattle.tables.specs.Sound.{Sound}
use Rattle.tables.specs.Told.{Told, told_refusal, told_number}
use Rattle.tables.proofs.SoundLaws.{sound_fits}
use Rattle.entries.specs.Begin.{Openable}
use Rattle.session.specs.Refusals.{told_by, PlaceRules, OpenRules, TableRules}

-- ---- what is told

pub refusal_told : (n : ℕ) → n ≢ 0 → told_refusal n ≡ told_number n
refusal_told zero h = absurd (h refl)
refusal_told (suc n) h = refl

number_told : (n : ℕ) → (told_number n).number ≡ n
number_told zero = refl
number_told (suc n) = refl

-- An answer tells its number ..
pub told_in : (a : Result Unit Refusal) → told_by a ≡ told_number (number_in a)
told_in (Ok _) = refl
told_in (Err r) = refusal_told (number_of r) (λ z. omega (arith, numbered r, z))

-- .. and no other.
pub number_is : (a : Result Unit Refusal) (n : ℕ) → told_by a ≡ told_number n → number_in a ≡ n
number_is a n e = sym (number_told (number_in a)) ∙ ap (λ (x : Told). x.number) (sym (told_in a) ∙ e) ∙ number_told n

-- The answer that tells a number, as the code returns it ..
abbrev pub answered : ℕ → Result Unit Refusal
answered zero = Ok tt
answered (suc k) = Err (refusal_of (suc k))

refused_in : (n : ℕ) → 0 < n → answered n ≡ Err (refusal_of n)
refused_in zero l = absurd (omega arith)
refused_in (suc k) l = refl

answered_in : (a : Result Unit Refusal) → a ≡ answered (number_in a)
answered_in (Ok _) = refl
answered_in (Err r) = sym (refused_in (number_of r) (numbered r) ∙ ap Err (refusal_is r))

-- .. is the only one.
pub answer_is : (a : Result Unit Refusal) (n : ℕ) → told_by a ≡ told_number n → a ≡ answered n
answer_is a n e = answered_in a ∙ ap answered (number_is a n e)

-- ---- one number

pub place_number : (s : Session) {cell k l : ℕ} → PlaceRules s cell k → PlaceRules s cell l → k ≡ l
place_number s {k = k} {l = l} = ruled_one (ruled_one passed_one) k l

pub open_number_is : {width height hunter target : ℕ} {t : Tables} {k l : ℕ} → OpenRules width height hunter target t k → OpenRules width height hunter target t l → k ≡ l
open_number_is {k = k} {l = l} = ruled_one (ruled_one (ruled_one (ruled_one (ruled_one passed_one)))) k l

-- ---- number 0

pub place_granted : (s : Session) {cell k : ℕ} → PlaceRules s cell k → k ≡ 0 → Size s.width s.height × (cell < cells s)
place_granted s r e = let a = granted r e in (a.0, (granted a.1 e).0)

pub open_granted : {width height hunter target : ℕ} {t : Tables} {k : ℕ} → OpenRules width height hunter target t k → k ≡ 0 → Openable (frame_of_size width height) hunter target t
open_granted r e =
    let a = granted r e in
    let b = granted a.1 e in
    let c = granted b.1 e in
    let d = granted c.1 e in
    record { fits = b.0; hunter_in = c.0.0; target_in = c.0.1; obeys = record { size = a.0; sized = b.0.plan; bytes = (granted d.1 e).0; edges = d.0 } }

-- ---- every rule holds

pub place_passes : (s : Session) {cell k : ℕ} → PlaceRules s cell k → Size s.width s.height → cell < cells s → k ≡ 0
place_passes s r z l = passed_zero (onward l (onward z r))

pub open_passes : {width height hunter target : ℕ} {t : Tables} {k : ℕ} → OpenRules width height hunter target t k → Openable (frame_of_size width height) hunter target t → k ≡ 0
open_passes r o = passed_zero (onward o.obeys.bytes (onward o.obeys.edges (onward (o.hunter_in, o.target_in) (onward o.fits (onward o.obeys.size r)))))

-- ---- rules one after the other

-- Tables that break a rule break the same one whatever rules follow ..
pub table_number : {s : Session} {t : Tables} {rest : ℕ → Type 0} {k : ℕ} → TableRules s t Passed k → k ≢ 0 → TableRules s t rest k
table_number = further (further (further passed_not))

-- .. and sound tables leave it to those.
pub sound_rules : {s : Session} {t : Tables} {rest : ℕ → Type 0} {k : ℕ} → Sound s t → rest k → TableRules s t rest k
sound_rules S r = holds S.plan.size (holds (sound_fits S) (holds S r))

-- Tables that break no rule are sound.
pub tables_granted : {s : Session} {t : Tables} → TableRules s t Passed 0 → Sound s t
tables_granted r = (granted (granted (granted r refl).1 refl).1 refl).0
