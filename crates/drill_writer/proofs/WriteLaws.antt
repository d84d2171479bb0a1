-- What the rules and the answer of a writing settle, and where the file stands in the room.
use mathlib.Core.Path.{◌≡◌, refl, sym, ap, subst, ◌∙◌}
use mathlib.Core.Logic.{◌≢◌}
use mathlib.Core.List.{List, ◌++◌}
use Prim.Native.Nat.{ℕ, zero, suc, ◌+◌, ◌/◌, ◌≤◌}
use native.Mathlib.Omega.{arith}
use lib.ListN.{length, drop, take-append-drop}
use Rattle.std.specs.Prelude.{Result, Ok, Err, IsErrAnd}
use Rattle.refusal.specs.declared.Refusal.{Refusal}
use Rattle.refusal.specs.declared.Refusal.TheVariants.{Size, Length, Cell, Move, Cost, Tables, Room, File, CutOff}
use Rattle.refusal.specs.Numbers.{number_of, number_in, refusal_of}
use Rattle.refusal.proofs.NumberLaws.{refusal_is, numbered}
use Rattle.decide.proofs.RuledLaws.{passed_one, ruled_one, granted, passed_zero, onward}
use Rattle.text.specs.Put.{Put}
use Rattle.text.proofs.PutLaws.{put_then, put_as}
use Rattle.drill_writer.specs.Drill.{trailer_bytes, trailer_for, bytes_for}
use Rattle.drill_writer.specs.Promise.{WriteTold, written_told, told_number, ActionRules, WriteRules, Writable, Writes}
use Rattle.drill_writer.proofs.PartLaws.{length_three}

-- ---- the room

-- The length of what is written.
pub length_written : (width height hunter target : ℕ) (plan actions : List ℕ) → length (bytes_for width height hunter target plan actions) ≡ length plan + length actions + 12
length_written width height hunter target plan actions = length_three plan actions _

-- So the rule of the room, asked by the lengths of plan and actions, is that of the file's length.
pub by_length : (width height hunter target : ℕ) (plan actions : List ℕ) {room k : ℕ} → ActionRules (length plan) actions (length plan + length actions + 12) room k
    → ActionRules (length plan) actions (length (bytes_for width height hunter target plan actions)) room k
by_length width height hunter target plan actions {room} {k} =
    subst (λ n. ActionRules (length plan) actions n room k) (sym (length_written width height hunter target plan actions))

-- A text put from the first byte on stands first, and the rest of the buffer stays.
pub put_whole : {b a w : List ℕ} {r : ℕ} → Put b 0 w r a → (r ≡ length w) × (a ≡ w ++ drop (length w) b)
put_whole {b} {a} {w} {r} p =
    let e : r ≡ length w = omega (arith, p.end) in
    (e, sym (take-append-drop r a) ∙ ap (λ (x : List ℕ). x ++ drop r a) p.stands ∙ ap (λ (x : List ℕ). w ++ x) (p.behind ∙ ap (λ k. drop k b) e))

-- ---- the answer

-- The answer as the code returns it.
abbrev pub answered : ℕ → ℕ → Result ℕ Refusal
answered zero n = Ok n
answered (suc k) n = Err (refusal_of (suc k))

-- An answer told by its number is the number's.
pub answer_is : (r : Result ℕ Refusal) (k n : ℕ) → written_told r ≡ told_number k n → r ≡ answered k n
answer_is (Ok m) zero n e = ap Ok (ap (λ (x : WriteTold). x.bytes) e)
answer_is (Ok m) (suc k) n e = absurd (omega (arith, ap (λ (x : WriteTold). x.refusal) e))
answer_is (Err r) zero n e = absurd (omega (arith, numbered r, ap (λ (x : WriteTold). x.refusal) e))
answer_is (Err r) (suc k) n e = ap Err (sym (refusal_is r) ∙ ap (λ (x : WriteTold). refusal_of x.refusal) e)

-- The refusal that an answer tells is the number in it.
pub refusal_told : (r : Result ℕ Refusal) → (written_told r).refusal ≡ number_in r
refusal_told (Ok n) = refl
refusal_told (Err x) = refl

-- What is told of a refusal, by its number.
pub refused_told : (r : Result ℕ Refusal) {k : ℕ} → (written_told r).refusal ≡ k → k ≢ 0 → written_told r ≡ record { refusal = k; bytes = 0 }
refused_told (Ok n) e z = absurd (z (sym e))
refused_told (Err x) e z = rw e

-- What a refusal tells is told by its number.
pub told_err : (n : ℕ) (x : Refusal) → written_told (Err x) ≡ told_number (number_of x) n
told_err n Size = refl
told_err n Length = refl
told_err n Cell = refl
told_err n Move = refl
told_err n Cost = refl
told_err n Tables = refl
told_err n Room = refl
told_err n File = refl
told_err n CutOff = refl

-- ---- the rules

module _ {width height hunter target : ℕ} (plan actions : List ℕ) {room k : ℕ} (rules : WriteRules width height hunter target plan actions room k) where
  -- They give one number ..
  pub write_number : {l : ℕ} → WriteRules width height hunter target plan actions room l → k ≡ l
  write_number {l} other = ruled_one (ruled_one (ruled_one (ruled_one (ruled_one (ruled_one (ruled_one passed_one)))))) k l rules other

  -- .. number 0 gives every rule ..
  pub write_granted : k ≡ 0 → Writable width height hunter target plan actions room
  write_granted e =
      let a = granted rules e in
      let b = granted a.1 e in
      let c = granted b.1 e in
      let d = granted c.1 e in
      let f = granted d.1 e in
      let g = granted f.1 e in
      record {
        size = a.0;
        sized = b.0;
        hunter_in = c.0.0;
        target_in = c.0.1;
        edges = d.0;
        bytes = f.0;
        fit = g.0;
        roomy = (granted g.1 e).0;
      }

  -- .. and where every rule holds the number is 0.
  pub write_passes : Writable width height hunter target plan actions room → k ≡ 0
  write_passes W =
      passed_zero
      (onward W.roomy (onward W.fit (onward W.bytes (onward W.edges (onward (W.hunter_in, W.target_in) (onward W.sized (onward W.size rules)))))))

-- There is room for plan, actions and trailer.
pub room_for : {width height hunter target : ℕ} {plan actions : List ℕ} {room : ℕ} → Writable width height hunter target plan actions room → length plan + length actions + 12 ≤ room
room_for {width} {height} {hunter} {target} {plan} {actions} W = omega (arith, W.roomy, length_written width height hunter target plan actions)

-- ---- the promise

module _ {width height hunter target : ℕ} {plan actions file : List ℕ} where
  -- A refusal by the first rule that is broken, which changes nothing ..
  pub refuses : (r : Result ℕ Refusal) (x : Refusal) → IsErrAnd r (λ e. e ≡ x) → WriteRules width height hunter target plan actions (length file) (number_of x)
      → Writes width height hunter target plan actions file r file
  refuses (Ok n) x e rules = absurd e
  refuses (Err y) x e rules = record {
    number = number_of x;
    rules = rules;
    answer = rw e (told_err _ x);
    refused = λ _. refl;
    done = λ z. absurd (omega (arith, numbered x, z));
  }

  -- .. and where none is, plan, actions and trailer put one behind the other.
  pub writes : {a b c d : List ℕ} {p q r : ℕ} → WriteRules width height hunter target plan actions (length file) 0
      → Put file 0 plan p a → Put a p actions q b → Put b q c r d → c ≡ trailer_bytes (trailer_for width height hunter target (length actions / 5))
      → Writes width height hunter target plan actions file (Ok r) d
  writes rules put_plan put_actions put_trailer e =
      let whole = put_whole (put_then (put_then put_plan put_actions) (put_as e refl put_trailer)) in
      record {
        number = 0;
        rules = rules;
        answer = ap (λ n. written_told (Ok n)) whole.0;
        refused = λ n. absurd (n refl);
        done = λ _. whole.1;
      }
