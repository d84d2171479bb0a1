-- The parts that are lent to the writer are those that the reader finds in the file; what it leaves is the file again, or a refusal by the reader's number.
use mathlib.Core.Path.{◌≡◌, refl, sym, ap, subst, ◌∙◌}
use mathlib.Core.List.{List}
use Prim.Native.Nat.{ℕ, ◌+◌, ◌*◌, ◌-◌, ◌≤◌, ◌<◌}
use native.Mathlib.Omega.{arith}
use native.Mathlib.Decide.{ℕ_discrete}
use lib.ListN.{length, get_or, take, drop, length-append}
use Rattle.std.specs.Prelude.{Result, Ok, Err, IsErrAnd}
use Rattle.refusal.specs.declared.Refusal.{Refusal}
use Rattle.refusal.specs.Numbers.{number_of}
use Rattle.refusal.proofs.NumberLaws.{numbered}
use Rattle.drill_file.specs.declared.Trailer.{Trailer}
use Rattle.drill_file.specs.File.{trailer_of, trailer_in, form_number}
use Rattle.drill_file.specs.Numbers.{plan_in, file_number}
use Rattle.drill_file.proofs.FileLaws.{trailer_there}
use Rattle.drill_file.proofs.NumberLaws.{formed, form_refused, file_formed}
use Rattle.drill_writer.specs.Drill.{action_bytes_in}
use Rattle.drill_writer.specs.Promise.{Writes}
use Rattle.drill_writer.proofs.Theorems.{write_exactly, rewrite_number, rewrites}
use Rattle.drill_writer.proofs.WriteLaws.{refusal_told}
use Rattle.rewrite_trial.specs.Again.{Again}

-- A badly formed file is refused by the form's number.
pub badly_formed : (file room : List ℕ) (r : Result ℕ Refusal) (x : Refusal) → IsErrAnd r (λ e. e ≡ x) → number_of x ≡ form_number file → Again file room r room
badly_formed file room (Ok n) x e f = absurd e
badly_formed file room (Err y) x e f = record {
  taken = λ z. absurd (omega (arith, numbered x, f, file_formed file z));
  refused = λ _. (ap number_of e ∙ f ∙ sym (form_refused file (λ z. omega (arith, numbered x, f, z))), refl);
}

module _ (file : List ℕ) {t : Trailer} (read : t ≡ trailer_in file) (right : form_number file ≡ 0) where
  same : t ≡ trailer_of file
  same = trailer_there file read (formed file right).long

  -- The actions begin before the trailer.
  pub offset_in : t.offset + 12 ≤ length file
  offset_in = subst (λ (x : Trailer). x.offset + 12 ≤ length file) (sym same) (omega (arith, (formed file right).whole))

  plan_part : take (trailer_of file).offset file ≡ plan_in file
  plan_part = ap (λ k. take k file) (formed file right).offset

  actions_part : take (length file - 12 - (trailer_of file).offset) (drop (trailer_of file).offset file) ≡ action_bytes_in file
  actions_part =
      let e : length file - 12 - (trailer_of file).offset ≡ 5 * (trailer_of file).actions = omega (arith, (formed file right).whole) in
      ap (λ k. take k (drop (trailer_of file).offset file)) e ∙ ap (λ k. take (5 * (trailer_of file).actions) (drop k file)) (formed file right).offset

  module _ {room room' : List ℕ} {r : Result ℕ Refusal}
      (P : Writes t.width t.height t.hunter t.target (take t.offset file) (take (length file - 12 - t.offset) (drop t.offset file)) room r room') where
    own_parts : Writes (trailer_of file).width (trailer_of file).height (trailer_of file).hunter (trailer_of file).target (plan_in file) (action_bytes_in file) room r room'
    own_parts =
        subst (λ (a : List ℕ). Writes (trailer_of file).width (trailer_of file).height (trailer_of file).hunter (trailer_of file).target (plan_in file) a room r room') actions_part
        (subst
        (λ (p : List ℕ). Writes (trailer_of file).width (trailer_of file).height (trailer_of file).hunter (trailer_of file).target p
        (take (length file - 12 - (trailer_of file).offset) (drop (trailer_of file).offset file)) room r room')
        plan_part
        (subst
        (λ (x : Trailer). Writes x.width x.height x.hunter x.target (take x.offset file) (take (length file - 12 - x.offset) (drop x.offset file)) room r room')
        same P))

    -- The parts that are lent, written again.
    pub again : ((i : ℕ) → get_or file i 0 < 256) → length file ≤ length room → Again file room r room'
    again octets l =
        let number = rewrite_number file right l own_parts.rules in
        record {
          taken = λ z. rewrites file octets z l own_parts;
          refused = λ n. (sym (refusal_told r) ∙ (write_exactly own_parts own_parts.number).1 own_parts.rules ∙ number, own_parts.refused (λ z. n (sym number ∙ z)));
        }

-- What was written stands in the room.
pub within : (file room room' : List ℕ) (n : ℕ) → Again file room (Ok n) room' → n ≤ length room'
within file room room' n A = at (ℕ_discrete (file_number file) 0)
  where
    bytes : Result ℕ Refusal → ℕ
    bytes (Ok k) = k
    bytes (Err x) = 0

    at : Dec (file_number file ≡ 0) → n ≤ length room'
    at (yes z) =
        let T = A.taken z in
        omega (arith, ap bytes T.0, ap length T.1, length-append file (drop (length file) room))
    at (no m) = absurd (m (sym (A.refused m).0))
