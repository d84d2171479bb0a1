-- What the writer's statement settles: its answer and every byte of the room; what it writes the reader takes back as the same drill; a file that the reader takes is written again byte for byte.
use mathlib.Core.Path.{◌≡◌, refl, sym, ap, subst, ◌∙◌}
use mathlib.Core.Bool.{true}
use mathlib.Core.Logic.Dec
use mathlib.Core.Logic.{◌≢◌, ◌↔◌}
use mathlib.Core.List.{List, ◌++◌, append_assoc, append-nil}
use Prim.Native.Nat.{ℕ, zero, suc, ◌+◌, ◌*◌, ◌/◌, ◌≤◌, ◌<◌}
use native.Mathlib.Omega.{arith}
use native.Mathlib.Decide.{ℕ_discrete, dec_le, dec_lt}
use lib.ListN.{length, get_or, take, drop, length-drop, drop_of_length-le}
use lib.Seq.{length-take-le, take_at}
use Rattle.std.specs.Prelude.{Option, Result, Ok, Err}
use Rattle.refusal.specs.declared.Refusal.{Refusal}
use Rattle.refusal.specs.Numbers.{refusal_of}
use Rattle.decide.proofs.ChooseLaws.{choose_yes}
use Rattle.decide.proofs.RuledLaws.{passed_zero, onward}
use Rattle.plan.specs.Costs.{plan_of}
use Rattle.plan.proofs.MoveLaws.{area}
use Rattle.drill_file.specs.declared.Action.{Action}
use Rattle.drill_file.specs.declared.Trailer.{Trailer}
use Rattle.drill_file.specs.File.{trailer_at, trailer_of, trailer_in, cells, actions_from, actions_of, well_formed, form_number}
use Rattle.drill_file.specs.Numbers.{edges_hold, bytes_hold, open_number, plan_in, file_number}
use Rattle.drill_file.proofs.FileLaws.{chosen, form_of}
use Rattle.drill_file.proofs.NumberLaws.{ruled_number, Formed, formed, file_number_is, file_formed}
use Rattle.drill_writer.specs.Drill.{Drill, drill_of, action_bytes_in, actions_bytes, actions_in, trailer_bytes, trailer_for, file_of, drill_given, bytes_for}
use Rattle.drill_writer.specs.Promise.{WriteTold, written_told, told_number, Fit, ActionRules, WriteRules, Writable, Writes}
use Rattle.drill_writer.proofs.PartLaws.{actions_there, cut}
use Rattle.drill_writer.proofs.ActionLaws.{cut_actions, five_each, length_actions}
use Rattle.drill_writer.proofs.TrailerLaws.{Small, same_trailer, trailer_back, cut_trailer}
use Rattle.drill_writer.proofs.WriteLaws.{length_written, answered, answer_is, write_number, write_granted, write_passes}

-- ---- one result

module _ {width height hunter target : ℕ} {plan actions file file' : List ℕ} {r : Result ℕ Refusal} (P : Writes width height hunter target plan actions file r file') where
  -- The answer as the code returns it.
  pub write_answer : r ≡ answered P.number (length (bytes_for width height hunter target plan actions))
  write_answer = answer_is r P.number _ P.answer

  -- Refused by the number of the first rule broken, and nothing has changed ..
  pub write_refused : {k : ℕ} → WriteRules width height hunter target plan actions (length file) k → k ≢ 0 → (r ≡ Err (refusal_of k)) × (file' ≡ file)
  write_refused {k} rules n =
      let e = write_number plan actions P.rules rules in
      (write_answer ∙ by k e n, P.refused (λ z. n (sym e ∙ z)))
    where
      by : (k : ℕ) → P.number ≡ k → k ≢ 0 → answered P.number (length (bytes_for width height hunter target plan actions)) ≡ Err (refusal_of k)
      by zero e n = absurd (n refl)
      by (suc k) e n = ap (λ x. answered x (length (bytes_for width height hunter target plan actions))) e

  -- .. and where no rule is broken, written.
  pub write_done : Writable width height hunter target plan actions (length file)
      → (r ≡ Ok (length (bytes_for width height hunter target plan actions))) × (file' ≡ bytes_for width height hunter target plan actions ++ drop (length (bytes_for width height hunter target plan actions)) file)
  write_done W =
      let z = write_passes plan actions P.rules W in
      (write_answer ∙ ap (λ x. answered x (length (bytes_for width height hunter target plan actions))) z, P.done z)

  -- The number told is k exactly if k is the number of the first rule broken, and 0 exactly if none is.
  pub write_exactly : (k : ℕ) → ((written_told r).refusal ≡ k) ↔ WriteRules width height hunter target plan actions (length file) k
  write_exactly k = (λ e. subst (WriteRules width height hunter target plan actions (length file)) (sym told ∙ e) P.rules, λ rules. told ∙ write_number plan actions P.rules rules)
    where
      by : (k n : ℕ) → (told_number k n).refusal ≡ k
      by zero n = refl
      by (suc k) n = refl

      told : (written_told r).refusal ≡ P.number
      told = ap (λ (x : WriteTold). x.refusal) P.answer ∙ by P.number (length (bytes_for width height hunter target plan actions))

-- Two results that the statement allows are equal, every byte of the room too.
pub one_writing : {width height hunter target : ℕ} {plan actions file a b : List ℕ} {r s : Result ℕ Refusal}
    → Writes width height hunter target plan actions file r a → Writes width height hunter target plan actions file s b → (r ≡ s) × (a ≡ b)
one_writing {width} {height} {hunter} {target} {plan} {actions} {file} {a} {b} P Q =
    (write_answer P ∙ ap (λ x. answered x (length (bytes_for width height hunter target plan actions))) e ∙ sym (write_answer Q), at (ℕ_discrete P.number 0))
  where
    e : P.number ≡ Q.number
    e = write_number plan actions P.rules Q.rules

    at : Dec (P.number ≡ 0) → a ≡ b
    at (yes z) = P.done z ∙ sym (Q.done (sym e ∙ z))
    at (no n) = P.refused n ∙ sym (Q.refused (λ z. n (e ∙ z)))

-- ---- what is written is read back

module _ {width height hunter target : ℕ} {plan actions : List ℕ} {room : ℕ} (W : Writable width height hunter target plan actions room) where
  -- How many actions there are, the bytes that are written, and their trailer.
  abbrev many : ℕ
  many = length actions / 5

  abbrev whole : List ℕ
  whole = bytes_for width height hunter target plan actions

  abbrev trailer : Trailer
  trailer = trailer_for width height hunter target many

  small : Small trailer
  small =
      let a = area W.size in
      record { hunter = omega (arith, a, W.hunter_in); target = omega (arith, a, W.target_in); actions = omega (arith, W.fit.short); offset = omega (arith, a) }

  trailer_is : trailer_of whole ≡ trailer
  trailer_is = trailer_back plan actions trailer small

  plan_is : plan_in whole ≡ plan
  plan_is =
      ap (λ (x : Trailer). take (4 * cells x) whole) trailer_is
      ∙ ap (take (4 * (height * width))) (append_assoc plan actions (trailer_bytes trailer))
      ∙ take_at plan (actions ++ trailer_bytes trailer) (4 * (height * width)) W.sized

  actions_are : actions_from whole (4 * (height * width)) many ≡ actions_in actions
  actions_are =
      ap (λ k. actions_from whole k many) (omega (arith, W.sized))
      ∙ actions_there plan actions (trailer_bytes trailer) many 0 (omega (arith, W.fit.whole))

  long : length whole ≡ length plan + length actions + 12
  long = length_written width height hunter target plan actions

  read : trailer ≡ trailer_in whole
  unfolding trailer_in
  read = sym trailer_is ∙ sym (choose_yes (dec_le 12 (length whole)) _ _ (omega (arith, long)))

  form_right : form_number whole ≡ 0
  form_right =
      sym (form_of whole read (omega (arith, long)) (omega (arith, long, W.fit.short))
      (chosen _ _ W.size
      (chosen _ _ (refl, omega (arith, long, W.sized, W.fit.whole))
      (chosen _ _ (ap well_formed actions_are ∙ W.fit.well) refl))))

  open_right : open_number (plan_of width height plan) hunter target ≡ 0
  unfolding open_number
  open_right =
      choose_yes (Dec.and (dec_lt hunter (height * width)) (dec_lt target (height * width))) _ _ (W.hunter_in, W.target_in)
      ∙ choose_yes (edges_hold (plan_of width height plan)) _ _ W.edges
      ∙ choose_yes (bytes_hold (plan_of width height plan)) _ _ W.bytes

  -- What is written is a file that the reader takes, and the drill in it is the one given.
  pub read_back : (file_number whole ≡ 0) × (drill_of whole ≡ drill_given width height hunter target plan actions)
  read_back = (
    file_number_is whole form_right
        ∙ ap (λ (x : Trailer). open_number (plan_of x.width x.height (plan_in whole)) x.hunter x.target) trailer_is
        ∙ ap (λ (x : List ℕ). open_number (plan_of width height x) hunter target) plan_is
        ∙ open_right,
    ap (λ (x : Trailer). drill x (plan_in whole) (actions_from whole x.offset x.actions)) trailer_is
        ∙ ap (λ (x : List ℕ). drill trailer x (actions_from whole (4 * (height * width)) many)) plan_is
        ∙ ap (drill trailer plan) actions_are,
  )
    where
      drill : Trailer → List ℕ → List (Option Action) → Drill
      drill x p l = record { width = x.width; height = x.height; hunter = x.hunter; target = x.target; plan = p; actions = l }

-- So the reader takes back what a call has written, as the same drill.
pub taken_back : {width height hunter target n : ℕ} {plan actions file file' : List ℕ} {r : Result ℕ Refusal} → Writes width height hunter target plan actions file r file' → r ≡ Ok n
    → (file_number (take n file') ≡ 0) × (drill_of (take n file') ≡ drill_given width height hunter target plan actions)
taken_back {width} {height} {hunter} {target} {n} {plan} {actions} {file} {file'} P e =
    let W = write_granted plan actions ((write_exactly P 0).0 (ap (λ (x : Result ℕ Refusal). (written_told x).refusal) e)) refl in
    let d = write_done P W in
    let long : length (bytes_for width height hunter target plan actions) ≡ n = ap (λ (x : Result ℕ Refusal). (written_told x).bytes) (sym d.0 ∙ e) in
    let first : take n file' ≡ bytes_for width height hunter target plan actions = ap (take n) d.1 ∙ take_at _ _ n long in
    subst (λ (x : List ℕ). (file_number x ≡ 0) × (drill_of x ≡ drill_given width height hunter target plan actions)) (sym first) (read_back W)

-- ---- what is read is written again

module _ (file : List ℕ) (right : form_number file ≡ 0) where
  abbrev told : Trailer
  told = trailer_of file

  F : Formed file
  F = formed file right

  plan_long : length (plan_in file) ≡ 4 * cells told
  plan_long = length-take-le (4 * cells told) file (omega (arith, F.whole, F.offset))

  actions_long : length (action_bytes_in file) ≡ 5 * told.actions
  actions_long =
      length-take-le (5 * told.actions) (drop (4 * cells told) file) (omega (arith, F.whole, F.offset, length-drop (4 * cells told) file))

  count : length (action_bytes_in file) / 5 ≡ told.actions
  count = omega (arith, actions_long)

  actions_taken : actions_in (action_bytes_in file) ≡ actions_of file
  actions_taken =
      ap (actions_from (action_bytes_in file) 0) count
      ∙ sym (actions_there (plan_in file) (action_bytes_in file) (drop (4 * cells told + 5 * told.actions) file) told.actions 0 (omega (arith, actions_long)))
      ∙ ap (λ (x : List ℕ). actions_from x (length (plan_in file) + 0) told.actions) (cut file (4 * cells told) (5 * told.actions))
      ∙ ap (λ k. actions_from file k told.actions) (omega (arith, plan_long, F.offset))

  trailer_taken : trailer_for told.width told.height told.hunter told.target told.actions ≡ told
  trailer_taken = same_trailer refl refl refl refl refl (sym F.offset)

  module _ (octets : (i : ℕ) → get_or file i 0 < 256) where
    end_is : drop (4 * cells told + 5 * told.actions) file ≡ trailer_bytes (trailer_for told.width told.height told.hunter told.target told.actions)
    end_is =
        cut_trailer file octets (4 * cells told + 5 * told.actions) (omega (arith, F.whole, F.offset))
        ∙ ap (λ k. trailer_bytes (trailer_at file k)) (omega (arith, F.whole, F.offset))
        ∙ ap trailer_bytes (sym trailer_taken)

    -- Its own parts, written, are the file.
    parts_again : bytes_for told.width told.height told.hunter told.target (plan_in file) (action_bytes_in file) ≡ file
    parts_again =
        ap (λ k. plan_in file ++ action_bytes_in file ++ trailer_bytes (trailer_for told.width told.height told.hunter told.target k)) count
        ∙ ap (λ (x : List ℕ). plan_in file ++ action_bytes_in file ++ x) (sym end_is)
        ∙ cut file (4 * cells told) (5 * told.actions)

  -- The rules of writing it again give the number by which the reader refuses it.
  pub rewrite_number : {room k : ℕ} → length file ≤ room
      → WriteRules told.width told.height told.hunter told.target (plan_in file) (action_bytes_in file) room k → k ≡ file_number file
  unfolding open_number
  rewrite_number {room} l rules =
      ruled_number _ (ruled_number _ (ruled_number _ rest)) (onward plan_long (onward F.size rules)) ∙ sym (file_number_is file right)
    where
      fit : Fit (length (plan_in file)) (action_bytes_in file)
      fit = record {
        whole = omega (arith, actions_long);
        short = omega (arith, plan_long, actions_long, F.whole, F.offset, F.short);
        well = ap well_formed actions_taken ∙ F.well;
      }

      roomy : length (bytes_for told.width told.height told.hunter told.target (plan_in file) (action_bytes_in file)) ≤ room
      roomy = omega (arith, length_written told.width told.height told.hunter told.target (plan_in file) (action_bytes_in file), plan_long, actions_long, F.whole, F.offset)

      rest : {k : ℕ} → ActionRules (length (plan_in file)) (action_bytes_in file)
          (length (bytes_for told.width told.height told.hunter told.target (plan_in file) (action_bytes_in file))) room k → k ≡ 0
      rest r = passed_zero (onward roomy (onward fit r))

module _ (file : List ℕ) (octets : (i : ℕ) → get_or file i 0 < 256) (taken : file_number file ≡ 0) where
  -- The bytes of the actions that are read in a file are the file's.
  bytes_again : actions_bytes (actions_of file) ≡ action_bytes_in file
  bytes_again =
      let F = formed file (file_formed file taken) in
      let l = actions_of file in
      let e : length (actions_bytes l) ≡ 5 * (trailer_of file).actions = omega (arith, five_each l, length_actions file (trailer_of file).actions (trailer_of file).offset) in
      sym (take_at (actions_bytes l) (drop ((trailer_of file).offset + 5 * (trailer_of file).actions) file) (5 * (trailer_of file).actions) e)
      ∙ ap (take (5 * (trailer_of file).actions)) (sym (cut_actions file octets (trailer_of file).actions (trailer_of file).offset (omega (arith, F.whole)) F.well))
      ∙ ap (λ k. take (5 * (trailer_of file).actions) (drop k file)) F.offset

  -- A file that the reader takes is, byte for byte, the file of the drill in it ..
  pub written_again : file_of (drill_of file) ≡ file
  written_again =
      ap (λ (x : List ℕ). plan_in file ++ x ++ trailer_bytes (trailer_for (trailer_of file).width (trailer_of file).height (trailer_of file).hunter (trailer_of file).target (length (actions_of file)))) bytes_again
      ∙ ap (λ k. plan_in file ++ action_bytes_in file ++ trailer_bytes (trailer_for (trailer_of file).width (trailer_of file).height (trailer_of file).hunter (trailer_of file).target k))
      (length_actions file (trailer_of file).actions (trailer_of file).offset ∙ sym (count file (file_formed file taken)))
      ∙ parts_again file (file_formed file taken) octets

  -- .. and the call, given its parts and room for it, writes it so.
  pub rewrites : {room room' : List ℕ} {r : Result ℕ Refusal} → length file ≤ length room
      → Writes (trailer_of file).width (trailer_of file).height (trailer_of file).hunter (trailer_of file).target (plan_in file) (action_bytes_in file) room r room'
      → (r ≡ Ok (length file)) × (room' ≡ file ++ drop (length file) room)
  rewrites {room} {room'} {r} l P =
      let z = rewrite_number file (file_formed file taken) l P.rules ∙ taken in
      let same = parts_again file (file_formed file taken) octets in
      let d = write_done P (write_granted (plan_in file) (action_bytes_in file) P.rules z) in
      subst (λ (x : List ℕ). (r ≡ Ok (length x)) × (room' ≡ x ++ drop (length x) room)) same d

-- ---- an action

-- The bytes of actions that are well formed, five for each, are those of the actions that they make.
pub bytes_back : (bytes : List ℕ) → 5 * (length bytes / 5) ≡ length bytes → ((i : ℕ) → get_or bytes i 0 < 256) → well_formed (actions_in bytes) ≡ true → actions_bytes (actions_in bytes) ≡ bytes
bytes_back bytes whole octets well =
    sym (append-nil (actions_bytes (actions_in bytes)))
    ∙ ap (λ (x : List ℕ). actions_bytes (actions_in bytes) ++ x) (sym (drop_of_length-le bytes {i = 0 + 5 * (length bytes / 5)} (omega (arith, whole))))
    ∙ sym (cut_actions bytes octets (length bytes / 5) 0 (omega (arith, whole)) well)
