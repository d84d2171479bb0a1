-- An action's five bytes, and the action that they make.
use mathlib.Core.Path.{◌≡◌, refl, sym, ap, ◌∙◌}
use mathlib.Core.Bool.{true, false≢true}
use mathlib.Core.Logic.Dec
use mathlib.Core.List.{List, [], ◌∷◌, ◌++◌, append_assoc}
use Prim.Native.Nat.{ℕ, zero, suc, ◌+◌, ◌*◌, ◌≤◌, ◌<◌}
use native.Mathlib.Omega.{arith}
use native.Mathlib.Decide.{ℕ_discrete, dec_le}
use lib.ListN.{length, get_or, drop, length-append}
use Rattle.std.specs.Prelude.{Option, None, Some, is_some}
use Rattle.decide.specs.Choose.{choose}
use Rattle.decide.proofs.ChooseLaws.{choose_yes, choose_is}
use Rattle.drill_file.specs.declared.Action.{Action}
use Rattle.drill_file.specs.declared.Action.TheVariants.{Change, Hunter, Target, Search}
use Rattle.drill_file.specs.File.{two, action_of, action_at, actions_from, well_formed}
use Rattle.drill_writer.specs.Drill.{in_two, action_bytes, actions_bytes}
use Rattle.drill_writer.proofs.ByteLaws.{two_back, cut_byte, cut_two}

-- The cell of an action, 0 where it has none.
abbrev pub cell_of : Option Action → ℕ
cell_of (Some (Change u d cost)) = u
cell_of (Some (Hunter s)) = s
cell_of (Some (Target s)) = s
cell_of (Some Search) = 0
cell_of None = 0

-- An action is read back from its bytes.
pub action_back : (a : Option Action) → cell_of a < 65536 → action_at (action_bytes a) 0 ≡ a
unfolding action_at action_of action_bytes choose ℕ_discrete dec_le Dec.and
action_back (Some (Change u d cost)) l = ap (λ x. Some (Change x d cost)) (two_back u l)
action_back (Some (Hunter s)) l = ap (λ x. Some (Hunter x)) (two_back s l)
action_back (Some (Target s)) l = ap (λ x. Some (Target x)) (two_back s l)
action_back (Some Search) l = refl
action_back None l = refl

-- An action has five bytes, and some have five for each.
five : (a : Option Action) → length (action_bytes a) ≡ 5
unfolding action_bytes
five (Some (Change u d cost)) = refl
five (Some (Hunter s)) = refl
five (Some (Target s)) = refl
five (Some Search) = refl
five None = refl

pub five_each : (l : List (Option Action)) → length (actions_bytes l) ≡ 5 * length l
unfolding actions_bytes
five_each [] = refl
five_each (a ∷ l) = omega (arith, length-append (action_bytes a) (actions_bytes l), five a, five_each l)

-- The parts of an action that is well formed are its bytes.
module _ (kind cell d cost : ℕ) where
  abbrev Back : Option Action → Type 0
  Back a = is_some a ≡ true → action_bytes a ≡ kind ∷ in_two cell ++ (d ∷ cost ∷ [])

  parts_back : Back (action_of kind cell d cost)
  unfolding action_of action_bytes
  parts_back =
      choose_is Back (ℕ_discrete kind 1) (λ e _. rw e refl)
      (λ _. choose_is Back (Dec.and (ℕ_discrete d 0) (ℕ_discrete cost 0))
      (λ z. choose_is Back (ℕ_discrete kind 2) (λ e _. rw (e, z.0, z.1) refl)
      (λ _. choose_is Back (ℕ_discrete kind 3) (λ e _. rw (e, z.0, z.1) refl)
      (λ _. choose_is Back (Dec.and (ℕ_discrete kind 4) (ℕ_discrete cell 0)) (λ e _. rw (e.0, e.1, z.0, z.1) refl) (λ _ k. absurd (false≢true k)))))
      (λ _ k. absurd (false≢true k)))

-- The first of some actions that are well formed, and those after it.
well_head : (a : Option Action) (l : List (Option Action)) → well_formed (a ∷ l) ≡ true → (is_some a ≡ true) × (well_formed l ≡ true)
unfolding well_formed
well_head (Some a) l e = (refl, e)
well_head None l e = absurd (false≢true e)

module _ (file : List ℕ) (octets : (i : ℕ) → get_or file i 0 < 256) where
  -- From a place on: the bytes of the action there, and what follows it ..
  cut_action : (at : ℕ) → at + 5 ≤ length file → is_some (action_at file at) ≡ true → drop at file ≡ action_bytes (action_at file at) ++ drop (at + 5) file
  unfolding action_at
  cut_action at l k =
      let e = choose_yes (dec_le (at + 5) (length file)) (action_of (get_or file at 0) (two file (at + 1)) (get_or file (at + 3) 0) (get_or file (at + 4) 0)) None l in
      cut_byte file at (at + 1) refl (omega arith)
      (cut_two file octets (at + 1) (at + 3) (omega arith) (omega arith)
      (cut_byte file (at + 3) (at + 4) (omega arith) (omega arith)
      (cut_byte file (at + 4) (at + 5) (omega arith) l refl)))
      ∙ ap (λ (x : List ℕ). x ++ drop (at + 5) file) (sym (parts_back (get_or file at 0) (two file (at + 1)) (get_or file (at + 3) 0) (get_or file (at + 4) 0) (ap is_some (sym e) ∙ k)) ∙ ap action_bytes (sym e))

  -- .. and so for some actions.
  pub cut_actions : (n at : ℕ) → at + 5 * n ≤ length file → well_formed (actions_from file at n) ≡ true → drop at file ≡ actions_bytes (actions_from file at n) ++ drop (at + 5 * n) file
  unfolding actions_from actions_bytes
  cut_actions zero at l w = let e : at ≡ at + 5 * 0 = omega arith in ap (λ k. drop k file) e
  cut_actions (suc n) at l w =
      let h = well_head (action_at file at) (actions_from file (at + 5) n) w in
      let e : at + 5 + 5 * n ≡ at + 5 * suc n = omega arith in
      cut_action at (omega arith) h.0
      ∙ ap (λ (x : List ℕ). action_bytes (action_at file at) ++ x) (cut_actions n (at + 5) (omega arith) h.1)
      ∙ sym (append_assoc (action_bytes (action_at file at)) (actions_bytes (actions_from file (at + 5) n)) (drop (at + 5 + 5 * n) file))
      ∙ ap (λ k. (action_bytes (action_at file at) ++ actions_bytes (actions_from file (at + 5) n)) ++ drop k file) e

-- How many actions there are in so many.
pub length_actions : (file : List ℕ) (n at : ℕ) → length (actions_from file at n) ≡ n
unfolding actions_from
length_actions file zero at = refl
length_actions file (suc n) at = ap suc (length_actions file n (at + 5))
