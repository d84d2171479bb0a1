-- What stands in a file of three parts: a plan, actions and a trailer, one behind the other.
use mathlib.Core.Path.{◌≡◌, refl, sym, ap, ◌∙◌}
use mathlib.Core.List.{List, ◌∷◌, ◌++◌}
use Prim.Native.Nat.{ℕ, zero, suc, ◌+◌, ◌*◌, ◌≤◌, ◌<◌}
use native.Mathlib.Nat.{add_assoc}
use native.Mathlib.Omega.{arith}
use native.Mathlib.Decide.{dec_le}
use lib.ListN.{length, get_or, take, drop, length-append, take-append-drop, get_or-append}
use lib.Seq.{get_or-append-add, take-add}
use Rattle.std.specs.Prelude.{Option}
use Rattle.decide.proofs.ChooseLaws.{choose_yes}
use Rattle.drill_file.specs.declared.Action.{Action}
use Rattle.drill_file.specs.File.{two, action_at, actions_from}
use Rattle.drill_file.proofs.FileLaws.{same_action}

module _ (a b c : List ℕ) where
  -- The length of the three ..
  pub length_three : length (a ++ b ++ c) ≡ length a + length b + length c
  length_three = omega (arith, length-append (a ++ b) c, length-append a b)

  -- .. and what stands in the second and in the third.
  second : (k i : ℕ) → k ≡ length a + i → i < length b → get_or (a ++ b ++ c) k 0 ≡ get_or b i 0
  second k i e l = get_or-append (a ++ b) c 0 k (omega (arith, length-append a b)) ∙ ap (λ j. get_or (a ++ b) j 0) e ∙ get_or-append-add a b i 0

  pub third : (i : ℕ) → get_or (a ++ b ++ c) (length a + length b + i) 0 ≡ get_or c i 0
  third i = ap (λ j. get_or (a ++ b ++ c) (j + i) 0) (sym (length-append a b)) ∙ get_or-append-add (a ++ b) c i 0

  -- The number of two bytes at a place of the third.
  pub third_two : (i : ℕ) → two (a ++ b ++ c) (length a + length b + i) ≡ two c i
  third_two i = omega (arith, third i, ap (λ j. get_or (a ++ b ++ c) j 0) (add_assoc (length a + length b) i 1) ∙ third (i + 1))

  -- An action of the second is read as there ..
  action_there : (at : ℕ) → at + 5 ≤ length b → action_at (a ++ b ++ c) (length a + at) ≡ action_at b at
  unfolding action_at
  action_there at l =
      choose_yes (dec_le (length a + at + 5) (length (a ++ b ++ c))) _ _ (omega (arith, length_three))
      ∙ same_action
      (second (length a + at) at refl (omega arith))
      (omega (arith, second (length a + at + 1) (at + 1) (omega arith) (omega arith), second (length a + at + 1 + 1) (at + 1 + 1) (omega arith) (omega arith)))
      (second (length a + at + 3) (at + 3) (omega arith) (omega arith))
      (second (length a + at + 4) (at + 4) (omega arith) (omega arith))
      ∙ sym (choose_yes (dec_le (at + 5) (length b)) _ _ l)

  -- .. and so are some, one behind the other.
  pub actions_there : (n at : ℕ) → at + 5 * n ≤ length b → actions_from (a ++ b ++ c) (length a + at) n ≡ actions_from b at n
  unfolding actions_from
  actions_there zero at l = refl
  actions_there (suc n) at l =
      let e = action_there at (omega arith) in
      let f = ap (λ k. actions_from (a ++ b ++ c) k n) (add_assoc (length a) at 5) ∙ actions_there n (at + 5) (omega arith) in
      ap (λ (x : Option Action). x ∷ actions_from (a ++ b ++ c) (length a + at + 5) n) e ∙ ap (λ (x : List (Option Action)). action_at b at ∷ x) f

-- A file cut into its three parts.
pub cut : (file : List ℕ) (p m : ℕ) → take p file ++ take m (drop p file) ++ drop (p + m) file ≡ file
cut file p m = ap (λ (x : List ℕ). x ++ drop (p + m) file) (sym (take-add p m file)) ∙ take-append-drop (p + m) file
