-- Laws of the drill file: what a test chooses, the trailer, the actions and the number of the form.
use mathlib.Core.Path.{◌≡◌, refl, sym, ap, subst, ◌∙◌}
use mathlib.Core.Bool.{true, false, Bool-discrete}
use mathlib.Core.Logic.Dec
use mathlib.Core.Logic.{◌≢◌}
use mathlib.Core.List.{List, ◌∷◌}
use Rattle.std.specs.Prelude.{Option, None, Some, is_some}
use Prim.Native.Nat.{ℕ, zero, suc, ◌+◌, ◌*◌, ◌-◌, ◌<◌, ◌≤◌}
use native.Mathlib.Decide.{ℕ_discrete, dec_le}
use native.Mathlib.Omega.{arith}
use lib.ListN.{length, get_or}
use Rattle.decide.specs.Choose.{choose}
use Rattle.decide.proofs.ChooseLaws.{choose_yes, choose_no, choose_is}
use Rattle.plan.proofs.MoveLaws.{area}
use Rattle.drill_file.specs.declared.Action.{Action}
use Rattle.drill_file.specs.declared.Action.TheVariants.{Change, Hunter, Target, Search}
use Rattle.drill_file.specs.declared.Trailer.{Trailer}
use Rattle.drill_file.specs.File.{trailer_of, no_trailer, trailer_in, cells, two, action_of, action_at, actions_from, well_formed, is_size, form_number, cells_told, cells_in}

-- Where a test holds, what equals the first of two equals their choice ..
pub chosen : {A P : Type 0} (d : Dec P) {a x : A} (b : A) → P → x ≡ a → x ≡ choose d a b
chosen d b p e = e ∙ sym (choose_yes d _ b p)

-- .. and where it fails, what equals the second.
pub passed_by : {A P : Type 0} (d : Dec P) (a : A) {b x : A} → (P → ⊥) → x ≡ b → x ≡ choose d a b
passed_by d a n e = e ∙ sym (choose_no d a _ n)

-- What equals both of two equals their choice.
either : {A P : Type 0} (d : Dec P) {a x : A} → x ≡ a → x ≡ choose d a x
unfolding choose
either (yes p) e = e
either (no n) e = refl

-- A function of a choice is the choice of its values.
choice_of : {A B P : Type 0} (f : A → B) (d : Dec P) (a b : A) → f (choose d a b) ≡ choose d (f a) (f b)
unfolding choose
choice_of f (yes p) a b = refl
choice_of f (no n) a b = refl

-- What the parts of an action say, kind by kind ..
module _ (kind cell d cost : ℕ) where
  pub change_said : kind ≡ 1 → Some (Change cell d cost) ≡ action_of kind cell d cost
  unfolding action_of
  change_said e = chosen _ _ e refl

  pub hunter_said : kind ≡ 2 → d ≡ 0 → cost ≡ 0 → Some (Hunter cell) ≡ action_of kind cell d cost
  unfolding action_of
  hunter_said e f g = passed_by _ _ (λ h. omega (arith, e, h)) (chosen _ _ (f, g) (chosen _ _ e refl))

  pub target_said : kind ≡ 3 → d ≡ 0 → cost ≡ 0 → Some (Target cell) ≡ action_of kind cell d cost
  unfolding action_of
  target_said e f g = passed_by _ _ (λ h. omega (arith, e, h)) (chosen _ _ (f, g) (passed_by _ _ (λ h. omega (arith, e, h)) (chosen _ _ e refl)))

  pub search_said : kind ≡ 4 → cell ≡ 0 → d ≡ 0 → cost ≡ 0 → Some Search ≡ action_of kind cell d cost
  unfolding action_of
  search_said e h f g =
      passed_by _ _ (λ i. omega (arith, e, i)) (chosen _ _ (f, g) (passed_by _ _ (λ i. omega (arith, e, i)) (passed_by _ _ (λ i. omega (arith, e, i)) (chosen _ _ (e, h) refl))))

  -- .. and which say nothing.
  pub kind_unknown : kind ≢ 1 → kind ≢ 2 → kind ≢ 3 → kind ≢ 4 → None ≡ action_of kind cell d cost
  unfolding action_of
  kind_unknown n₁ n₂ n₃ n₄ = passed_by _ _ n₁ (either _ (passed_by _ _ n₂ (passed_by _ _ n₃ (passed_by _ _ (λ e. n₄ e.0) refl))))

  pub direction_left : kind ≢ 1 → d ≢ 0 → None ≡ action_of kind cell d cost
  unfolding action_of
  direction_left n m = passed_by _ _ n (passed_by _ _ (λ e. m e.0) refl)

  pub cost_left : kind ≢ 1 → cost ≢ 0 → None ≡ action_of kind cell d cost
  unfolding action_of
  cost_left n m = passed_by _ _ n (passed_by _ _ (λ e. m e.1) refl)

  pub cell_left : kind ≡ 4 → cell ≢ 0 → None ≡ action_of kind cell d cost
  unfolding action_of
  cell_left e m = passed_by _ _ (λ h. omega (arith, e, h)) (either _ (passed_by _ _ (λ h. omega (arith, e, h)) (passed_by _ _ (λ h. omega (arith, e, h)) (passed_by _ _ (λ h. m h.1) refl))))

-- What action its parts say.
pub ruleset said = (change_said, hunter_said, target_said, search_said, kind_unknown, direction_left, cost_left, cell_left)

-- The action at a place is the one that its five bytes say; past the end there is none.
module _ (file : List ℕ) (at : ℕ) where
  pub action_there : at + 5 ≤ length file → action_of (get_or file at 0) (two file (at + 1)) (get_or file (at + 3) 0) (get_or file (at + 4) 0) ≡ action_at file at
  unfolding action_at
  action_there l = chosen _ _ l refl

  pub action_past : length file < at + 5 → None ≡ action_at file at
  unfolding action_at
  action_past l = passed_by _ _ (λ m. omega arith) refl

-- An action of equal parts.
pub same_action : {kind kind' cell cell' d d' cost cost' : ℕ} → kind ≡ kind' → cell ≡ cell' → d ≡ d' → cost ≡ cost' → action_of kind cell d cost ≡ action_of kind' cell' d' cost'
same_action a b c e = rw (a, b, c, e)

-- One action that is well formed does not change whether all are ..
pub well_more : (a : Option Action) (l : List (Option Action)) → is_some a ≡ true → well_formed (a ∷ l) ≡ well_formed l
unfolding well_formed
well_more None l e = cc
well_more (Some a) l e = refl

-- .. and one that is not decides by itself.
pub well_less : (a : Option Action) (l : List (Option Action)) → is_some a ≡ false → well_formed (a ∷ l) ≡ false
unfolding well_formed
well_less None l e = refl
well_less (Some a) l e = cc

module _ (file : List ℕ) (at : ℕ) where
  -- The first of some actions, and those after it.
  pub first : (n : ℕ) → 0 < n → actions_from file at n ≡ action_at file at ∷ actions_from file (at + 5) (n - 1)
  unfolding actions_from
  first zero l = absurd (omega arith)
  first (suc n) l = let e : suc n - 1 ≡ n = omega arith in rw e

  -- Past an action that is well formed, the rest decides ..
  pub goes_on : (n : ℕ) → 0 < n → is_some (action_at file at) ≡ true → well_formed (actions_from file at n) ≡ well_formed (actions_from file (at + 5) (n - 1))
  goes_on n l k = ap well_formed (first n l) ∙ well_more _ _ k

  -- .. a badly formed action decides by itself ..
  pub stops : (n : ℕ) → 0 < n → is_some (action_at file at) ≡ false → well_formed (actions_from file at n) ≡ false
  stops n l k = ap well_formed (first n l) ∙ well_less _ _ k

  -- .. and where none is left, all were well formed.
  pub ends : (n : ℕ) → n ≤ 0 → well_formed (actions_from file at n) ≡ true
  unfolding actions_from well_formed
  ends zero l = refl
  ends (suc n) l = absurd (omega arith)

-- The number of the first rule that fails after the file's length, at a trailer that was read.
abbrev pub number_at : List ℕ → Trailer → ℕ
number_at file t =
    choose (is_size t.width t.height)
    (choose (Dec.and (ℕ_discrete t.offset (4 * cells t)) (ℕ_discrete (length file) (t.offset + 5 * t.actions + 12)))
    (choose (Bool-discrete (well_formed (actions_from file t.offset t.actions)) true) 0
    8)
    8)
    1

-- Zeros tell no cells.
no_cells : cells_told no_trailer ≡ 0
unfolding cells_told
no_cells = choose_no _ _ _ (λ z. omega (arith, z.wide))

-- What is read as the trailer of a file that is long enough to have one, and of one that is not.
pub trailer_long : (file : List ℕ) → 12 ≤ length file → trailer_of file ≡ trailer_in file
unfolding trailer_in
trailer_long file l = chosen _ _ l refl

pub trailer_short : (file : List ℕ) → length file < 12 → no_trailer ≡ trailer_in file
unfolding trailer_in
trailer_short file l = passed_by _ _ (λ m. omega arith) refl

module _ (file : List ℕ) {t : Trailer} (read : t ≡ trailer_in file) where
  -- Of a file that is long enough, what is read as the trailer is the trailer.
  pub trailer_there : 12 ≤ length file → t ≡ trailer_of file
  trailer_there l = read ∙ sym (trailer_long file l)

  -- Where the length is right, the rules after it give the number.
  pub form_of : {k : ℕ} → 12 ≤ length file → length file ≤ 65536 → k ≡ number_at file t → k ≡ form_number file
  unfolding form_number
  form_of l h n = chosen _ _ (l, h) (n ∙ ap (number_at file) (trailer_there l))

  -- The cells that it tells are those that the file tells.
  pub cells_of : cells_told t ≡ cells_in file
  unfolding trailer_in cells_in
  cells_of = ap cells_told read ∙ choice_of cells_told (dec_le 12 (length file)) _ _ ∙ ap (λ n. choose (dec_le 12 (length file)) (cells_told (trailer_of file)) n) no_cells

  -- A trailer's number of actions has two bytes.
  pub actions_few : ((i : ℕ) → get_or file i 0 < 256) → t.actions < 65536
  unfolding trailer_in
  actions_few b = subst few (sym read) (choose_is few _ (λ _. omega (arith, b (length file - 12 + 6), b (length file - 12 + 6 + 1))) (λ _. omega arith))
    where
      few : Trailer → Type 0
      few x = x.actions < 65536

-- No trailer tells more cells than the greatest plan has.
pub cells_few : (t : Trailer) → cells_told t ≤ 4096
unfolding cells_told
cells_few t = choose_is (λ n. n ≤ 4096) _ area (λ _. omega arith)
