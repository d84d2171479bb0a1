-- The check stops at one place only, and nowhere exactly if the tables are sound.
use mathlib.Core.Path.{◌≡◌, refl, sym, ap, subst}
use mathlib.Core.Bool.{Bool, true, false, not, false≢true}
use Rattle.std.specs.Option.{is_some}
use Prim.Native.Nat.{ℕ, ◌<◌}
use native.Mathlib.Omega.{arith}
use native.Mathlib.Decide.{dec_lt}
use Rattle.decide.specs.Decides.{Decides}
use Rattle.decide.proofs.DecideLaws.{decides_yes, decides_no}
use Rattle.plan.specs.Cells.{Size}
use Rattle.tables.specs.declared.Session.{Session}
use Rattle.tables.specs.declared.Fault.{Fault}
use Rattle.tables.specs.declared.Fault.TheVariants.{InCell, InMove}
use Rattle.std.proofs.Common.{Option, Some, None}
use Rattle.tables.specs.Lent.{Tables, Fits, cells}
use Rattle.tables.specs.Sound.{Sound}
use Rattle.tables.specs.Rules.{AloneIn, WayIn, RulesBefore, FirstFault, nowhere, in_record, in_cell, in_move}
use Rattle.tables.specs.Asked.{Words}
use Rattle.tables.proofs.SoundLaws.{sound_of_rules, numbers_rule, cell_rules}

-- two numbers that fail a rule which all before them obey are one
first_one : {P : ℕ → Type 0} {u v : ℕ} → ((w : ℕ) → w < u → P w) → ((w : ℕ) → w < v → P w) → (P u → ⊥) → (P v → ⊥) → u ≡ v
first_one {P} {u} {v} before_u before_v not_u not_v = at (dec_lt u v) (dec_lt v u)
  where
    at : Dec (u < v) → Dec (v < u) → u ≡ v
    at (yes l) q = absurd (not_u (before_v u l))
    at (no n) (yes l) = absurd (not_v (before_u v l))
    at (no n) (no m) = omega arith

-- of the first cell at fault, the first move
same_move : (s : Session) (t : Tables) {u v d e : ℕ} → u ≡ v → ((i : ℕ) → i < d → WayIn s t u i) → (WayIn s t u d → ⊥)
    → ((i : ℕ) → i < e → WayIn s t v i) → (WayIn s t v e → ⊥) → Some (InMove u d) ≡ Some (InMove v e)
same_move s t {u} {v} {d} {e} q W n =
    subst (λ x. ((i : ℕ) → i < e → WayIn s t x i) → (WayIn s t x e → ⊥) → Some (InMove u d) ≡ Some (InMove x e)) q
    (λ X m. ap (λ i. Some (InMove u i)) (first_one W X n m))

module _ {s : Session} {t : Tables} where
  -- the first cell at fault fails by itself, or in a move: not both
  not_both : {u v d : ℕ} → RulesBefore s t u → RulesBefore s t v → (AloneIn s t u → ⊥) → AloneIn s t v → (d < 4) → (WayIn s t v d → ⊥) → ⊥
  not_both B C n a l m = n (subst (AloneIn s t) (first_one C.each_cell B.each_cell (λ r. m (r.ways _ l)) (λ r. n r.alone)) a)

  -- Two answers that the promise allows for the same record and tables are equal.
  pub one_first_fault : {a b : Option Fault} → FirstFault s t a → FirstFault s t b → a ≡ b
  one_first_fault (nowhere B) (nowhere C) = refl
  one_first_fault (nowhere B) (in_record n) = absurd (n B.numbers)
  one_first_fault (nowhere B) (in_cell l C n) = absurd (n (B.each_cell _ l).alone)
  one_first_fault (nowhere B) (in_move l k C a W n) = absurd (n ((B.each_cell _ l).ways _ k))
  one_first_fault (in_record n) (nowhere C) = absurd (n C.numbers)
  one_first_fault (in_record n) (in_record m) = refl
  one_first_fault (in_record n) (in_cell l C m) = absurd (n C.numbers)
  one_first_fault (in_record n) (in_move l k C a W m) = absurd (n C.numbers)
  one_first_fault (in_cell l B n) (nowhere C) = absurd (n (C.each_cell _ l).alone)
  one_first_fault (in_cell l B n) (in_record m) = absurd (m B.numbers)
  one_first_fault (in_cell l B n) (in_cell k C m) = ap (λ w. Some (InCell w)) (first_one B.each_cell C.each_cell (λ r. n r.alone) (λ r. m r.alone))
  one_first_fault (in_cell l B n) (in_move k j C a W m) = absurd (not_both B C n a j m)
  one_first_fault (in_move l k B a W n) (nowhere C) = absurd (n ((C.each_cell _ l).ways _ k))
  one_first_fault (in_move l k B a W n) (in_record m) = absurd (m B.numbers)
  one_first_fault (in_move l k B a W n) (in_cell j C m) = absurd (not_both C B m a k n)
  one_first_fault (in_move l k B a W n) (in_move i j C b X m) =
      same_move s t (first_one B.each_cell C.each_cell (λ r. n (r.ways _ k)) (λ r. m (r.ways _ j))) W n X m

  -- where the walk stops nowhere, every rule holds
  all_rules : {f : Option Fault} → FirstFault s t f → f ≡ None → RulesBefore s t (cells s)
  all_rules (nowhere B) e = B
  all_rules (in_record n) e = let z : ◌≡◌ {A = ℕ} 0 1 = cc in absurd (omega arith)
  all_rules (in_cell l B n) e = let z : ◌≡◌ {A = ℕ} 0 1 = cc in absurd (omega arith)
  all_rules (in_move l k B a W n) e = let z : ◌≡◌ {A = ℕ} 0 1 = cc in absurd (omega arith)

module _ (s : Session) (t : Tables) (z : Size s.width s.height) (fit : Fits (cells s) t) (rhs32 : Words t.rhs) (k32 : Words t.k2) where
  -- No place of sound tables is at fault.
  pub sound_nowhere : Sound s t → FirstFault s t None
  sound_nowhere S = nowhere (record { numbers = numbers_rule s t z fit rhs32 k32 S; each_cell = cell_rules s t z fit rhs32 k32 S })

  -- Yes where the check stops nowhere, no where it stops somewhere.
  pub sound_if_none : {f : Option Fault} {b : Bool} → FirstFault s t f → is_some f ≡ not b → Decides b (Sound s t)
  sound_if_none {f = None} {b = true} F e = let B = all_rules F refl in decides_yes (sound_of_rules s t z fit rhs32 k32 B.numbers B.each_cell)
  sound_if_none {f = None} {b = false} F e = absurd (false≢true e)
  sound_if_none {f = Some x} {b = true} F e = absurd (false≢true (sym e))
  sound_if_none {f = Some x} {b = false} F e = decides_no (λ S. let q = one_first_fault F (sound_nowhere S) in let y : ◌≡◌ {A = ℕ} 0 1 = cc in absurd (omega arith))
