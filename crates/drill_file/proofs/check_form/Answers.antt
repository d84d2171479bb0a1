-- The first rule that the form of a file breaks, `form_number`; past the file's length it is asked of the trailer passed along (`form_of`).
use mathlib.Core.Bool.{false≢true}
use Rattle.std.proofs.Common.{refl, sym, ◌∙◌, arith}
use Rattle.decide.proofs.DecideLaws.{refuted}
use Rattle.plan.proofs.MoveLaws.{area}
use Rattle.drill_file.specs.File.{form_number}
use Rattle.drill_file.proofs.FileLaws.{chosen, passed_by, form_of, actions_few}
use Rattle.drill_file.proofs.check_form.Goals as goal
use Rattle.drill_file.proofs.check_form.Goals.{then-t-plan_bytes-via-then-t-plan_bytes as offset_wrong, then-t-plan_bytes-via-else-t-plan_bytes+then-file-t as length_wrong}

pub returns-then-file-lt-TRAILER : goal.returns-then-file-lt-TRAILER
unfolding form_number
returns-then-file-lt-TRAILER c = passed_by _ _ (λ l. omega (arith, l.0, l.1, c.then-file-lt-TRAILER.either)) refl

pub returns-then-not-is_size : goal.returns-then-not-is_size
returns-then-not-is_size c =
    form_of _ c.requires c.if-file-lt-TRAILER.false c.if-file-gt-GREATEST_FILE.false (passed_by _ _ (refuted c.is_size.ensures c.if-not-is_size.true) refl)

-- A trailer's number of actions has two bytes, so neither the product nor the sums reach 2 ^ 64.
pub overflow_mul-t : goal.overflow_mul-t
overflow_mul-t c = omega (arith, actions_few _ c.requires (λ i. (c.type_inv.file i).fits))

pub overflow_add-t : goal.overflow_add-t
overflow_add-t c =
    let z = c.is_size.ensures.so c.if-not-is_size.false in omega (arith, area z, actions_few _ c.requires (λ i. (c.type_inv.file i).fits), c.if-t-plan_bytes.false)

pub overflow_add-t-else-t-plan_bytes : goal.overflow_add-t-else-t-plan_bytes
overflow_add-t-else-t-plan_bytes c =
    let z = c.is_size.ensures.so c.if-not-is_size.false in omega (arith, area z, actions_few _ c.requires (λ i. (c.type_inv.file i).fits), c.if-t-plan_bytes.false)

pub returns-then-t-plan_bytes : goal.returns-then-t-plan_bytes
returns-then-t-plan_bytes c =
    let z = c.is_size.ensures.so c.if-not-is_size.false in
    form_of _ c.requires c.if-file-lt-TRAILER.false c.if-file-gt-GREATEST_FILE.false
    (chosen _ _ z (passed_by _ _ (λ e. elim c.then-t-plan_bytes.branch [
      | offset_wrong w ↦ omega (arith, e.0, area z, w.if-t-plan_bytes.true)
      | length_wrong w ↦ omega (arith, e.1, w.if-file-t.true)
    ]) refl))

pub returns-then-not-well_formed : goal.returns-then-not-well_formed
returns-then-not-well_formed c =
    let z = c.is_size.ensures.so c.if-not-is_size.false in
    form_of _ c.requires c.if-file-lt-TRAILER.false c.if-file-gt-GREATEST_FILE.false
    (chosen _ _ z (chosen _ _ (omega (arith, c.if-t-plan_bytes.false), omega (arith, c.if-file-t.false))
    (passed_by _ _ (λ e. false≢true (sym c.if-not-well_formed.true ∙ c.well_formed-2.ensures ∙ e)) refl)))

pub returns : goal.returns
returns c =
    let z = c.is_size.ensures.so c.if-not-is_size.false in
    form_of _ c.requires c.if-file-lt-TRAILER.false c.if-file-gt-GREATEST_FILE.false
    (chosen _ _ z (chosen _ _ (omega (arith, c.if-t-plan_bytes.false), omega (arith, c.if-file-t.false))
    (chosen _ _ (sym c.well_formed-2.ensures ∙ c.if-not-well_formed.false) refl)))
