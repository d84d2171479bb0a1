-- The parts of a well-formed file are lent to the writer, and what it leaves is the file again (`again`).
use mathlib.Core.Path.{sym}
use native.Mathlib.Omega.{arith}
use lib.Seq.{length-take-le}
use Rattle.rewrite_trial.proofs.AgainLaws.{badly_formed, offset_in, again}
use Rattle.rewrite_trial.proofs.rewrite.Goals as goal

pub returns-in_err-check_form : goal.returns-in_err-check_form
returns-in_err-check_form c = badly_formed _ _ c.from_residual.result _ c.from_residual.ensures.1 c.in_err-check_form.ensures

pub overflow_sub-end : goal.overflow_sub-end
overflow_sub-end c = omega (arith, offset_in _ c.trailer_in-t.ensures (sym c.in_ok-check_form.ensures))

pub slice_bounds-write-end : goal.slice_bounds-write-end
slice_bounds-write-end c = sym (length-take-le _ _ (omega (arith, offset_in _ c.trailer_in-t.ensures (sym c.in_ok-check_form.ensures))))

pub slice_bounds-write-count : goal.slice_bounds-write-count
slice_bounds-write-count c = omega (arith, offset_in _ c.trailer_in-t.ensures (sym c.in_ok-check_form.ensures))

pub slice_bounds-write-start : goal.slice_bounds-write-start
slice_bounds-write-start c = omega (arith, offset_in _ c.trailer_in-t.ensures (sym c.in_ok-check_form.ensures))

pub returns : goal.returns
returns c =
    again _ c.trailer_in-t.ensures (sym c.in_ok-check_form.ensures) c.write.ensures
    (λ i. omega (arith, c.shared_slice_known-1.given i)) c.requires
