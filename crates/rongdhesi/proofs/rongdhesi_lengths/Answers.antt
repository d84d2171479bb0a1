-- The size's rule by the promise of `is_size`; a good size has at most 4,096 cells, so no product passes its width.
use mathlib.Core.Path.{refl}
use native.Mathlib.Omega.{arith}
use Rattle.decide.proofs.DecideLaws.{refuted}
use Rattle.decide.specs.Ruled.{fails, holds, passed}
use Rattle.rongdhesi.proofs.rongdhesi_lengths.Goals as goal

pub returns-then-not-is_size : goal.returns-then-not-is_size
returns-then-not-is_size c =
    record { rules = rw c.number.ensures (fails (refuted c.is_size.ensures c.if-not-is_size.true)); refused = λ _. (refl, refl); done = λ z. absurd (omega (arith, z, c.number.ensures)) }

pub returns : goal.returns
returns c = record { rules = holds (c.is_size.ensures.so c.if-not-is_size.false) passed; refused = λ n. absurd (n refl); done = λ _. (refl, refl) }
