-- A direction, and then whether the move stays, by the promise of `stays_in`.
use Rattle.decide.proofs.DecideLaws.{decides_as}
use Rattle.plan.proofs.is_move.Goals as goal

pub returns-then-d-lt4 : goal.returns-then-d-lt4
returns-then-d-lt4 c = decides_as (c.stays_in.ensures _ c.spot_of.ensures c.requires.inside) (λ s. (c.if-d-lt4.true, s)) (λ m. m.1)
