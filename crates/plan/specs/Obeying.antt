-- That a plan obeys its rules has one proof at most, so that a floor can carry it.
use mathlib.Core.Logic.{inl, inr}
use mathlib.Core.Path.{◌≡◌, ap}
use native.Mathlib.Omega.{arith}
use Rattle.std.specs.Prelude.{ℕ}
use Rattle.std.proofs.Props.{props}
use Rattle.plan.specs.Costs.{Plan, IsCost, shut, IsByte, Obeys}

-- That a byte is a cost or shut has one proof at most, since no cost is shut.
pub IsByte-prop : (c : ℕ) → IsProp (IsByte c)
IsByte-prop c (inl a) (inl b) = ap inl (one a b)
  where
    one : IsProp (IsCost c)
    one = hlevel props
IsByte-prop c (inl a) (inr e) = absurd (omega (arith, a.1, e))
IsByte-prop c (inr e) (inl a) = absurd (omega (arith, a.1, e))
IsByte-prop c (inr e) (inr f) = ap inr (one e f)
  where
    one : IsProp (c ≡ shut)
    one = hlevel props

-- So it is with the rules of a plan.
pub Obeys-prop : (p : Plan) → IsProp (Obeys p)
Obeys-prop p = hlevel (props, IsByte-prop)
