-- A refusal's number gives the refusal back, and is not 0.
use mathlib.Core.Path.{◌≡◌, refl}
use Prim.Native.Nat.{◌<◌}
use native.Mathlib.Omega.{arith}
use Rattle.refusal.specs.declared.Refusal.{Refusal}
use Rattle.refusal.specs.declared.Refusal.TheVariants.{Size, Length, Cell, Move, Cost, Tables, Room, File, CutOff}
use Rattle.refusal.specs.Numbers.{number_of, refusal_of}

-- The refusal that has a number is the one refused by it.
pub refusal_is : (r : Refusal) → refusal_of (number_of r) ≡ r
refusal_is Size = refl
refusal_is Length = refl
refusal_is Cell = refl
refusal_is Move = refl
refusal_is Cost = refl
refusal_is Tables = refl
refusal_is Room = refl
refusal_is File = refl
refusal_is CutOff = refl

-- Every number is above 0.
pub numbered : (r : Refusal) → 0 < number_of r
numbered r = grind arith
