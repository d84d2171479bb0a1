-- The numbers of document 01's refusals, and the number that the result of a check tells.
use Rattle.std.specs.Prelude.{List, [], ◌∷◌, ◌++◌, ℕ, ◌-◌, get_or, Result, Ok, Err, codes, decimal}
use Rattle.refusal.specs.declared.Refusal.{Refusal}
use Rattle.refusal.specs.declared.Refusal.TheVariants.{Size, Length, Cell, Move, Cost, Tables, Room, File, CutOff}

-- The number of each refusal.
abbrev pub number_of : Refusal → ℕ
number_of Size = 1
number_of Length = 2
number_of Cell = 3
number_of Move = 4
number_of Cost = 5
number_of Tables = 6
number_of Room = 7
number_of File = 8
number_of CutOff = 9

-- The refusal that has a number.
abbrev pub refusal_of : ℕ → Refusal
refusal_of number = get_or (Size ∷ Length ∷ Cell ∷ Move ∷ Cost ∷ Tables ∷ Room ∷ File ∷ []) (number - 1) CutOff

-- The number by which a call is refused, 0 where it is not.
abbrev pub number_in : {A : Type 0} → Result A Refusal → ℕ
number_in (Ok _) = 0
number_in (Err r) = number_of r

-- What is printed of a refusal.
abbrev pub told : Refusal → List ℕ
told r = codes "refused " ++ decimal (number_of r)
