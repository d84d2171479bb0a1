-- Walking a list of moves in two parts.
use mathlib.Core.Path.{◌≡◌, refl}
use mathlib.Core.List.{List, [], ◌∷◌, ◌++◌}
use Prim.Native.Nat.{ℕ}
use Rattle.method.specs.Graph.{Move, Hunt}
use Rattle.method.specs.Tables.{Tables, Found, better, least_over}
use Rattle.method.specs.Steps.{relaxed, relaxed_all, renewed, renewed_all}

pub relaxed_all_append : (H : Hunt) (v : ℕ) (T : Tables) (l m : List Move) → relaxed_all H v T (l ++ m) ≡ relaxed_all H v (relaxed_all H v T l) m
unfolding relaxed_all
relaxed_all_append H v T [] m = refl
relaxed_all_append H v T (a ∷ l) m = relaxed_all_append H v (relaxed H v T a) l m

pub renewed_all_append : (H : Hunt) (T : Tables) (l m : List Move) → renewed_all H T (l ++ m) ≡ renewed_all H (renewed_all H T l) m
unfolding renewed_all
renewed_all_append H T [] m = refl
renewed_all_append H T (a ∷ l) m = renewed_all_append H (renewed H T a) l m

pub least_over_append : (g : List ℕ) (f : Found) (l m : List Move) → least_over g f (l ++ m) ≡ least_over g (least_over g f l) m
unfolding least_over
least_over_append g f [] m = refl
least_over_append g f (a ∷ l) m = least_over_append g (better g f a) l m
