-- The aim of the last search taken over.
use mathlib.Core.Path.{sym, subst}
use mathlib.Core.List.{List}
use Prim.Native.Nat.{ℕ, ◌≤◌, ◌<◌}
use Rattle.method.specs.Tables as method
use Rattle.plan.specs.Costs.{Obeys}
use Rattle.plan.specs.declared.Spot.{Spot}
use Rattle.tables.specs.declared.Session.{Session}
use Rattle.tables.specs.Lent.{Tables, cells, floor}
use Rattle.entries.specs.declared.Aim.{Aim}
use Rattle.entries.specs.Aims.{aim_of, AimOf, Aimed, most_km, ReadyAt}
use Rattle.entries.specs.Became.{Became}

-- It is one.
pub aimed : {s : Session} {a : Aim} {plan : List ℕ} → AimOf s a → Obeys (floor s plan) → s.origin < cells s → s.goal < cells s → s.km ≤ most_km → Aimed a plan
aimed {s} {a} {plan} O p h g k =
    subst (λ x. Aimed x plan) (sym O.is) (record { obeys = p; hunter_in = h; target_in = g; target_at = O.target_at; km_le = k })

-- What is ready for the record's own aim is ready for this one.
pub ready_of : {s : Session} {a : Aim} {most count cell : ℕ} {at : Spot} {t : Tables} → AimOf s a → ReadyAt (aim_of s a.target_at) most count cell at t → ReadyAt a most count cell at t
ready_of {most = most} {count = count} {cell = cell} {at = at} {t = t} O = subst (λ x. ReadyAt x most count cell at t) (sym O.is)

-- What the tables became, told of the record.
pub became_of : {s : Session} {a : Aim} {count : ℕ} {t : Tables} (f : Aim → method.Tables) → AimOf s a → Became a count t (f a)
    → Became (aim_of s a.target_at) count t (f (aim_of s a.target_at))
became_of {count = count} {t = t} f O = subst (λ x. Became x count t (f x)) O.is
