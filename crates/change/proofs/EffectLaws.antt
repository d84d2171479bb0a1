-- What a changed move asks, return by return.
use mathlib.Core.Path.{◌≡◌, sym, subst}
use mathlib.Core.Logic.{◌≢◌}
use mathlib.Core.List.{List}
use Prim.Native.Nat.{ℕ, ◌+◌, ◌<◌}
use native.Mathlib.Omega.{arith}
use lib.ListN.{get_or}
use Rattle.method.specs.Tables as method
use Rattle.tables.specs.declared.Session.{Session}
use Rattle.tables.specs.Lent.{graph_in}
use Rattle.entries.specs.declared.Aim.{Aim}
use Rattle.entries.specs.declared.Found.{Found}
use Rattle.entries.specs.Aims.{frame_of, AimOf, Findable}
use Rattle.entries.specs.Became.{found_of}
use Rattle.std.specs.Prelude.{Some}
use Rattle.change.specs.Effects.{Asks, keeps, falls, rises}

-- What can be found anew in a session can be by its aim.
pub findable_by : {s : Session} {a : Aim} {plan g : List ℕ} {v : ℕ} → AimOf s a → Findable s.width s.height plan g v → Findable a.width a.height plan g v
findable_by {plan = plan} {g = g} {v = v} O = subst (λ x. Findable x.width x.height plan g v) (sym O.is)

module _ {s : Session} {plan g rhs parent : List ℕ} {v k u old new : ℕ} where
  pub asked_falls : {sum : ℕ} → v ≢ s.origin → new < old → sum ≡ get_or g u 0 + new → sum < get_or rhs v 0
      → Asks s plan g rhs parent v k u old new (Some (record { cell = v; found = record { rhs = sum; parent = k } }))
  asked_falls n f e l = rw e (falls n f (omega arith))

  -- found anew by the session's own aim
  pub asked_rises : {a : Aim} {f : Found} → AimOf s a → v ≢ s.origin → old < new → get_or parent v 0 ≡ k → found_of f ≡ method.anew (graph_in (frame_of a) plan) g v
      → Asks s plan g rhs parent v k u old new (Some (record { cell = v; found = f }))
  asked_rises {f = f} O n l e q =
      subst (λ x. Asks s plan g rhs parent v k u old new (Some (record { cell = v; found = record { rhs = x.sum; parent = x.code } })))
      (sym (subst (λ x. found_of f ≡ method.anew (graph_in (frame_of x) plan) g v) O.is q))
      (rises n l e)

-- By these each return of what is asked is proved.
pub ruleset asking = (findable_by, keeps, asked_falls, asked_rises)
