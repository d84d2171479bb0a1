-- A fresh start of a record whose cells are placed is one at the cells given.
use mathlib.Core.Path.{◌≡◌, sym, subst}
use Prim.Native.Nat.{ℕ}
use Rattle.tables.specs.declared.Session.{Session}
use Rattle.tables.specs.Lent.{Tables, Frame, frame}
use Rattle.entries.specs.Begin.{Openable, placed_on, begun, Opened}

-- A fresh start of the record just made can be made, and is one at the cells given.
module _ {f : Frame} {hunter target : ℕ} {s : Session} {t : Tables} (e : s ≡ placed_on f hunter target) where
  pub openable_on : Openable f hunter target t → Openable (frame s) s.hunter s.target t
  openable_on o = subst (λ x. Openable (frame x) x.hunter x.target t) (sym e) o

  pub opened_on : {r : Session} {t' : Tables} → (r ≡ begun (frame s) s.hunter s.target) × Opened (frame s) s.hunter s.target t t'
      → (r ≡ begun f hunter target) × Opened f hunter target t t'
  opened_on {r} {t'} b = subst (λ x. (r ≡ begun (frame x) x.hunter x.target) × Opened (frame x) x.hunter x.target t t') e b
