-- What it means that a call leaves what the definitions say.
use Rattle.std.specs.Prelude.{◌≡◌, ◌≢◌, ℕ}
use Rattle.tables.specs.declared.Session.{Session}
use Rattle.tables.specs.Lent.{Tables, frame}
use Rattle.tables.specs.Sound.{Sound}
use Rattle.standing.specs.Standing.{Standing, stands}

-- A call on the record s and the tables t, of whose rules `number` is the first broken, leaves r and t': sound tables in the same frame; refused, all stands as it stood; done, as `next` says.
pub record Leaves (s : Session) (t : Tables) (number : ℕ) (next : Standing) (r : Session) (t' : Tables) : Type 0 where
  pub sound : Sound r t'
  pub frame_is : frame r ≡ frame s
  pub refused : number ≢ 0 → stands r t' ≡ stands s t
  pub done : number ≡ 0 → stands r t' ≡ next
