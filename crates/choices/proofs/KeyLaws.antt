-- Keys compared as the code compares them.
use mathlib.Core.Path.{◌≡◌, refl}
use mathlib.Core.List.{List}
use Prim.Native.Nat.{ℕ, ◌+◌, min}
use lib.Dec.{ltb}
use lib.ListN.{get_or}
use Rattle.method.specs.Tables.{key_number, stored_key, calculated_key}
use Rattle.plan.specs.Reached.{between}
use Rattle.plan.specs.declared.Spot.{Spot}
use Rattle.tables.specs.Lent.{tables, core}
use Rattle.entries.specs.declared.Aim.{Aim}
use Rattle.entries.specs.Aims.{hunt}
use Rattle.entries.proofs.EntryLaws.{first_key_is}
use Rattle.choices.specs.Moves.{Keyed}

-- the stored key of a queued cell against its calculated key
pub stale_is : {a : Aim} {u : ℕ} {at : Spot} {g rhs k1 k2 : List ℕ} {m first stored calculated : ℕ} → Keyed a u at g rhs k1 k2
    → m ≡ min (get_or g u 0) (get_or rhs u 0) → first ≡ m + between at a.target_at + a.km
    → stored ≡ key_number (get_or k1 u 0) (get_or k2 u 0) → calculated ≡ key_number first m
    → (plan parent place list : List ℕ) → ltb stored calculated
    ≡ ltb (stored_key (core (tables plan g rhs parent k1 k2 place list)) u) (calculated_key (hunt a plan) (core (tables plan g rhs parent k1 k2 place list)) u)
stale_is K em ef es ec plan parent place list = rw (es, ec, ← first_key_is K.sited K.fits em ef plan, em) refl
