-- The rules of a search give one number; number 0 gives every rule, and where every rule holds the number is 0.
use mathlib.Core.Path.{◌≡◌}
use mathlib.Core.List.{List}
use Prim.Native.Nat.{ℕ, ◌≤◌}
use native.Mathlib.Omega.{arith}
use lib.ListN.{length}
use Rattle.refusal.specs.declared.Refusal.{Refusal}
use Rattle.refusal.specs.Numbers.{number_of}
use Rattle.refusal.proofs.NumberLaws.{numbered}
use Rattle.decide.specs.Ruled.{fails, holds, Passed, passed}
use Rattle.decide.proofs.RuledLaws.{passed_one, ruled_one, granted, passed_zero, onward}
use Rattle.tables.specs.declared.Session.{Session}
use Rattle.tables.specs.Lent.{Tables, cells, Fits}
use Rattle.tables.specs.Sound.{Sound}
use Rattle.session.specs.Refusals.{TableRules}
use Rattle.session.proofs.RefusalLaws.{table_number, tables_granted, sound_rules}
use Rattle.search.specs.Promise.{SearchRules}

module _ {s : Session} {t : Tables} (way : List ℕ) where
  pub search_number : {k l : ℕ} → SearchRules s t way k → SearchRules s t way l → k ≡ l
  search_number {k} {l} = ruled_one (ruled_one (ruled_one (ruled_one passed_one))) k l

  pub search_granted : {k : ℕ} → SearchRules s t way k → k ≡ 0 → Sound s t × (cells s ≤ length way)
  search_granted r e =
      let a = granted r e in
      let b = granted a.1 e in
      let c = granted b.1 e in
      (c.0, (granted c.1 e).0)

  pub search_passes : {k : ℕ} → SearchRules s t way k → Fits (cells s) t → Sound s t → cells s ≤ length way → k ≡ 0
  search_passes r f S l = passed_zero (onward l (onward S (onward f (onward S.plan.size r))))

  -- Tables that break a rule refuse the search by it.
  pub tables_refuse : (r : Refusal) → TableRules s t Passed (number_of r) → SearchRules s t way (number_of r)
  tables_refuse r R = table_number R (λ z. omega (arith, numbered r, z))

-- By these each return of the check is proved.
pub ruleset refusing = (tables_refuse, tables_granted, sound_rules, fails, holds, passed)
