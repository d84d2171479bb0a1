-- The rules of a change give one number; number 0 gives every rule, and where every rule holds the number is 0.
use mathlib.Core.Path.{◌≡◌, refl}
use Prim.Native.Nat.{ℕ}
use native.Mathlib.Omega.{arith}
use Rattle.std.specs.Prelude.{Ok, Err}
use Rattle.refusal.specs.declared.Refusal.{Refusal}
use Rattle.refusal.specs.Numbers.{number_of}
use Rattle.refusal.proofs.NumberLaws.{numbered}
use Rattle.decide.specs.Ruled.{Passed}
use Rattle.decide.proofs.RuledLaws.{passed_one, ruled_one, granted, passed_zero, onward}
use Rattle.tables.specs.declared.Session.{Session}
use Rattle.tables.specs.Lent.{Tables, cells, Fits}
use Rattle.tables.specs.Sound.{Sound}
use Rattle.session.specs.Refusals.{TableRules}
use Rattle.session.proofs.RefusalLaws.{told_in, table_number, sound_rules}
use Rattle.change.specs.Refusals.{MoveRules, ChangeRules, Workable}
use Rattle.change.specs.Promise.{counted, WorkedIn, Changes}

pub change_number : {s : Session} {t : Tables} {u d cost k l : ℕ} → ChangeRules s t u d cost k → ChangeRules s t u d cost l → k ≡ l
change_number {k = k} {l = l} = ruled_one (ruled_one (ruled_one (ruled_one (ruled_one (ruled_one passed_one))))) k l

pub change_granted : {s : Session} {t : Tables} {u d cost k : ℕ} → ChangeRules s t u d cost k → k ≡ 0 → Workable s t u d cost
change_granted r e =
    let a = granted r e in
    let b = granted a.1 e in
    let c = granted b.1 e in
    let f = granted c.1 e in
    let g = granted f.1 e in
    record { sound = c.0; cell_in = f.0; direction = g.0.0; stays_in = g.0.1; byte = (granted g.1 e).0 }

pub change_passes : {s : Session} {t : Tables} {u d cost k : ℕ} → ChangeRules s t u d cost k → Fits (cells s) t → Workable s t u d cost → k ≡ 0
change_passes r f w = passed_zero (onward w.byte (onward (w.direction, w.stays_in) (onward w.cell_in (onward w.sound (onward f (onward w.sound.plan.size r))))))

-- A move that breaks no rule can be worked in on sound tables.
pub workable : {s : Session} {t : Tables} {u d cost : ℕ} → Sound s t → MoveRules s u d cost 0 → Workable s t u d cost
workable S r = change_granted (sound_rules S r) refl

-- ---- what is replied

-- Tables that break a rule refuse the change by it ..
pub tables_refuse : {s : Session} {t : Tables} {u d cost : ℕ} (r : Refusal) → TableRules s t Passed (number_of r) → ChangeRules s t u d cost (number_of r)
tables_refuse r R = table_number R (λ z. omega (arith, numbered r, z))

-- .. the record and the tables as they came.
pub refused_reply : {s : Session} {t : Tables} {u d cost : ℕ} (r : Refusal) → ChangeRules s t u d cost (number_of r) → Changes s t u d cost (record { session = s; answer = Err r }) t
refused_reply r R = record { number = number_of r; rules = R; answer = told_in (Err r); refused = λ _. (refl, refl); done = λ z. absurd (omega (arith, numbered r, z)) }

-- Done: what is worked in.
pub done_reply : {s : Session} {t t' : Tables} {u d cost n : ℕ} → ChangeRules s t u d cost 0 → WorkedIn s t u d cost n t' → Changes s t u d cost (record { session = counted s n; answer = Ok tt }) t'
done_reply R W = record { number = 0; rules = R; answer = refl; refused = λ n. absurd (n refl); done = λ _. (refl, W) }

-- By these each refusal is proved.
pub ruleset refusing = (tables_refuse, sound_rules, refused_reply)
