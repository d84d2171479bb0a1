-- The trials that are listed can be made.
use Rattle.std.proofs.Common.{ℕ, ◌<◌, ◌≤◌, Bool, ◌&&◌, nat_lt, nat_le, get_or, length, refl, arith}
use Rattle.std.proofs.lemmas.List.Sums.{AllPass-from_list_all}
use Rattle.std.proofs.lemmas.Bool.Decides.{nat_tests}
use Rattle.queue.specs.Queue.{most}
use Rattle.queue_trial.specs.declared.TheConstants.{TRIALS}

-- The width is not 0, and the size is in the tables.
abbrev pub Fits : ℕ × ℕ → Type 0
Fits t = (0 < t.0) × (0 < t.1) × (t.1 ≤ most)

abbrev fits : ℕ × ℕ → Bool
fits t = nat_lt 0 t.0 && (nat_lt 0 t.1 && nat_le t.1 most)

pub trial_fits : (k : ℕ) (d : ℕ × ℕ) → k < length TRIALS → Fits (get_or TRIALS k d)
trial_fits k d h = let p = AllPass-from_list_all fits TRIALS refl k d h in grind (arith, nat_tests)
