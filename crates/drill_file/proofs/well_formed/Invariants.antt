-- The reader stands behind the actions that were looked at, and those after it decide whether all are well formed.
use Rattle.std.proofs.Common.{◌≡◌, ◌+◌, ◌*◌, ◌-◌}
use Rattle.drill_file.specs.File.{actions_from, well_formed}
use Rattle.drill_file.proofs.well_formed.Given as goal

abbrev pub invariant-loop : goal.invariant-loop
invariant-loop l = record {
  file_stays : l.reader.file.now ≡ l.file;
  place : l.reader.at ≡ l.from + 5 * l.counter;
  same : well_formed (actions_from l.file l.from l.actions) ≡ well_formed (actions_from l.file l.reader.at (l.actions - l.counter));
}
