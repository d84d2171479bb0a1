-- The whole output of the drill runner, for every byte string.
use Rattle.std.specs.Prelude.{List, ℕ}
use Rattle.std.proofs.Math.Decide.{ℕ_discrete}
use Rattle.decide.specs.Choose.{choose}
use Rattle.tables.specs.Lent.{Frame, frame_of_size}
use Rattle.standing.specs.Standing.{Standing, opened}
use Rattle.drill_file.specs.File.{trailer_of, actions_of}
use Rattle.drill_file.specs.Numbers.{plan_in, file_number}
use Rattle.lines.specs.Lines.{refused_line}
use Rattle.drill.specs.Play.{played}

-- The frame that a file's trailer tells.
abbrev pub frame_in : List ℕ → Frame
frame_in file = frame_of_size (trailer_of file).width (trailer_of file).height

-- Where open leaves all.
abbrev pub begun : List ℕ → Standing
begun file = opened (frame_in file) (plan_in file) (trailer_of file).hunter (trailer_of file).target

-- "A refused file prints `refused` and the number, nothing else"; else the actions print their lines.
unfoldable pub output : List ℕ → List ℕ
output file = choose (ℕ_discrete (file_number file) 0) (played (begun file) (actions_of file)) (refused_line (file_number file))
