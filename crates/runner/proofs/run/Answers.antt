-- The first piece is handed over, then what is left to play: all of the output, or a write fails.
use Rattle.runner.proofs.RunLaws.{first_read, whole_written, rest_printing}
use Rattle.runner.proofs.run.Goals as goal

pub print_text-left-requires : goal.print_text-left-requires
print_text-left-requires g c = first_read c.requires.running c.begin-begun.ensures.begins

pub returns-then-left-eq0 : goal.returns-then-left-eq0
returns-then-left-eq0 g c = whole_written c.requires.running c.begin-begun.ensures.begins c.print_text-left.ensures c.if-left-eq0.true

pub play_all-requires : goal.play_all-requires
play_all-requires g c = rest_printing c.requires.running c.begin-begun.ensures.begins c.print_text-left.ensures c.if-left-eq0.false
