-- The word takes the place of as many bytes behind the text.
use Rattle.std.proofs.Common.{arith}
use Rattle.text.proofs.PutLaws.{put_part}
use Rattle.text.proofs.Text.put_word.Goals as goal

pub returns-clause-put : goal.returns-clause-put
returns-clause-put c = put_part _ _ _ _ c.copy_over.ensures (omega arith) (omega arith)
