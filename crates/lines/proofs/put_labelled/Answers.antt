-- The three texts are put one behind the other.
use Rattle.text.specs.Text.{bytes}
use Rattle.text.proofs.PutLaws.{put_then}
use Rattle.lines.proofs.put_labelled.Goals as goal

pub returns-clause-put : goal.returns-clause-put
unfolding bytes
returns-clause-put c = put_then (put_then c.put_word.ensures.put c.put_decimal.ensures.put) c.put_word-2.ensures.put
