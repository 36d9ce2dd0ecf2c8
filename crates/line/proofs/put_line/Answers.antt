-- The line feed comes after the words.
use Rattle.line.specs.Line.{line_of}
use Rattle.line.proofs.Puts.{put_then, put-run}
use Rattle.line.proofs.put_line.Goals as goal

pub returns-clause-put : goal.returns-clause-put
unfolding line_of
returns-clause-put c = put_then _ _ _ _ _ _ _ _ c.put_answer-end.ensures.put (put-run _ _ _ _ c.put.ensures)
