-- Each answer has its word, and its numbers after it.
use mathlib.Core.List.{◌++◌}
use Rattle.answer.specs.Answer.{told, search_outcome}
use Rattle.line.specs.Line.{fields, best, none, stopped, refusal, dash, words_of}
use Rattle.line.proofs.Puts.{put_then, put-run, put_last}
use Rattle.line.proofs.put_answer.Goals as goal

pub returns-in-Ok-Best-clause-put : goal.returns-in-Ok-Best-clause-put
unfolding words_of told search_outcome
returns-in-Ok-Best-clause-put c = rw (c.in-Ok-Best.is, rw c.in-Ok-Best.is at c.in-Ok-Best.field-0-is) (put_then _ _ _ _ _ _ _ _ (put-run _ _ _ best c.put.ensures) c.put_found.ensures.put)

pub returns-in-Ok-None-clause-put : goal.returns-in-Ok-None-clause-put
unfolding words_of told search_outcome fields
returns-in-Ok-None-clause-put c =
    rw (c.in-Ok-None.is, rw c.in-Ok-None.is at c.in-Ok-None.field-0-is)
    (put_then _ _ _ _ _ _ _ _ (put-run _ _ _ none c.put-in-Ok-None.ensures) (put_last _ _ _ _ _ (rw c.from.ensures at c.put_number.ensures.put)))

pub returns-in-Ok-Stopped-clause-put : goal.returns-in-Ok-Stopped-clause-put
unfolding words_of told search_outcome
returns-in-Ok-Stopped-clause-put c =
    rw (c.in-Ok-Stopped.is, rw c.in-Ok-Stopped.is at c.in-Ok-Stopped.field-0-is) (put_then _ _ _ _ _ _ _ _ (put-run _ _ _ (stopped ++ dash) c.put-in-Ok-Stopped.ensures) c.put_halted.ensures.put)

pub returns-in-Ok-StoppedWith-clause-put : goal.returns-in-Ok-StoppedWith-clause-put
unfolding words_of told search_outcome
returns-in-Ok-StoppedWith-clause-put c =
    rw (c.in-Ok-StoppedWith.is, rw c.in-Ok-StoppedWith.is at c.in-Ok-StoppedWith.field-0-is)
    (put_then _ _ _ _ _ _ _ _ (put-run _ _ _ stopped c.put-in-Ok-StoppedWith.ensures) c.put_found-in-Ok-StoppedWith.ensures.put)

pub returns-in-Err-clause-put : goal.returns-in-Err-clause-put
unfolding words_of search_outcome fields
returns-in-Err-clause-put c =
    rw c.in-Err.is
    (put_then _ _ _ _ _ _ _ _ (put-run _ _ _ refusal c.put-in-Err.ensures)
    (put_last _ _ _ _ _ (rw (c.from-in-Err-2.ensures, c.from-in-Err.ensures) at c.put_number-in-Err.ensures.put)))
