-- By the arms of the match: a refusal gives its number, and each answer its values; the number of columns fits.
use mathlib.Core.Path.{ap}
use borrow.Author.Rules.{rules}
use mir.Syntax.{w64}
use mir.Val.{SFits}
use mir.Facts.{to_z-of_z}
use Rattle.answer.specs.Answer.{search_outcome, told}
use Rattle.flat.specs.Flat.{answer_of}
use Rattle.flat.specs.Fits.{columns_in}
use Rattle.flat.proofs.flat_answer.Goals as goal

pub shown-requires : goal.shown-requires
unfolding search_outcome told columns_in
shown-requires c = rw c.in-Best.is at (c.requires _ (ap search_outcome c.in-Ok.is))

pub shown-requires-in-StoppedWith : goal.shown-requires-in-StoppedWith
unfolding search_outcome told columns_in
shown-requires-in-StoppedWith c = rw c.in-StoppedWith.is at (c.requires _ (ap search_outcome c.in-Ok.is))

pub returns-in-Err : goal.returns-in-Err
unfolding answer_of search_outcome
returns-in-Err c =
    let d = c.default.ensures in
    rw (c.in-Err.is, c.from.ensures, d.1.0, d.1.1.0, d.1.1.1.0, d.1.1.1.1.0, d.1.1.1.1.1.0, d.1.1.1.1.1.1)

pub returns-in-None : goal.returns-in-None
unfolding answer_of search_outcome told
returns-in-None c =
    let d = c.default-in-None.ensures in
    rw (c.in-Ok.is, c.in-None.is, d.0, d.1.1.0, d.1.1.1.0, d.1.1.1.1.1.0, d.1.1.1.1.1.1)

pub returns-in-Stopped : goal.returns-in-Stopped
unfolding answer_of search_outcome told
returns-in-Stopped c =
    let d = c.default-in-Stopped.ensures in
    let f : SFits w64 c.in-Stopped.at.bound = search rules in
    rw (c.in-Ok.is, c.in-Stopped.is, to_z-of_z f, d.0, d.1.1.0, d.1.1.1.0, d.1.1.1.1.1.0)

pub returns-in-Best : goal.returns-in-Best
unfolding answer_of search_outcome told
returns-in-Best c = rw (c.in-Ok.is, c.in-Best.is) c.shown.ensures

pub returns-in-StoppedWith : goal.returns-in-StoppedWith
unfolding answer_of search_outcome told
returns-in-StoppedWith c = rw (c.in-Ok.is, c.in-StoppedWith.is) c.shown-in-StoppedWith.ensures
