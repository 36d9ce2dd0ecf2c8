-- Case by case, as the definition has it.
use Rattle.forcing.specs.Rows.{sooner}
use Rattle.forcing.proofs.sooner_of.Goals as goal

pub returns-in-Dead : goal.returns-in-Dead
unfolding sooner
returns-in-Dead c = rw c.in-Dead.is

pub returns-in-Dead-b : goal.returns-in-Dead-b
unfolding sooner
returns-in-Dead-b c = rw (c.in-Take.is, c.in-Dead-b.is)

pub returns-in-Take-b : goal.returns-in-Take-b
unfolding sooner
returns-in-Take-b c = rw (c.in-Take.is, c.in-Take-b.is)

pub returns-in-Settled-b : goal.returns-in-Settled-b
unfolding sooner
returns-in-Settled-b c = rw (c.in-Take.is, c.in-Settled-b.is)

pub returns-in-Settled : goal.returns-in-Settled
unfolding sooner
returns-in-Settled c = rw c.in-Settled.is
