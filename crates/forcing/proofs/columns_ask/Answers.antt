-- By the number of free columns: none, just one, or more.
use native.Mathlib.Omega.{arith}
use Rattle.forcing.proofs.Columns.{asks_none, asks-one, asks-more}
use Rattle.forcing.proofs.columns_ask.Goals as goal

pub returns-in-0 : goal.returns-in-0
returns-in-0 c = asks_none _ _ c.free_count-n.ensures c.in-0.is

pub returns-in-1 : goal.returns-in-1
returns-in-1 c = asks-one _ _ _ c.free_count-n.ensures c.in-1.is c.first_free-j.ensures

pub returns-in-2-to-max : goal.returns-in-2-to-max
returns-in-2-to-max c = asks-more _ _ c.free_count-n.ensures (omega arith)
