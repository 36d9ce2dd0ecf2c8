-- The rows that are left to look at give what all of them give.
use Rattle.std.proofs.Common.{◌≡◌, ◌-◌, get_or}
use Rattle.verify.specs.Verdict.{lowest}
use Rattle.verify.proofs.judge.Given as goal

abbrev pub invariant-loop-i : goal.invariant-loop-i
invariant-loop-i l = lowest (λ k. get_or l.covered k 0) l.cost (l.rows - l.i) l.i ≡ lowest (λ k. get_or l.covered k 0) l.cost l.rows 0
