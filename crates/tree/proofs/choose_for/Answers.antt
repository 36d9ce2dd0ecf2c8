-- By the node's costs for the sum, and by the table of present costs for the longest duty.
use mathlib.Core.Path.{◌∙◌}
use Rattle.tree.proofs.Tables.{sum_choosable, net_choosable, net_choice}
use Rattle.rules.specs.Goals.{search_for}
use Rattle.tree.proofs.choose_for.Goals as goal

pub choose-requires : goal.choose-requires
choose-requires c = sum_choosable _ _ (rw c.in-Sum.is at c.requires)

pub choose-requires-in-Longest : goal.choose-requires-in-Longest
choose-requires-in-Longest c = net_choosable _ _ (rw c.in-Longest.is at c.requires) _ c.present-net.ensures

pub returns-in-Sum : goal.returns-in-Sum
unfolding search_for
returns-in-Sum c = c.choose.ensures ∙ rw c.in-Sum.is

pub returns-in-Longest : goal.returns-in-Longest
returns-in-Longest c =
    let e = c.in-Longest.is in
    rw e (net_choice _ _ (rw e at c.requires) _ c.present-net.ensures _ c.choose-in-Longest.ensures)
