-- The line of the call's answer with no lists is the line of the definitions' outcome.
use mathlib.Core.Path.{◌≡◌, ◌∙◌}
use native.Mathlib.Omega.{arith}
use lib.ListN.{length}
use Rattle.answer.specs.Answer.{search_outcome}
use Rattle.search.specs.Searching.{searching}
use Rattle.search.proofs.Unasked.{unasked_search, unasked_list}
use Rattle.line.proofs.Puts.{put_front}
use Rattle.report.proofs.search_line.Goals as goal

pub returns : goal.returns
returns c =
    let told : let a = c.args in
    search_outcome c.search-answer.result ≡ searching a.file.now a.limit (length a.plan.now) = c.search-answer.ensures.result_value ∙ unasked_search _ _ _ in
    let q = rw told at c.put_line.ensures.put in record { upper_bound = c.put_line.ensures.upper_bound; value = omega (arith, q.ends); out_after = put_front _ _ _ _ q (omega (arith, c.put_line.ensures.upper_bound, c.requires)); plan_after = rw (told, unasked_list c.args.file.now c.args.limit) at c.search-answer.ensures.plan_after }
