-- The answer of a search that has ended, by whether it is stopped and whether a plan is kept; and the plan as the list shows it.
use mathlib.Core.Path.{◌≡◌, refl, ap, ◌∙◌}
use mathlib.Core.Bool.{Bool, true, false}
use mathlib.Core.List.{List, [], ◌∷◌, map}
use Prim.Native.Nat.{ℕ, suc, ◌-◌}
use native.Mathlib.Omega.{arith}
use lib.ListN.{length, drop, length-map}
use lib.Seq.{take-append_seam}
use Rattle.refusals.specs.Refusals.{front}
use Rattle.rules.specs.Search.{nothing, plan, best, none, stopped, finished, shown_by}
use Rattle.rules.specs.Limited.{answer_if, answer_from}
use Rattle.tally.specs.Tally.{taken_in, kept_by}
use Rattle.solver.specs.declared.Solved.{Solved}
use Rattle.solver.specs.Solved.{solved_answer}
use Rattle.answer.specs.Answer.{listed}

module _ (w : ℕ) (done : Solved) where
  pub answer-stopped : done.tally.kept ≡ false → done.tally.stopped ≡ true →
      solved_answer w done ≡ stopped nothing done.bound done.tally.nodes
  unfolding answer_from answer_if kept_by
  answer-stopped k s = rw (s, k)

  pub answer-none : done.tally.kept ≡ false → done.tally.stopped ≡ false → solved_answer w done ≡ none done.tally.nodes
  unfolding answer_from answer_if kept_by finished
  answer-none k s = rw (s, k)

  pub answer-stopped-with : done.tally.kept ≡ true → done.tally.stopped ≡ true →
      solved_answer w done ≡ stopped (plan done.tally.cost (taken_in w done.tally.plan)) done.bound done.tally.nodes
  unfolding answer_from answer_if kept_by
  answer-stopped-with k s = rw (s, k)

  pub answer-best : done.tally.kept ≡ true → done.tally.stopped ≡ false →
      solved_answer w done ≡ best done.tally.cost done.bound done.tally.nodes (taken_in w done.tally.plan)
  unfolding answer_from answer_if kept_by finished
  answer-best k s = rw (s, k)

  -- a plan that is kept is shown
  pub kept-shown : done.tally.kept ≡ true → shown_by (solved_answer w done) ≡ plan done.tally.cost (taken_in w done.tally.plan)
  unfolding shown_by
  kept-shown k = go done.tally.stopped refl
    where
      go : (b : Bool) → done.tally.stopped ≡ b → shown_by (solved_answer w done) ≡ plan done.tally.cost (taken_in w done.tally.plan)
      go true s = ap shown_by (answer-stopped-with k s)
      go false s = ap shown_by (answer-best k s)

-- columns numbered from 1 and back
less_one : (js : List ℕ) → map (λ j. j - 1) (map suc js) ≡ js
less_one [] = refl
less_one (j ∷ js) = let e : suc j - 1 ≡ j = omega arith in rw (e, less_one js)

pub listed-front : (n : ℕ) (js old list : List ℕ) → n ≡ length js → list ≡ front (map suc js) old → listed n list ≡ js
unfolding listed front
listed-front n js old list e h =
    let m : n ≡ length (map suc js) = e ∙ rw (length-map js suc) in
    rw (h, m, take-append_seam (map suc js) (drop (length (map suc js)) old)) (less_one js)
