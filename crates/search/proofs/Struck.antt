-- An absent column is struck from the agreed list first (02, P9): the answers are those of before for the list that is left. So where no
-- number stands in both lists they are those of before, for every file, node limit, lists and plan list, in outcome and list, for both
-- goals; and where some number does, the answer before was none with 1 node.
use mathlib.Core.Path.{◌≡◌, refl, ap, ◌∙◌}
use mathlib.Core.Bool.{true, false}
use mathlib.Core.List.{List}
use Prim.Native.Nat.{ℕ}
use Rattle.refusals.specs.Refusals.{fine, ◌then◌}
use Rattle.refusals.proofs.Laws.{both}
use Rattle.node.specs.Lists.{member}
use Rattle.node.specs.Matrix.{Matrix, Instance}
use Rattle.node.specs.Node.{root}
use Rattle.rules.specs.declared.Goal.{Goal}
use Rattle.rules.specs.declared.Goal.TheVariants.{Sum, Longest}
use Rattle.rules.specs.Search.{none}
use Rattle.rules.specs.Tree.{answer}
use Rattle.rules.specs.Goals.{search_for}
use Rattle.rules.specs.Agreed.{struck}
use Rattle.rules.specs.Requests.{Requests, asking, begun, unstruck_start, requested}
use Rattle.rules.proofs.Struck.{struck-same}
use Rattle.rules.proofs.Requests.{goal_both_none}
use Rattle.dutyfile.specs.File.{parse, instance, shape}
use Rattle.dutyfile.proofs.Facts.{Accepted, file-fine, ask-within}
use Rattle.matrix.proofs.Accepted.{file-small, file-wide}
use Rattle.search.specs.Searching.{call_fault}
use Rattle.search.specs.Requests.{call_fault_with, fault_with, answer_with, searching_with, plan_list_with}
use Rattle.search.specs.Requests.{longest_answer_with, longest_searching_with, longest_list_with}
use Rattle.search.specs.Goals.{first_fault}
use Rattle.search.specs.Unstruck.{unstruck_answer, unstruck_searching, unstruck_list}
use Rattle.search.proofs.Listed.{listed}

module _ (file : List ℕ) (limit : ℕ) (q : Requests) where
  abbrev p : Instance
  p = instance (parse file)

  abbrev m : Matrix
  m = p.matrix

  -- any lists
  pub struck-answer : (g : Goal)
      → answer (requested m q (search_for g m)) m (begun (search_for g m) m q (root m p.costs)) limit
      ≡ unstruck_answer g file limit (asking (struck q.agreed q.absent) q.absent q.pairs)
  unfolding begun unstruck_start unstruck_answer
  struck-answer g = refl

  -- no number in both lists
  module _ (apart : (j : ℕ) → member j q.agreed ≡ true → member j q.absent ≡ false) where
    answers : (g : Goal)
        → answer (requested m q (search_for g m)) m (begun (search_for g m) m q (root m p.costs)) limit ≡ unstruck_answer g file limit q
    answers g =
        struck-answer g
        ∙ ap (λ (js : List ℕ). unstruck_answer g file limit (asking js q.absent q.pairs)) (struck-same q.agreed q.absent apart)

    pub apart_search : (places : ℕ) → searching_with file limit q places ≡ unstruck_searching Sum file limit q places
    unfolding search_for first_fault ◌then◌ searching_with answer_with unstruck_searching
    apart_search places = rw (← answers Sum)

    pub apart_list : plan_list_with file limit q ≡ unstruck_list Sum file limit q
    unfolding search_for plan_list_with answer_with unstruck_list
    apart_list = rw (← answers Sum)

    pub apart-longest : (places : ℕ) → longest_searching_with file limit q places ≡ unstruck_searching Longest file limit q places
    unfolding search_for first_fault longest_searching_with longest_answer_with unstruck_searching
    apart-longest places = rw (← answers Longest)

    pub apart_longest_list : longest_list_with file limit q ≡ unstruck_list Longest file limit q
    unfolding search_for longest_list_with longest_answer_with unstruck_list
    apart_longest_list = rw (← answers Longest)

  -- a number in both lists, in a call that passes its tests
  module _ (places : ℕ) (h : fault_with file limit q places ≡ fine) (j : ℕ) (agreed : member j q.agreed ≡ true)
      (absent : member j q.absent ≡ true) where
    pub overlap_none : (g : Goal) → unstruck_answer g file limit q ≡ none 1
    unfolding fault_with call_fault_with call_fault unstruck_answer shape instance
    overlap_none g =
        let b = both _ _ h in
        let c = both _ _ b.1 in
        let a : Accepted file = file-fine file b.0 in
        let within = ask-within 1 1000000 limit 11 (both _ _ c.0).1 in
        goal_both_none m (file-small file a).fits p.costs q (listed m (shape file) q (file-wide file a) c.1) limit within.least g j
        agreed absent
