-- Empty lists give the answers of before, for every file, node limit and plan list, in outcome and list, for both goals: an empty list of
-- pairs, in the calls as P8 had them, those that P2 had (02, P8); and with it two empty lists of columns, in the calls as they are now, those
-- of 01 and of P1 (02, P2).
use mathlib.Core.Path.{◌≡◌, refl, ap, ◌∙◌}
use mathlib.Core.Bool.{true, false}
use mathlib.Core.List.{List, []}
use Prim.Native.Nat.{ℕ}
use Rattle.refusals.specs.Refusals.{Fault, fine, fault, ask, ◌then◌}
use Rattle.node.specs.Lists.{member}
use Rattle.node.specs.Matrix.{Matrix, Instance}
use Rattle.node.specs.Node.{root}
use Rattle.rules.specs.declared.Forced.{Forced}
use Rattle.rules.specs.declared.Goal.{Goal}
use Rattle.rules.specs.declared.Goal.TheVariants.{Sum, Longest}
use Rattle.rules.specs.Tree.{Variant, live, answer}
use Rattle.rules.specs.Goals.{search_for}
use Rattle.rules.specs.Pairs.{pairs_of}
use Rattle.rules.specs.Requests.{asking, unasked, unstruck_start}
use Rattle.rules.proofs.Agreed.{agreed-none}
use Rattle.rules.proofs.Pairs.{paired_none}
use Rattle.dutyfile.specs.File.{parse, instance, shape}
use Rattle.dutyfile.specs.Faults.{rising, file_fault}
use Rattle.search.specs.Searching.{call_fault, file_answer, searching, plan_list}
use Rattle.search.specs.Longest.{longest_answer, longest_searching, longest_list}
use Rattle.search.specs.Agreed.{agreed_fault, agreed_answer, agreed_searching, agreed_list}
use Rattle.search.specs.Requests.{are_pairs, pair_fault, request_fault, call_fault_with, fault_with, searching_with, plan_list_with}
use Rattle.search.specs.Requests.{longest_searching_with, longest_list_with}
use Rattle.search.specs.Goals.{first_fault}
use Rattle.search.specs.Unstruck.{unstruck_answer, unstruck_searching, unstruck_list}
use Rattle.search.proofs.Struck.{apart_search, apart_list, apart-longest, apart_longest_list}

then_fine : (a : Fault) → (a then fine) ≡ a
unfolding ◌then◌
then_fine fine = refl
then_fine (fault k) = refl

module _ (file : List ℕ) (limit : ℕ) where
  abbrev p : Instance
  p = instance (parse file)

  abbrev m : Matrix
  m = p.matrix

  -- an empty list of pairs
  module _ (agreed absent : List ℕ) where
    faults : (places : ℕ) → fault_with file limit (asking agreed absent []) places ≡ agreed_fault file limit agreed absent places
    unfolding fault_with call_fault_with request_fault pair_fault are_pairs agreed_fault ask
    faults places = simp then_fine

    pub unpaired_answer : (g : Goal)
        → unstruck_answer g file limit (asking agreed absent []) ≡ agreed_answer g file limit agreed absent
    unfolding pairs_of unstruck_start unstruck_answer agreed_answer
    unpaired_answer g =
        let start : Forced = unstruck_start (search_for g m) m (asking agreed absent []) (root m p.costs) in
        ap (λ (o : Variant). answer o m start limit) (paired_none m (search_for g m))

    pub unpaired_search : (g : Goal) (places : ℕ)
        → unstruck_searching g file limit (asking agreed absent []) places ≡ agreed_searching g file limit agreed absent places
    unfolding unstruck_searching agreed_searching
    unpaired_search g places = rw (faults places, unpaired_answer g)

    pub unpaired_list : (g : Goal)
        → unstruck_list g file limit (asking agreed absent []) ≡ agreed_list g file limit agreed absent
    unfolding unstruck_list agreed_list
    unpaired_list g = rw (unpaired_answer g)

  -- two empty lists of columns besides
  no_faults : (places : ℕ) → agreed_fault file limit [] [] places ≡ (file_fault file then call_fault (shape file) places limit)
  unfolding agreed_fault rising ask ◌then◌
  no_faults places = rw (then_fine (call_fault (shape file) places limit))

  no_lists : (g : Goal) → agreed_answer g file limit [] [] ≡ answer (search_for g m) m (live (root m p.costs)) limit
  unfolding agreed_answer
  no_lists g = ap (λ (r : Forced). answer (search_for g m) m r limit) (agreed-none (search_for g m) m (root m p.costs))

  apart : (j : ℕ) → member j [] ≡ true → member j [] ≡ false
  unfolding member
  apart j m = refl

  pub unasked_search : (places : ℕ) → searching_with file limit unasked places ≡ searching file limit places
  unfolding search_for first_fault ◌then◌ agreed_searching searching file_answer
  unasked_search places = apart_search file limit unasked apart places ∙ unpaired_search [] [] Sum places ∙ rw (no_faults places, no_lists Sum)

  pub unasked_list : plan_list_with file limit unasked ≡ plan_list file limit
  unfolding search_for agreed_list plan_list file_answer
  unasked_list = apart_list file limit unasked apart ∙ unpaired_list [] [] Sum ∙ rw (no_lists Sum)

  pub unasked-longest : (places : ℕ) → longest_searching_with file limit unasked places ≡ longest_searching file limit places
  unfolding search_for first_fault agreed_searching longest_searching longest_answer
  unasked-longest places = apart-longest file limit unasked apart places ∙ unpaired_search [] [] Longest places ∙ rw (no_faults places, no_lists Longest)

  pub unasked_longest_list : longest_list_with file limit unasked ≡ longest_list file limit
  unfolding search_for agreed_list longest_list longest_answer
  unasked_longest_list = apart_longest_list file limit unasked apart ∙ unpaired_list [] [] Longest ∙ rw (no_lists Longest)
