-- Worked files of SPP2 (02, P10): each with its node limit, and what the search call answers: prices and root floors are those of the file.
use Rattle.std.specs.Prelude.{◌≡◌, refl, [], ◌∷◌, ℕ, ℤ, pos, negsuc}
use Rattle.endian.specs.Bytes.{same}
use Rattle.refusals.specs.Refusals.{ask, ◌then◌, Outcome, accepted, refused, unless}
use Rattle.rules.specs.Files.{told, usual}
use Rattle.dutyfile.specs.declared.Edition.TheVariants.{Spp1, Spp2}
use Rattle.dutyfile.specs.File.{Lists, lists, edition_in, entries_of, entries, parse, contents, header, render, sum, bodies, shift, raised, raised_all, instance, shape}
use Rattle.dutyfile.specs.Faults.{rising, counts_fault, column_fault, entry_fault, entries_fault, bodies_fault, header_fault, contents_fault, end_fault, rows_fault, file_fault}
use Rattle.answer.specs.Answer.{Values, no_plan, told_best, told_none, told_stopped, shown_of, values_of}
use Rattle.search.specs.Searching.{call_fault, file_answer, searching}

-- m 1, {1} at a price
abbrev one : ℤ → Lists
one price = lists Spp2 1 (price ∷ []) (1 ∷ []) (1 ∷ [])

-- m 2, {1,2}, {1} and {2}
abbrev parts : ℤ → ℤ → ℤ → Lists
parts both first second = lists Spp2 2 (both ∷ first ∷ second ∷ []) (2 ∷ 1 ∷ 1 ∷ []) (1 ∷ 2 ∷ 1 ∷ 2 ∷ [])

-- m 3, {1,2}, {2,3}, {1,3} at -1: no plan
abbrev ring : Lists
ring = lists Spp2 3 (negsuc 0 ∷ negsuc 0 ∷ negsuc 0 ∷ []) (2 ∷ 2 ∷ 2 ∷ []) (1 ∷ 2 ∷ 2 ∷ 3 ∷ 1 ∷ 3 ∷ [])

abbrev found : Lists → ℕ → Outcome Values
found d limit = searching (render d) limit 64

earning_cases :
    -- a duty at -5, at 0, at the least price and below it
    (found (one (negsuc 4)) usual
    ∷ found (one (pos 0)) usual
    ∷ found (one (negsuc 999999)) usual
    ∷ found (one (negsuc 1000000)) usual
    -- the same at 0 in SPP1
    ∷ found (lists Spp1 1 (pos 0 ∷ []) (1 ∷ []) (1 ∷ [])) usual
    -- -9 against -4 - 4, -7 against -4 - 4, and 0 against 5 - 5
    ∷ found (parts (negsuc 8) (negsuc 3) (negsuc 3)) usual
    ∷ found (parts (negsuc 6) (negsuc 3) (negsuc 3)) usual
    ∷ found (parts (pos 0) (pos 5) (negsuc 4)) usual
    -- stopped with no plan kept: 3 x 1,000,000 is taken off the root floor 1,999,999
    ∷ found ring usual
    ∷ found ring 2
    ∷ [])
    ≡
    (accepted (told_best (negsuc 4) (negsuc 4) 1 1)
    ∷ accepted (told_best (pos 0) (pos 0) 1 1)
    ∷ accepted (told_best (negsuc 999999) (negsuc 999999) 1 1)
    ∷ refused 4
    ∷ refused 4
    ∷ accepted (told_best (negsuc 8) (negsuc 8) 2 1)
    ∷ accepted (told_best (negsuc 7) (negsuc 7) 2 2)
    ∷ accepted (told_best (pos 0) (pos 0) 2 1)
    ∷ accepted (told_none 3)
    ∷ accepted (told_stopped (negsuc 1000000) 2 no_plan)
    ∷ [])
unfolding told same ask ◌then◌ unless edition_in entries_of entries parse contents header render sum bodies shift raised raised_all instance shape rising counts_fault column_fault entry_fault entries_fault bodies_fault header_fault contents_fault end_fault rows_fault file_fault shown_of values_of call_fault file_answer searching
earning_cases = refl
