-- Worked lists of steps (02, P7): the reply after each, the numbers of a desk stepped over another file, and what a step says.
use Rattle.std.specs.Prelude.{◌≡◌, refl, List, [], ◌∷◌, ◌++◌, ℕ, pos, negsuc, take, Some, None}
use Rattle.endian.specs.Bytes.{same}
use Rattle.refusals.specs.Refusals.{ask, ◌then◌, accepted, refused, unless}
use Rattle.dutyfile.specs.declared.Edition.TheVariants.{Spp1, Spp2}
use Rattle.dutyfile.specs.File.{edition_in, lists, entries_of, entries, parse, contents, header, render, sum, bodies, instance}
use Rattle.dutyfile.specs.Faults.{rising, counts_fault, column_fault, entry_fault, entries_fault, bodies_fault, header_fault, contents_fault, end_fault, rows_fault, file_fault}
use Rattle.signed.specs.Signed.{bits, sum32, difference32}
use Rattle.counts.specs.Counts.{off_by, row_moved, rows_moved}
use Rattle.desk.specs.declared.Way.TheVariants.{Adding, Removing}
use Rattle.desk.specs.declared.Said.TheVariants.{Changed, Unchanged}
use Rattle.desk.specs.Desk.{Desk, desk_of, empty_desk, changes, count_change, new_total, new_mark, moved, replying}
use Rattle.desk.specs.Steps.{step_fault, stepping, after, moved_by, stepped}
use Rattle.running.specs.Running.{Step, run, reply_of}

-- m 3, {1,3} at 5, {2} at 7, {2,3} at 2; m 2, {1,2} at 9; and an SPP2 file (02, P10): m 3, {1,3} at -5, {2} at 5, {2} at 0
abbrev three : List ℕ
three = render (lists Spp1 3 (pos 5 ∷ pos 7 ∷ pos 2 ∷ []) (2 ∷ 1 ∷ 2 ∷ []) (1 ∷ 3 ∷ 2 ∷ 2 ∷ 3 ∷ []))

abbrev pair : List ℕ
pair = render (lists Spp1 2 (pos 9 ∷ []) (2 ∷ []) (1 ∷ 2 ∷ []))

abbrev mail : List ℕ
mail = render (lists Spp2 3 (negsuc 4 ∷ pos 5 ∷ pos 0 ∷ []) (2 ∷ 1 ∷ 1 ∷ []) (1 ∷ 3 ∷ 2 ∷ 2 ∷ []))

abbrev add : ℕ → Step
add k = record { way = Adding; number = k }

abbrev remove : ℕ → Step
remove k = record { way = Removing; number = k }

abbrev after_steps : List Step → Desk
after_steps vs = run three vs (empty_desk 3)

abbrev after_mail : List Step → Desk
after_mail vs = run mail vs (empty_desk 3)

-- how often the first three sailings are covered, how many are off, the bits of the total, and the first mark
abbrev numbers : Desk → List ℕ
numbers d = take 3 d.counts.covered ++ (d.counts.off ∷ bits d.total ∷ take 1 d.marks)

-- duty 1 added over the first file and removed over the second
abbrev lifted : Desk
lifted = stepped Removing pair 1 (after_steps (add 1 ∷ []))

-- the reply after a list of steps: a plan at a price, or no plan
abbrev Replies : Type 0
Replies =
    (reply_of (after_steps [])
    ∷ reply_of (after_steps (add 1 ∷ add 2 ∷ []))
    -- the sequence does not matter, nor what was taken out
    ∷ reply_of (after_steps (add 3 ∷ add 2 ∷ add 1 ∷ remove 3 ∷ []))
    -- a sailing covered twice, and one no longer covered
    ∷ reply_of (after_steps (add 1 ∷ add 2 ∷ add 3 ∷ []))
    ∷ reply_of (after_steps (add 1 ∷ add 2 ∷ remove 1 ∷ []))
    -- steps that change nothing
    ∷ reply_of (after_steps (remove 2 ∷ add 1 ∷ add 1 ∷ add 2 ∷ remove 3 ∷ []))
    -- refused steps
    ∷ reply_of (after_steps (add 1 ∷ add 0 ∷ add 4 ∷ add 2 ∷ remove 0 ∷ remove 4 ∷ []))
    -- any desk: the reply is from the last two numbers alone
    ∷ reply_of (desk_of [] [] 0 (negsuc 2))
    ∷ [])
    ≡ (None ∷ Some (pos 12) ∷ Some (pos 12) ∷ None ∷ None ∷ Some (pos 12) ∷ Some (pos 12) ∷ Some (negsuc 2) ∷ [])

-- prices below 0 and of 0
abbrev Earnings : Type 0
Earnings =
    (reply_of (after_mail (add 1 ∷ add 2 ∷ []))
    ∷ reply_of (after_mail (add 1 ∷ add 3 ∷ []))
    -- a duty that earns is taken out, and put in again after the others changed
    ∷ reply_of (after_mail (add 2 ∷ add 1 ∷ remove 1 ∷ remove 2 ∷ add 3 ∷ add 1 ∷ []))
    ∷ reply_of (after_mail (add 1 ∷ add 3 ∷ remove 1 ∷ []))
    ∷ [])
    ≡ (Some (pos 0) ∷ Some (negsuc 4) ∷ Some (negsuc 4) ∷ None ∷ [])

-- a desk made over one file and stepped over another
abbrev Others : Type 0
Others =
    (numbers (after_steps (add 1 ∷ []))
    -- sailing 1 leaves 1, sailing 2 wraps below 0, and so do the bits of 5 - 9
    ∷ numbers lifted
    -- added over the second file again: all numbers are back
    ∷ numbers (stepped Adding pair 1 lifted)
    -- added over the second file and removed over the first: sailing 2 stays covered, and sailing 3 wraps
    ∷ numbers (stepped Removing three 1 (stepped Adding pair 1 (empty_desk 3)))
    ∷ [])
    ≡
    ((1 ∷ 0 ∷ 1 ∷ 1 ∷ 5 ∷ 1 ∷ [])
    ∷ (0 ∷ 4294967295 ∷ 1 ∷ 2 ∷ 4294967292 ∷ 0 ∷ [])
    ∷ (1 ∷ 0 ∷ 1 ∷ 1 ∷ 5 ∷ 1 ∷ [])
    ∷ (0 ∷ 1 ∷ 4294967295 ∷ 2 ∷ 4 ∷ 0 ∷ [])
    ∷ [])

-- what a step says
abbrev Sayings : Type 0
Sayings =
    (stepping Adding three 1 (empty_desk 3)
    ∷ stepping Removing three 1 (empty_desk 3)
    -- any mark but 0 is that of a duty that is in
    ∷ stepping Adding three 1 (desk_of (2 ∷ []) [] 3 (pos 0))
    ∷ stepping Adding three 0 (empty_desk 3)
    ∷ stepping Removing three 4 (empty_desk 3)
    -- the file is tested before the number
    ∷ stepping Adding (take 20 three) 0 (empty_desk 3)
    ∷ [])
    ≡ (accepted Changed ∷ accepted Unchanged ∷ accepted Unchanged ∷ refused 19 ∷ refused 19 ∷ refused 3 ∷ [])

desk_cases : Replies × Earnings × Others × Sayings
unfolding same ask ◌then◌ unless edition_in entries_of entries parse contents header render sum bodies instance rising counts_fault column_fault entry_fault entries_fault bodies_fault header_fault contents_fault end_fault rows_fault file_fault sum32 difference32 off_by row_moved rows_moved empty_desk changes count_change new_total new_mark moved replying step_fault stepping after moved_by stepped run
desk_cases = (refl, refl, refl, refl)
