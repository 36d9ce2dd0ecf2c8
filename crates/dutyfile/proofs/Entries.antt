-- The contents, entry by entry: an entry from its three numbers, and what is left of the contents from an entry on.
use mathlib.Core.Path.{◌≡◌, refl, ap, ◌∙◌}
use mathlib.Core.List.{List, [], ◌∷◌}
use Prim.Native.Nat.{ℕ, zero, suc, ◌+◌, ◌*◌, ◌≤◌, ◌<◌}
use native.Mathlib.Nat.{add-zero, add_assoc}
use native.Mathlib.Numerals.{add-one}
use native.Mathlib.Omega.{arith}
use lib.ListN.{length, get_or, drop, drop_of_length-le, length-map}
use lib.Seq.{drop-cons, get_or-drop, drop-drop}
use Rattle.endian.specs.Bytes.{at16, at32}
use Rattle.dutyfile.specs.declared.Entry.{Entry}
use Rattle.dutyfile.specs.File.{columns_in, bodies_at, entry_of, entries_of, entries, cost_of, size_of, parse}

-- an entry from its three numbers
pub entry_made : (s : List ℕ) (k c a z : ℕ) → c ≡ at32 s k → a ≡ at16 s (k + 4) → z ≡ at16 s (k + 6) →
    ◌≡◌ {A = Entry} (record { cost = c; start = a; size = z }) (entry_of (drop k s))
entry_made s k c a z e f g = simp (e, f, g, get_or-drop, add-zero, add_assoc)

-- k entries, and the one at j
length-entries_of : (k : ℕ) (b : List ℕ) → length (entries_of k b) ≡ k
unfolding entries_of
length-entries_of zero b = refl
length-entries_of (suc k) b = ap suc (length-entries_of k (drop 8 b))

entries_of_at : (k j : ℕ) (b : List ℕ) (d : Entry) → j < k → get_or (entries_of k b) j d ≡ entry_of (drop (8 * j) b)
unfolding entries_of
entries_of_at zero j b d h = absurd (omega arith)
entries_of_at (suc k) zero b d h = refl
entries_of_at (suc k) (suc j) b d h =
    let e : 8 + 8 * j ≡ 8 * suc j = omega arith in
    entries_of_at k j (drop 8 b) d (omega arith) ∙ ap entry_of (drop-drop (8 * j) 8 b ∙ ap (λ n. drop n b) e)

pub length-entries : (s : List ℕ) → length (entries s) ≡ columns_in s
unfolding entries
length-entries s = length-entries_of (columns_in s) (drop 8 s)

pub length-costs : (s : List ℕ) → length (parse s).costs ≡ columns_in s
unfolding parse
length-costs s = length-map (entries s) cost_of ∙ length-entries s

pub length-lengths : (s : List ℕ) → length (parse s).lengths ≡ columns_in s
unfolding parse
length-lengths s = length-map (entries s) size_of ∙ length-entries s

pub entries_at : (s : List ℕ) (j : ℕ) (d : Entry) → j < columns_in s → get_or (entries s) j d ≡ entry_of (drop (bodies_at j) s)
unfolding entries
entries_at s j d h = entries_of_at (columns_in s) j (drop 8 s) d h ∙ ap entry_of (drop-drop (8 * j) 8 s)

pub entries-step : (s : List ℕ) (j : ℕ) → j < columns_in s → drop j (entries s) ≡ entry_of (drop (bodies_at j) s) ∷ drop (j + 1) (entries s)
entries-step s j h =
    let d : Entry = entry_of [] in
    rw (add-one j, ← entries_at s j d h) (drop-cons (entries s) j d (rw (length-entries s) h))

pub entries-end : (s : List ℕ) (j : ℕ) → columns_in s ≤ j → drop j (entries s) ≡ []
entries-end s j h =
    let l : length (entries s) ≤ j = rw (length-entries s) h in
    drop_of_length-le (entries s) l
