-- The walk over the offered columns of an accepted file: the counts and the cost of those that are left give what all of them give.
use Rattle.std.proofs.Common.{◌≡◌, ℕ, zero, suc, ◌+◌, ◌-◌, ◌*◌, ◌%◌, ◌<◌, ◌≤◌, true, List, ◌∷◌, length, get_or, take, drop, replicate, ℤ, ◌+ℤ◌, refl, ◌∙◌, arith, drop_of_length-le, to_z-of_z, w32, Fits}
use mir.Facts.{of_z-to_z, Fits-of_z, sfits_to_z}
use Rattle.node.proofs.Loops.{drop-step}
use Rattle.node.specs.Lists.{member}
use Rattle.node.specs.Matrix.{Matrix, body, signed_price, named}
use Rattle.signed.specs.Signed.{signed, bits}
use Rattle.signed.proofs.Exact.{bits-sum}
use Rattle.refusals.specs.Refusals.{fine}
use Rattle.dutyfile.specs.declared.Entry.{Entry}
use Rattle.dutyfile.specs.File.{columns_in, bodies_at, entry_of, cost_of, parse, instance}
use Rattle.dutyfile.specs.Faults.{rising, file_fault}
use Rattle.dutyfile.proofs.Facts.{Accepted, file-fine}
use Rattle.dutyfile.proofs.Columns.{ColumnAt, column-at, file-width, body-rises, part_is}
use Rattle.dutyfile.proofs.Rising.{rising_cons, rising-at, rising-short}
use Rattle.verify.specs.Counts.{none_covered, counted, counted_all}
use Rattle.verify.proofs.Totals.{signed-price-none, signed_price_joins, file-price-fits}
use Rattle.verify.proofs.Sums.{named_joins}
use Rattle.verify.proofs.Counting.{length-counted, counted_le}

abbrev pub file_matrix : List ℕ → Matrix
file_matrix s = (instance (parse s)).matrix

-- what the columns of a list cost
abbrev pub offered_price : List ℕ → List ℕ → ℤ
offered_price s js = signed_price (file_matrix s) (parse s).costs (named js)

-- an accepted file and a list of its columns
pub record Offered (s js : List ℕ) : Type 0 where
  pub file : Accepted s
  pub rises : rising 0 (columns_in s) js ≡ true

pub offered : (s js : List ℕ) → file_fault s ≡ fine → rising 0 (columns_in s) js ≡ true → Offered s js
offered s js f r = record { file = file-fine s f; rises = r }

module _ (s js : List ℕ) (o : Offered s js) where
  pub few : length js ≤ 256
  few = omega (arith, rising-short 0 (columns_in s) js o.rises (omega arith), o.file.walked.header.counts.columns.most)

  -- the entry of the column at place k
  module _ (k : ℕ) (inside : k < length js) where
    pub number-low : 1 ≤ get_or js k 0
    number-low = (rising-at 0 (columns_in s) js k o.rises inside).0

    pub number_high : get_or js k 0 ≤ columns_in s
    number_high = (rising-at 0 (columns_in s) js k o.rises inside).1

    pub entry-room : (get_or js k 0 - 1 ≤ 255) × (16 + 8 * (get_or js k 0 - 1) ≤ length s)
    entry-room =
        let h = o.file.walked.header in
        omega (arith, number-low, number_high, h.counts.columns.most, h.contents)

    pub column_here : (e : Entry) → e ≡ entry_of (drop (bodies_at (get_or js k 0 - 1)) s) → ColumnAt s (get_or js k 0 - 1) e
    column_here e is = rw is (column-at s o.file.walked (get_or js k 0 - 1) (omega (arith, number-low, number_high)))

    -- its body is the part of the file from its start for its length
    pub part_here : (e : Entry) → e ≡ entry_of (drop (bodies_at (get_or js k 0 - 1)) s) →
        take (e.start + e.size - e.start) (drop e.start s) ≡ body (file_matrix s) (get_or js k 0 - 1)
    part_here e is = part_is s o.file (get_or js k 0 - 1) e (omega (arith, number-low, number_high)) is

-- at place k, with the rows of the columns before it counted
pub record Covering (s js out : List ℕ) (k : ℕ) : Type 0 where
  pub offer : Offered s js
  pub sized : length out ≡ 64
  pub within : k ≤ length js
  pub room : (i : ℕ) → get_or out i 0 ≤ k
  pub left : counted_all (file_matrix s) (drop k js) out ≡ counted_all (file_matrix s) js none_covered

pub none-at : (n i : ℕ) → get_or (replicate n 0) i 0 ≡ zero
none-at zero i = refl
none-at (suc n) zero = refl
none-at (suc n) (suc i) = none-at n i

module _ (s js : List ℕ) where
  pub covering_start : Offered s js → Covering s js none_covered 0
  covering_start o = record { offer = o; sized = refl; within = omega arith; room = λ i. omega (arith, none-at 64 i); left = refl }

  module _ (out : List ℕ) (k : ℕ) (w : Covering s js out k) where
    module _ (inside : k < length js) (e : Entry) (is : e ≡ entry_of (drop (bodies_at (get_or js k 0 - 1)) s)) where
      pub covering_ready : ((length out ≡ 64) × (rising 0 64 (take (e.start + e.size - e.start) (drop e.start s)) ≡ true))
          × ((i : ℕ) → get_or out i 0 + length (take (e.start + e.size - e.start) (drop e.start s)) < 4294967296)
      covering_ready =
          let r = body-rises s w.offer.file (get_or js k 0 - 1) in
          rw (part_here s js w.offer k inside e is)
          ((w.sized, r), λ i. omega (arith, w.room i, few s js w.offer, rising-short 0 64 _ r (omega arith)))

      pub covering_next : (next : List ℕ) → next ≡ counted (take (e.start + e.size - e.start) (drop e.start s)) out → Covering s js next (k + 1)
      unfolding counted_all
      covering_next next q =
          let b : List ℕ = body (file_matrix s) (get_or js k 0 - 1) in
          let n : next ≡ counted b out = rw (part_here s js w.offer k inside e is) at q in
          record {
            offer = w.offer;
            sized = rw n (length-counted b out ∙ w.sized);
            within = omega arith;
            room = λ i. rw n (omega (arith, counted_le b out i (body-rises s w.offer.file (get_or js k 0 - 1)) w.sized, w.room i));
            left = rw n (rw (drop-step js k inside) at w.left);
          }

    pub covering-end : length js ≤ k → out ≡ counted_all (file_matrix s) js none_covered
    unfolding counted_all
    covering-end h = rw (drop_of_length-le js h) at w.left

-- at place k, with the bits of the costs of the columns before it summed, at 32 bits
pub record Costing (s js : List ℕ) (cost k : ℕ) : Type 0 where
  pub offer : Offered s js
  pub within : k ≤ length js
  pub fits : cost < 4294967296
  pub low : ℕ
  pub rises : rising low (columns_in s) (drop k js) ≡ true
  pub left : (cost + bits (offered_price s (drop k js))) % 4294967296 ≡ bits (offered_price s js)

module _ (s js : List ℕ) where
  pub costing_start : Offered s js → Costing s js 0 0
  costing_start o =
      let f : Fits w32 (bits (offered_price s js)) = Fits-of_z {w = w32} (file-price-fits s o.file (named js)) in
      record { offer = o; within = omega arith; fits = omega arith; low = 0; rises = o.rises; left = omega (arith, f.fits) }

  module _ (cost k : ℕ) (w : Costing s js cost k) where
    module _ (inside : k < length js) (e : Entry) (is : e ≡ entry_of (drop (bodies_at (get_or js k 0 - 1)) s)) where
      rises_here : rising w.low (columns_in s) (get_or js k 0 ∷ drop (k + 1) js) ≡ true
      rises_here = rw (drop-step js k inside) at w.rises

      -- what the columns from here on cost, by this one's cost
      price_here : offered_price s (drop k js) ≡ offered_price s (drop (k + 1) js) +ℤ cost_of e
      price_here =
          let o = w.offer in
          let j : ℕ = get_or js k 0 - 1 in
          rw (drop-step js k inside)
          (signed_price_joins (file_matrix s) (parse s).costs _ _ j (named_joins w.low (columns_in s) (get_or js k 0) (drop (k + 1) js) rises_here)
          (omega (arith, file-width s, number-low s js o k inside, number_high s js o k inside))
          ∙ rw (column_here s js o k inside e is).cost)

      pub costing_next : (sum : ℕ) → Fits w32 e.cost → sum ≡ (cost + e.cost) % 4294967296 → Costing s js sum (k + 1)
      costing_next sum f q =
          let fits = file-price-fits s w.offer.file in
          let b : (bits (offered_price s (drop (k + 1) js)) + e.cost) % 4294967296 ≡ bits (offered_price s (drop k js)) =
          rw (of_z-to_z f, ← price_here) at
          (bits-sum (offered_price s (drop (k + 1) js)) (cost_of e) (fits _) (sfits_to_z f) (rw (← price_here) (fits _))) in
          record {
            offer = w.offer;
            within = omega arith;
            fits = omega arith;
            low = get_or js k 0;
            rises = (rising_cons w.low (columns_in s) (get_or js k 0) (drop (k + 1) js) rises_here).2;
            left = omega (arith, w.left);
          }

    pub costing_end : length js ≤ k → signed cost ≡ offered_price s js
    unfolding member
    costing_end h =
        let z : (cost + 0) % 4294967296 ≡ bits (offered_price s js) =
        rw (drop_of_length-le js h, signed-price-none (file_matrix s) (parse s).costs) at w.left in
        let b : cost ≡ bits (offered_price s js) = omega (arith, w.fits) in
        rw b (to_z-of_z (file-price-fits s w.offer.file (named js)))
