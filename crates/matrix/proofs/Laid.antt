-- A part of the list: where it starts and ends, and what stands there. Parts that are put into the list stand there, and leave others as
-- they are.
use mathlib.Core.Path.{◌≡◌, refl, ◌∙◌}
use mathlib.Core.List.{List, [], ◌∷◌}
use Prim.Native.Nat.{ℕ, zero, suc, ◌+◌, ◌-◌, ◌≤◌, ◌<◌}
use native.Mathlib.Nat.{add-zero}
use native.Mathlib.Omega.{arith}
use lib.ListN.{length, get_or, set, take, drop, length-set, length-take, length-drop}
use lib.Seq.{sets, length-sets, get_or-set_same, get_or-set_other, get_or-take, get_or-drop, ext_get_or}
use Rattle.node.specs.Stored.{part_at, Part}
use Rattle.dutyfile.specs.File.{sum}
use Rattle.matrix.specs.Build.{put, size}

-- places before those that are set, and the ones that are
sets-before : (vs l : List ℕ) (at i : ℕ) → i < at → get_or (sets l at vs) i 0 ≡ get_or l i 0
sets-before [] l at i h = refl
sets-before (v ∷ vs) l at i h = sets-before vs (set l at v) (suc at) i (omega arith) ∙ get_or-set_other l at i v 0 (λ e. omega arith)

sets_in : (vs l : List ℕ) (at m : ℕ) → m < length vs → at + length vs ≤ length l → get_or (sets l at vs) (at + m) 0 ≡ get_or vs m 0
sets_in [] l at m h w = absurd (omega arith)
sets_in (v ∷ vs) l at zero h w =
    rw add-zero (sets-before vs (set l at v) (suc at) at (omega arith) ∙ get_or-set_same l at v 0 (omega arith))
sets_in (v ∷ vs) l at (suc m) h w =
    let e : at + suc m ≡ suc at + m = omega arith in
    rw e (sets_in vs (set l at v) (suc at) m (omega arith) (omega (arith, length-set l at v)))

pub put-length : (bs : List (List ℕ)) (l : List ℕ) (k at : ℕ) → length (put l k at bs) ≡ length l
unfolding put
put-length [] l k at = length-set l k at
put-length (b ∷ bs) l k at =
    put-length bs (sets (set l k at) at b) (suc k) (at + length b) ∙ length-sets (set l k at) at b ∙ length-set l k at

-- a place that the parts leave as it is
pub record Aside (i k n at : ℕ) : Type 0 where
  pub off : k ≤ i → k + n < i
  pub below : i < at

pub put_aside : (bs : List (List ℕ)) (l : List ℕ) (k at i : ℕ) → Aside i k (length bs) at → get_or (put l k at bs) i 0 ≡ get_or l i 0
unfolding put
put_aside [] l k at i h = get_or-set_other l k i at 0 (λ e. let z = h.off (omega arith) in omega arith)
put_aside (b ∷ bs) l k at i h =
    put_aside bs (sets (set l k at) at b) (suc k) (at + length b) i
    (record { off = λ g. let z = h.off (omega arith) in omega arith; below = omega (arith, h.below) })
    ∙ sets-before b (set l k at) at i h.below
    ∙ get_or-set_other l k i at 0 (λ e. let z = h.off (omega arith) in omega arith)

-- part b of a list, by place k, between two bounds
pub record Laid (l : List ℕ) (k : ℕ) (b : List ℕ) (low high : ℕ) : Type 0 where
  pub start : ℕ
  pub start_is : get_or l k 0 ≡ start
  pub end_is : get_or l (k + 1) 0 ≡ start + length b
  pub least : low ≤ start
  pub most : start + length b ≤ high
  pub cells : (m : ℕ) → m < length b → get_or l (start + m) 0 ≡ get_or b m 0

module _ (l : List ℕ) (k : ℕ) (b : List ℕ) (low high : ℕ) (w : Laid l k b low high) (fits : high ≤ length l) where
  pub laid_part : Part l k
  laid_part = record { rises = omega (arith, w.start_is, w.end_is); inside = omega (arith, w.end_is, w.most) }

  pub laid_is : part_at l k ≡ b
  laid_is =
      let e : get_or l (k + 1) 0 - get_or l k 0 ≡ length b = omega (arith, w.start_is, w.end_is) in
      let n : length (take (length b) (drop w.start l)) ≡ length b = simp (length-take, length-drop) (omega (arith, w.most)) in
      rw (e, w.start_is) (ext_get_or 0 (take (length b) (drop w.start l)) b n
      (λ m h. let q : m < length b = omega arith in
      get_or-take (length b) (drop w.start l) m 0 q ∙ get_or-drop w.start l m 0 ∙ w.cells m q))

-- another part stays
pub laid_aside : (bs : List (List ℕ)) (l : List ℕ) (k at q : ℕ) (b : List ℕ) (low high : ℕ) → Laid l q b low high → Aside q k (length bs) at →
    Aside (q + 1) k (length bs) at → k + length bs < low → high ≤ at → Laid (put l k at bs) q b low high
laid_aside bs l k at q b low high w h g o u = record {
  start = w.start;
  start_is = put_aside bs l k at q h ∙ w.start_is;
  end_is = put_aside bs l k at (q + 1) g ∙ w.end_is;
  least = w.least;
  most = w.most;
  cells = λ m i.
      put_aside bs l k at (w.start + m) (record { off = λ z. omega (arith, w.least); below = omega (arith, w.most) })
      ∙ w.cells m i;
}

-- the first start, and each part
put_first : (bs : List (List ℕ)) (l : List ℕ) (k at : ℕ) → k < length l → k < at → get_or (put l k at bs) k 0 ≡ at
unfolding put
put_first [] l k at h g = get_or-set_same l k at 0 h
put_first (b ∷ bs) l k at h g =
    put_aside bs (sets (set l k at) at b) (suc k) (at + length b) k (record { off = λ z. absurd (omega arith); below = omega arith })
    ∙ sets-before b (set l k at) at k g
    ∙ get_or-set_same l k at 0 h

pub put_part : (bs : List (List ℕ)) (l : List ℕ) (k at j : ℕ) → j < length bs → k + length bs < at → at + size bs ≤ length l →
    Laid (put l k at bs) (k + j) (get_or bs j []) at (at + size bs)
unfolding put sum
put_part [] l k at j h g w = absurd (omega arith)
put_part (b ∷ bs) l k at zero h g w =
    let l' : List ℕ = sets (set l k at) at b in
    let n : length l' ≡ length l = length-sets (set l k at) at b ∙ length-set l k at in
    let e : k + 0 ≡ k = add-zero k in
    let f : k + 1 ≡ suc k = omega arith in
    rw e (record {
      start = at;
      start_is = put_aside bs l' (suc k) (at + length b) k (record { off = λ z. absurd (omega arith); below = omega arith })
          ∙ sets-before b (set l k at) at k (omega arith) ∙ get_or-set_same l k at 0 (omega arith);
      end_is = rw f (put_first bs l' (suc k) (at + length b) (omega arith) (omega arith));
      least = omega arith;
      most = omega arith;
      cells = λ m i. put_aside bs l' (suc k) (at + length b) (at + m) (record { off = λ z. omega arith; below = omega arith })
          ∙ sets_in b (set l k at) at m i (omega (arith, length-set l k at));
    })
put_part (b ∷ bs) l k at (suc j) h g w =
    let l' : List ℕ = sets (set l k at) at b in
    let n : length l' ≡ length l = length-sets (set l k at) at b ∙ length-set l k at in
    let e : k + suc j ≡ suc k + j = omega arith in
    let q = put_part bs l' (suc k) (at + length b) j (omega arith) (omega arith) (omega arith) in
    rw e (record {
      start = q.start;
      start_is = q.start_is;
      end_is = q.end_is;
      least = omega (arith, q.least);
      most = omega (arith, q.most);
      cells = q.cells;
    })
