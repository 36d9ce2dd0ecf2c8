-- What is accepted is small, since the tests of a file and of lists bound its numbers.
use mathlib.Core.Path.{◌≡◌, refl, ap, sym}
use mathlib.Core.Bool.{Bool}
use mathlib.Core.List.{List}
use Prim.Native.Nat.{ℕ, ◌≤◌}
use native.Mathlib.Omega.{arith}
use lib.ListN.{length}
use Rattle.refusals.specs.Refusals.{Fault, fine, ◌then◌, unless}
use Rattle.refusals.proofs.Laws.{both, accepts}
use Rattle.node.specs.Lists.{keep, upto}
use Rattle.node.specs.Matrix.{Matrix, width, chosen, named}
use Rattle.node.specs.Stored.{FitsNode}
use Rattle.node.proofs.Members.{keep-upto}
use Rattle.node.specs.declared.Node.{Node}
use Rattle.node.specs.Node.{root}
use Rattle.rules.specs.Reduce as rules
use Rattle.rules.specs.Search.{nothing, plan, Answer, best, none, stopped, shown_by}
use Rattle.rules.specs.declared.Forced.{Forced}
use Rattle.rules.specs.declared.Goal.TheVariants.{Sum, Longest}
use Rattle.rules.specs.Tree.{Variant}
use Rattle.rules.specs.Demand.{Demand3}
use Rattle.rules.specs.Goals.{search_for, value_for}
use Rattle.rules.specs.Requests.{Requests, Granted}
use Rattle.rules.proofs.Reducing.{used-few}
use Rattle.dutyfile.specs.File.{Lists, parse, render, added, instance, shape}
use Rattle.dutyfile.specs.Faults.{contents_fault, spp1_fault, reading, writing}
use Rattle.dutyfile.proofs.Facts.{Accepted, file-fine, contents-small}
use Rattle.dutyfile.proofs.Round.{write_then_read}
use Rattle.verify.specs.Verdict.{checking}
use Rattle.verify.proofs.Meaning.{verdict-not-once}
use Rattle.matrix.proofs.Accepted.{file-small}
use Rattle.reduce.specs.declared.Bound.{Bound}
use Rattle.reduce.specs.Answer.{reducing, reduce_fault, bound_of, reduced_root}
use Rattle.answer.specs.Answer.{shown_of, values_of}
use Rattle.search.specs.Requests.{fault_with, answer_with, searching_with, longest_answer_with, longest_searching_with}
use Rattle.search.specs.Goals.{answer_for}
use Rattle.search.proofs.Demanded.{demanded}
use Rattle.flat.specs.Fits.{ShapeFits, LengthFits, RowFits, UsedFits, columns_in, ColumnsFit}

shape-low : (s : List ℕ) → Accepted s → ((shape s).rows ≤ 64) × ((shape s).columns ≤ 256) × ((shape s).entries ≤ 4096)
unfolding shape contents_fault
shape-low s a = (a.walked.header.counts.rows.most, a.walked.header.counts.columns.most, contents-small s a.walked.contents)

-- a call's answer fits as what is stated does
pub reading-fits : (s : List ℕ) (c l r : ℕ) → ShapeFits (reading s c l r)
unfolding reading
reading-fits s c l r found e =
    let t = accepts _ _ _ e in
    rw (sym t.1) (shape-low s (file-fine s (both _ _ t.0).0))

pub writing-fits : (d : Lists) (k : ℕ) → LengthFits (writing d k)
unfolding writing shape
writing-fits d k size e =
    let a = file-fine (render d) (write_then_read d k size e).passes in
    let z = shape-low (render d) a in
    omega (arith, (accepts _ _ _ e).1, a.walked.end, z.1, z.2)

pub checking-fits : (s js : List ℕ) → RowFits (checking s js)
unfolding checking instance parse
checking-fits s js row times e =
    let t = accepts _ _ _ e in
    let q = verdict-not-once _ _ (named js) row times t.1 in
    let a = file-fine s (both _ _ t.0).0 in
    omega (arith, q.1, q.2.within, (file-small s a).fits.tall)

pub reducing-fits : (s : List ℕ) (c o : ℕ) → UsedFits (reducing s c o)
unfolding reducing reduce_fault bound_of reduced_root instance
reducing-fits s c o found e =
    let t = accepts _ _ _ e in
    let a = file-fine s (both _ _ (both _ _ t.0).1).0 in
    let p : Matrix = (instance (parse s)).matrix in
    let F : FitsNode p = (file-small s a).fits in
    let s₀ : Node = root p (instance (parse s)).costs in
    let u : found.used ≡ length (rules.reduce p s₀).used = sym (ap (λ (x : Bound). x.used) t.1) in
    omega (arith, u, used-few p F s₀, F.tall)

-- a plan shown has no more columns than there are
values_low : (p : Matrix) → width p ≤ 256 → (o : Variant) (start : Forced) (Ok : (ℕ → Bool) → Type 0) (value : (ℕ → Bool) → ℕ) (limit by : ℕ)
    (x : Answer) → Demand3 p o start Ok value limit x → columns_in (values_of by x) ≤ 256
unfolding values_of shown_of columns_in shown_by
values_low p w o start Ok value limit by x d = go x refl
  where
    few : (c : ℕ) (js : List ℕ) → shown_by x ≡ plan c js → length js ≤ 256
    few c js e = let h : length (keep (chosen js) (upto (width p))) ≡ length js = ap length (d.shown c js e).listed in
        omega (arith, keep-upto (chosen js) (width p))

    go : (y : Answer) → x ≡ y → columns_in (values_of by y) ≤ 256
    go (best c b n js) e = few c js (rw e)
    go (none n) e = omega arith
    go (stopped nothing b n) e = omega arith
    go (stopped (plan c js) b n) e = few c js (rw e)

-- nor do the calls' plans
searched_fits : (first : Fault) (s : List ℕ) (limit : ℕ) (q : Requests) (places : ℕ) (o : Variant) (start : Forced) (value : (ℕ → Bool) → ℕ) (x : Answer) →
    let p : Matrix = (instance (parse s)).matrix in
    (fault_with s limit q places ≡ fine → Demand3 p o start (Granted p q) value limit x) →
    ColumnsFit (unless (first then fault_with s limit q places) (values_of (added s) x))
unfolding fault_with
searched_fits first s limit q places o start value x d v e =
    let t = accepts _ _ _ e in
    let h = (both _ _ t.0).1 in
    let F : FitsNode (instance (parse s)).matrix = (file-small s (file-fine s (both _ _ h).0)).fits in
    rw (sym t.1) (values_low _ F.wide o start _ value limit (added s) x (d h))

pub searching-fits : (s : List ℕ) (limit : ℕ) (q : Requests) (places : ℕ) → ColumnsFit (searching_with s limit q places)
unfolding searching_with answer_with search_for value_for answer_for ◌then◌
searching-fits s limit q places = searched_fits fine s limit q places _ _ _ _ (demanded Sum s limit q places)

pub longest-fits : (s : List ℕ) (limit : ℕ) (q : Requests) (places : ℕ) → ColumnsFit (longest_searching_with s limit q places)
unfolding longest_searching_with longest_answer_with search_for value_for answer_for
longest-fits s limit q places = searched_fits (spp1_fault s) s limit q places _ _ _ _ (demanded Longest s limit q places)
