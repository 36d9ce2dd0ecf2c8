-- The walk from the first node, with no node entered before, and its answer: that of the rules.
use mathlib.Core.Path.{◌≡◌, refl, ap, sym, ◌∙◌}
use mathlib.Core.Bool.{Bool, true, false, cond}
use mathlib.Core.List.{List, [], ◌∷◌}
use Prim.Native.Nat.{ℕ, suc, ◌+◌, ◌≤◌, ◌<◌}
use native.Mathlib.Omega.{arith}
use Rattle.node.specs.declared.Node.{Node}
use Rattle.node.specs.Lists.{is_empty}
use Rattle.node.specs.Matrix.{Matrix, width}
use Rattle.node.specs.Node.{open_rows}
use Rattle.rules.specs.declared.Forced.{Forced}
use Rattle.rules.specs.Search.{answer_of, finished}
use Rattle.rules.specs.Limited as rules
use Rattle.rules.specs.Tree.{Variant, live, visit, full_tree, root_bound, answer}
use Rattle.rules.proofs.Rows.{size, size_fits}
use Rattle.rules.proofs.Demand.{limited-answer, dead-answer, dead-settled}
use Rattle.tally.specs.declared.Tally.{Tally}
use Rattle.visit.specs.declared.Settled.{Settled}
use Rattle.tally.specs.Tally.{shown}
use Rattle.visit.specs.Settled.{settled_by, settled}
use Rattle.solver.specs.declared.Solved.{Solved}
use Rattle.solver.specs.Solved.{solved_answer}

-- where the node is alive its bound is the root's, and else the answer has none
settled-answer : (o : Variant) (p : Matrix) (s : Node) (x : Settled) → x ≡ settled o p s → (limit : ℕ) → 1 ≤ limit →
    answer_of (full_tree o p (live s)) x.node.bound limit ≡ answer o p (live s) limit
unfolding answer root_bound settled settled_by is_empty
settled-answer o p s x told limit h = rw told (go t.alive refl (open_rows p t.node))
  where
    t : Forced
    t = o.settle s

    go : (b : Bool) → t.alive ≡ b → (is : List ℕ) → answer_of (full_tree o p (live s)) (settled_by o b t.node is).node.bound limit
        ≡ answer_of (full_tree o p (live s)) (cond (is_empty is) t.node.bound (o.lowered t.node).bound) limit
    go false e is = dead-settled o p s e _ limit h ∙ sym (dead-settled o p s e _ limit h)
    go true e [] = refl
    go true e (i ∷ is) = refl

module _ (fresh : Tally) (limit : ℕ) (e : (w : ℕ) → shown w fresh ≡ rules.fresh limit) where
  pub fresh-count : limit ≤ 1000000 → fresh.nodes + fresh.left ≤ 1000000
  fresh-count h =
      let n : fresh.nodes ≡ 0 = ap (λ (t : rules.Tally). t.nodes) (e 0) in
      let l : fresh.left ≡ limit = ap (λ (t : rules.Tally). t.left) (e 0) in
      omega arith

  -- the first node's bound: that of the node settled, which does not count where it is dead
  pub ends : 1 ≤ limit → (o : Variant) (p : Matrix) (s : Node) (x : Settled) → x ≡ settled o p s → (last : Tally) →
      ((f : ℕ) → size p s < f → shown (width p) last ≡ rules.limited (visit o p) f s (shown (width p) fresh)) →
      solved_answer (width p) (record { tally = last; bound = x.node.bound }) ≡ answer o p (live s) limit
  ends h o p s x told last w =
      let q : shown (width p) last ≡ rules.limited (visit o p) (suc (width p)) s (rules.fresh limit) =
      w (suc (width p)) (size_fits p s) ∙ rw (e (width p)) in
      rw (q, limited-answer o p s x.node.bound limit) (settled-answer o p s x told limit h)

  -- a start that is dead: one node is entered, and no bound is answered
  pub dead-room : 1 ≤ limit → limit ≤ 1000000 → (0 < fresh.left) × (fresh.nodes + fresh.left < 4294967296)
  dead-room h k =
      let l : fresh.left ≡ limit = ap (λ (t : rules.Tally). t.left) (e 0) in
      (omega arith, omega (arith, fresh-count k))

  pub dead-ends : 1 ≤ limit → (o : Variant) (p : Matrix) (start : Forced) → start.alive ≡ false → (last : Tally) →
      ((w : ℕ) → shown w last ≡ rules.entered (shown w fresh)) →
      solved_answer (width p) (record { tally = last; bound = 0 }) ≡ answer o p start limit
  unfolding rules.answer_from rules.answer_if finished
  dead-ends h o p start d last w =
      let q : shown (width p) last ≡ rules.entered (rules.fresh limit) = w (width p) ∙ ap rules.entered (e (width p)) in
      ap (λ (t : rules.Tally). rules.answer_from t 0) q ∙ sym (dead-answer o p start d limit h)

-- a start that is alive
pub live-ends : (o : Variant) (p : Matrix) (start : Forced) (limit : ℕ) → start.alive ≡ true → (done : Solved) →
    solved_answer (width p) done ≡ answer o p (live start.node) limit → solved_answer (width p) done ≡ answer o p start limit
live-ends o p start limit h done e =
    let q : live start.node ≡ start = rw (← h) in
    e ∙ ap (λ (r : Forced). answer o p r limit) q
