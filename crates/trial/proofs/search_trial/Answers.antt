-- The lists of the trial are made, the matrix list is built of them, the costs are raised, and the search starts from its root.
use mathlib.Core.Path.{◌≡◌, refl}
use native.Mathlib.Omega.{arith}
use lib.ListN.{length}
use Rattle.lists.specs.Loaded.{Loaded}
use Rattle.lists.proofs.Read.{Listed}
use Rattle.lists.proofs.Loading.{parts_statable, parts-priced, parts-raised, loaded_as}
use Rattle.trial.proofs.Made.{more, trial_file, places, made, made_long, searchable, searched}
use borrow.Author.Rules.{rules}
use Rattle.trial.proofs.search_trial.Goals as goal
use Rattle.trial.proofs.search_trial.Goals.{After-append, After-fill_matrix, After-raise_all-raised}

-- the lists of the trial, and how long they are
lists_made : (c : After-append) → let a = c.args in
    Listed (trial_file a.found a.costs a.lengths a.numbers a.k) (more a.found a.k) c.append.new.costs c.append.new.lengths c.append.new.numbers
lists_made c = let p = c.requires in let e = c.append.ensures in
    made _ _ _ _ _ p.0 _ p.1 p.2 _ _ _ e.costs_after e.lengths_after e.numbers_after (search rules) (search rules) (search rules)

long : (c : After-append) → (length c.append.new.costs ≡ 256) × (length c.append.new.lengths ≡ 256) × (length c.append.new.numbers ≡ 4096)
long c = let p = c.requires in let e = c.append.ensures in
    made_long _ _ _ _ _ p.0 _ p.1 p.2 _ _ _ e.costs_after e.lengths_after e.numbers_after (search rules) (search rules) (search rules)

-- what is searched is read from them
lists_loaded : (c : After-raise_all-raised) → let a = c.args in
    Listed (trial_file a.found a.costs a.lengths a.numbers a.k) (more a.found a.k) c.append.new.costs c.append.new.lengths c.append.new.numbers →
    Loaded (trial_file a.found a.costs a.lengths a.numbers a.k) (more a.found a.k) c.fill_matrix.new.matrix c.raise_all-raised.result
lists_loaded c l =
    loaded_as _ _ _ _ _ l _ _ c.fill_matrix.ensures.matrix_len (parts-raised _ _ _ _ _ l _ c.raise_all-raised.ensures) c.fill_matrix.ensures.holds _ refl

pub append-requires : goal.append-requires
append-requires c = let p = c.requires in places _ _ _ _ _ p.0 _ p.1 p.2

pub slice_bounds-fill_matrix-end : goal.slice_bounds-fill_matrix-end
slice_bounds-fill_matrix-end c =
    let made = (goal.at.slice_bounds-fill_matrix-end c).After-append in
    omega (arith, (lists_made made).columns, (long made).1)

pub slice_bounds-fill_matrix-end-2 : goal.slice_bounds-fill_matrix-end-2
slice_bounds-fill_matrix-end-2 c =
    let made = (goal.at.slice_bounds-fill_matrix-end-2 c).After-append in
    omega (arith, (lists_made made).entries, (long made).2)

pub fill_matrix-requires : goal.fill_matrix-requires
fill_matrix-requires c = parts_statable _ _ _ _ _ (lists_made (goal.at.fill_matrix-requires c).After-append)

pub slice_bounds-raise_all-end : goal.slice_bounds-raise_all-end
slice_bounds-raise_all-end c =
    let made = (goal.at.slice_bounds-raise_all-end c).After-append in
    omega (arith, (lists_made made).columns, (long made).0)

pub slice_bounds-raise_all-end-2 : goal.slice_bounds-raise_all-end-2
slice_bounds-raise_all-end-2 c =
    let made = (goal.at.slice_bounds-raise_all-end-2 c).After-append in
    omega (arith, (lists_made made).columns, (long made).1)

pub raise_all-raised-requires : goal.raise_all-raised-requires
raise_all-raised-requires c = parts-priced _ _ _ _ _ (lists_made (goal.at.raise_all-raised-requires c).After-append)

pub root_node-first-requires : goal.root_node-first-requires
root_node-first-requires c = c.fill_matrix.ensures.holds.kept

pub search_live-requires : goal.search_live-requires
search_live-requires c =
    let p = c.requires in
    let at = goal.at.search_live-requires c in
    searchable _ _ _ _ _ p.0 _ p.1 p.2 _ _ (lists_loaded at.After-raise_all-raised (lists_made at.After-append)) _ c.root_node-first.ensures

pub returns : goal.returns
returns c =
    let p = c.requires in
    let at = goal.at.returns c in
    searched _ _ _ _ _ p.0 _ p.1 p.2 _ _ (lists_loaded at.After-raise_all-raised (lists_made at.After-append)) _ c.root_node-first.ensures c.search_live.result
    c.search_live.ensures
