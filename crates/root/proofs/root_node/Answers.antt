-- The tables are those of the root: ones at the front of zeros.
use Rattle.root.proofs.Root.{root_is, filled}
use borrow.Author.Rules.{rules}
use Rattle.root.proofs.root_node.Goals as goal

pub returns : goal.returns
returns c =
    let f = c.requires.small.fits in
    root_is _ _ _ _ f (search rules)
    (filled _ _ _ _ f.wide c.column_count.ensures (c.fill.ensures.after (λ y h. h)))
    (filled _ _ _ _ f.tall c.row_count.ensures (c.fill-2.ensures.after (λ y h. h)))
