use Rattle.std.proofs.Common.{ap, ◌∙◌}
use Rattle.std.specs.Option.{option_copied}
use Rattle.rart_keys.specs.Ranges.{bound_in, pairs_from, up_to}
use Rattle.rart_trie.specs.tries.Tree.{tree_pairs}
use Rattle.rart_trie.specs.ranges.LentBounds.{lent_bound}
use Rattle.rart_nodes.proofs.ranges.RangeCuts.{from_bound-between}
use Rattle.rart_trie.proofs.tries.CanonicalTests.{IsCanonicalTree-test}
use Rattle.rart_nodes.proofs.node.seen.Seen.range_from.Goals as goal

pub returns-clause-pairs : goal.returns-clause-pairs
returns-clause-pairs g c =
    let root = option_copied c.args.self.root in
    ap (up_to (bound_in g.K.KeyTrait.bytes c.args.end)) (c.in_ok-walk.ensures.pairs
    ∙ (λ i. pairs_from (c.bytes_of-included.ensures.inclusive i) (c.bytes_of-included.ensures.bytes i)
    (tree_pairs root)))
    ∙ from_bound-between (lent_bound c.args.start) (bound_in g.K.KeyTrait.bytes c.args.end) root
    (IsCanonicalTree-test _ c.args.self.canonical)

pub returns-clause-ahead : goal.returns-clause-ahead
returns-clause-ahead g c = c.in_ok-walk.ensures.pairs
    ∙ (λ i. pairs_from (c.bytes_of-included.ensures.inclusive i) (c.bytes_of-included.ensures.bytes i)
    (tree_pairs (option_copied c.args.self.root)))
