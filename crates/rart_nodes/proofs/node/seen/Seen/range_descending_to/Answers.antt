use Rattle.std.proofs.Common.{ap, reverse, ◌∙◌}
use Rattle.std.specs.Option.{option_copied}
use Rattle.rart_keys.specs.Ranges.{bound_in}
use Rattle.rart_trie.specs.ranges.LentBounds.{lent_bound}
use Rattle.rart_nodes.specs.ranges.UpperBounds.{down_to}
use Rattle.rart_nodes.proofs.ranges.DownLemmas.{down_to-tree}
use Rattle.rart_trie.proofs.tries.CanonicalTests.{IsCanonicalTree-test}
use Rattle.rart_nodes.proofs.node.seen.Seen.range_descending_to.Goals as goal

pub returns-clause-pairs : goal.returns-clause-pairs
returns-clause-pairs g c =
    let start = bound_in g.K.KeyTrait.bytes c.args.start in
    ap (λ z. down_to start (reverse z)) c.in_ok-walk.ensures.pairs
    ∙ down_to-tree start (lent_bound c.args.end) (option_copied c.args.self.root)
    (IsCanonicalTree-test _ c.args.self.canonical)
