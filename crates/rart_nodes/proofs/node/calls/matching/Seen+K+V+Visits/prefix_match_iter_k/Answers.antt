use Rattle.std.proofs.Common.{ap, ◌∙◌}
use Rattle.std.specs.Option.{option_copied}
use Rattle.rart_keys.specs.Filters.{matches}
use Rattle.rart_trie.specs.tries.Tree.{tree_pairs}
use Rattle.rart_trie.proofs.tries.CanonicalTests.{IsCanonicalTree-test}
use Rattle.rart_nodes.proofs.walks.MatchLemmas.{matches-ahead}
use Rattle.rart_nodes.proofs.node.calls.matching.Seen+K+V+Visits.prefix_match_iter_k.Goals as goal

pub returns : goal.returns
returns g c =
    matches-ahead (g.K.PartialType.Partial.bytes c.to_partial.result) _ _ (option_copied c.args.self.root)
    c.matching.ensures.depth c.matching.ensures.below (IsCanonicalTree-test _ c.args.self.canonical)
    ∙ ap (λ q. matches q (tree_pairs (option_copied c.args.self.root))) c.to_partial.ensures
