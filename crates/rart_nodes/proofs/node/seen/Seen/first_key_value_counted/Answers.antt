use Rattle.std.specs.Option.{option_copied}
use Rattle.rart_trie.proofs.tries.CanonicalTests.{IsCanonicalTree-test}
use Rattle.rart_trie.proofs.tries.EndLemmas.{few-probes, visits-bound}
use Rattle.rart_nodes.proofs.node.seen.Seen.first_key_value_counted.Goals as goal

pub returns-clause-bound : goal.returns-clause-bound
returns-clause-bound g c =
    let few = few-probes (option_copied c.args.self.root) in
    let canonical = IsCanonicalTree-test (option_copied c.args.self.root) c.args.self.canonical in
    visits-bound c.end_pair.result _ _ _ _ (λ p. few (g.K.KeyTrait.bytes p.0) canonical) c.end_pair.ensures.visits
