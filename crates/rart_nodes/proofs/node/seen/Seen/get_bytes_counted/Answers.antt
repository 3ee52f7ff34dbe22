use Rattle.std.proofs.Common.{◌∙◌, ap, ◌+◌, arith}
use Rattle.std.specs.Option.{option_copied}
use Rattle.rart_trie.proofs.tries.CanonicalTests.{IsCanonicalTree-test}
use Rattle.rart_trie.proofs.tries.StepLemmas.{tree_lookup-lookup, tree_entered-probe_count, few-tree_entered}
use Rattle.rart_nodes.proofs.node.seen.Seen.get_bytes_counted.Goals as goal

pub returns : goal.returns
returns g c =
    let root = option_copied c.args.self.root in
    let canonical = IsCanonicalTree-test root c.args.self.canonical in
    record {
      value = c.descend.ensures.value ∙ tree_lookup-lookup c.args.key.now root canonical;
      visits = c.descend.ensures.visits ∙ ap (λ n. g.C.Count.number c.args.counter.now + n)
          (tree_entered-probe_count c.args.key.now root canonical);
      bound = omega (arith, c.descend.ensures.visits, few-tree_entered c.args.key.now root canonical);
    }
