use Rattle.std.proofs.Common.{arith, ap, length}
use Rattle.rart_keys.specs.SortedMap.{longest_key}
use Rattle.rart_trie.specs.tries.Tree.{tree_pairs}
use Rattle.rart_trie.specs.tries.Trie.{pairs_of}
use Rattle.rart_nodes.proofs.ranges.EndPaths.{ends-within}
use Rattle.rart_nodes.proofs.node.seen.Seen.end_pair.Goals as goal

pub end_below-path-requires : goal.end_below-path-requires
end_below-path-requires g c = record {
  within = rw (g.met.K.KeyTrait.same_maximum) (ends-within _ c.args.end (pairs_of c.in_ok-top.top.node.now) _
      c.args.self.longest (λ x h. omega (
        arith,
        h,
        ap length c.from_slice-start.ensures,
        ap (λ o. longest_key (tree_pairs o)) c.in_ok-top.ensures,
        c.args.self.short,
      )) c.args.self.fits);
}
