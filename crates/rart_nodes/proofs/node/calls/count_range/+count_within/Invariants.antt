use Rattle.std.proofs.Common.{◌≡◌, ◌+◌, ◌++◌, ◌≤◌, length}
use Rattle.rart_keys.specs.Ranges.{between}
use Rattle.rart_trie.specs.tries.Trie.{children_in, children_pairs, own_pair, value_of, AreCanonical}
use Rattle.rart_trie.specs.tries.TrieCode.{child_count, node_count}
use Rattle.rart_trie.specs.ranges.LentBounds.{lent_bound}
use Rattle.rart_nodes.proofs.ranges.CountedBounds.{most_below}
use Rattle.rart_nodes.proofs.node.calls.count_range.+count_within.Given as goal

abbrev pub decreases-count_within : goal.decreases-count_within
decreases-count_within g l = node_count l.at.node.now

abbrev pub invariant-loop-byte : goal.invariant-loop-byte
invariant-loop-byte g l = record {
  count : l.count + length (between (lent_bound l.low) (lent_bound l.high) (children_pairs l.rest))
      ≡ length (between (lent_bound l.low) (lent_bound l.high)
      (own_pair (value_of l.fn.at.node.now) ++ children_pairs (children_in l.fn.at.node.now)));
  visits : g.C.Count.number l.counter + most_below (lent_bound l.low) (lent_bound l.high) l.rest
      ≤ g.C.Count.number l.fn.counter
      + most_below (lent_bound l.low) (lent_bound l.high) (children_in l.fn.at.node.now);
  pairs : length (children_pairs l.rest) ≤ length (children_pairs (children_in l.fn.at.node.now));
  within : child_count l.rest ≤ child_count (children_in l.fn.at.node.now);
  canonical : AreCanonical 0 l.rest;
}

abbrev pub decreases-loop-byte : goal.decreases-loop-byte
decreases-loop-byte g l = child_count l.rest
