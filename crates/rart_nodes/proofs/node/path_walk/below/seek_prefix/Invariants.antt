use Rattle.std.proofs.Common.{◌≡◌, ◌≤◌, ◌+◌, ◌++◌, ℕ, [], List, length, option_map}
use Rattle.rart_keys.specs.SortedMap.{longest_key}
use Rattle.rart_trie.specs.tries.Tree.{tree_pairs}
use Rattle.rart_nodes.specs.ranges.Potential.{tree_height}
use Rattle.rart_nodes.specs.walks.Part.{tree_part}
use Rattle.rart_nodes.specs.walks.PathParts.{byte_segments}
use Rattle.rart_trie.specs.walks.ProbeCount.{tree_entered}
use Rattle.rart_trie.specs.walks.Walk.{tree_count}
use Rattle.rart_nodes.proofs.node.path_walk.below.seek_prefix.Given as goal

abbrev pub invariant-loop-next : goal.invariant-loop-next
invariant-loop-next g l = record {
  depth : (q : List ℕ) × (l.fn.prefix ≡ q ++ l.rest)
      × (tree_part byte_segments (byte_segments q) l.rest (option_map (λ s. s.node.now) l.next)
      ≡ tree_part byte_segments [] l.fn.prefix (option_map (λ s. s.node.now) l.fn.top));
  deep : length (g.T.Path.kept l.path) + longest_key (tree_pairs (option_map (λ s. s.node.now) l.next))
      ≤ length (g.T.Path.kept l.fn.path) + longest_key (tree_pairs (option_map (λ s. s.node.now) l.fn.top));
  low : tree_height (option_map (λ s. s.node.now) l.next)
      ≤ tree_height (option_map (λ s. s.node.now) l.fn.top);
  reserved : g.T.Path.capacity l.fn.path ≤ g.T.Path.capacity l.path;
  requested : g.T.Path.requested l.path ≡ g.T.Path.requested l.fn.path;
  still : tree_part g.T.Keeps.grown (g.T.Path.kept l.path) l.rest (option_map (λ s. s.node.now) l.next)
      ≡ tree_part g.T.Keeps.grown (g.T.Path.kept l.fn.path) l.fn.prefix (option_map (λ s. s.node.now) l.fn.top);
  visits : g.C.Count.number l.counter + tree_entered l.rest (option_map (λ s. s.node.now) l.next)
      ≡ g.C.Count.number l.fn.counter + tree_entered l.fn.prefix (option_map (λ s. s.node.now) l.fn.top);
}

abbrev pub decreases-loop-next : goal.decreases-loop-next
decreases-loop-next g l = tree_count (option_map (λ s. s.node.now) l.next)
