use Rattle.std.proofs.Common.{◌≡◌, ◌≤◌, ◌+◌, length, option_map, IfSome}
use Rattle.std.specs.Option.{option_copied}
use Rattle.rart_trie.specs.tries.Tree.{tree_pairs}
use Rattle.rart_trie.specs.walks.ProbeCount.{tree_entered}
use Rattle.rart_trie.specs.walks.Walk.{tree_count}
use Rattle.rart_nodes.specs.ranges.Nearest.{HasBytes, nearest_pair}
use Rattle.rart_nodes.proofs.ranges.NearestLemmas.{Seeks}
use Rattle.rart_nodes.proofs.node.seen.Seen.seek_nearest.Given as goal

abbrev pub invariant-loop-next : goal.invariant-loop-next
invariant-loop-next g l = record {
  seeks : Seeks l.end l.included l.bound (tree_pairs (option_copied l.fn.self.root)) l.rest
      (option_map (λ s. s.node.now) l.next) (nearest_pair l.end l.bound l.found);
  depth : IfSome l.found (λ n. n.depth ≤ length l.bound);
  below : IfSome l.found (λ n. HasBytes n.place);
  visits : g.C.Count.number l.counter + tree_entered l.rest (option_map (λ s. s.node.now) l.next)
      ≡ g.C.Count.number l.fn.counter + tree_entered l.bound (option_copied l.fn.self.root);
}

abbrev pub decreases-loop-next : goal.decreases-loop-next
decreases-loop-next g l = tree_count (option_map (λ s. s.node.now) l.next)
