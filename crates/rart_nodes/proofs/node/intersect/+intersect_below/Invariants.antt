use Rattle.std.proofs.Common.{◌≡◌, ◌+◌, [], length}
use Rattle.rart_keys.specs.SortedMap.{longest_key}
use Rattle.rart_nodes.specs.joins.Visitors.{CanGive}
use Rattle.rart_nodes.specs.joins.SharedEdges.{more_visits}
use Rattle.rart_nodes.specs.joins.SharedChildren.{intersect_all, visits_all}
use Rattle.rart_nodes.specs.joins.SharedChildrenAhead.{shared_ahead}
use Rattle.rart_nodes.specs.joins.JoinPaths.{PathGrown}
use Rattle.rart_trie.specs.tries.Trie.{children_in, children_pairs}
use Rattle.rart_trie.specs.tries.TrieCode.{node_count}
use Rattle.rart_nodes.proofs.joins.VisitorLemmas.{AreWithin}
use Rattle.rart_nodes.proofs.node.intersect.+intersect_below.Given as goal

abbrev pub decreases-intersect_below : goal.decreases-intersect_below
decreases-intersect_below g l = node_count l.left.node.now + node_count l.right.node.now

abbrev pub invariant-loop-child : goal.invariant-loop-child
invariant-loop-child g l = record {
  callable : CanGive g.T.Visitor.can g.T.Visitor.given l.initial.path l.f
      (intersect_all (shared_ahead l.shared_children l.left_aligned.node.now l.right_aligned.node.now));
  place : PathGrown l.initial.path [] l.path;
  reserved : g.T.Visitor.reserved l.path (longest_key (children_pairs (children_in l.left_aligned.node.now)));
  given : (r : _) (last : _) → g.T.Visitor.given l.initial.path l.f
      (intersect_all (shared_ahead l.shared_children l.left_aligned.node.now l.right_aligned.node.now)) r last
      → g.T.Visitor.given l.initial.path l.initial.f
      (intersect_all (shared_ahead l.initial.shared_children l.left_aligned.node.now l.right_aligned.node.now)) r last;
  visits : g.C.Count.number l.counter + visits_all
      (shared_ahead l.shared_children l.left_aligned.node.now l.right_aligned.node.now)
      ≡ g.C.Count.number l.fn.counter + more_visits l.fn.left.node.now l.fn.right.node.now;
  within : AreWithin (node_count l.fn.left.node.now + node_count l.fn.right.node.now)
      (longest_key (children_pairs (children_in l.left_aligned.node.now)))
      (shared_ahead l.shared_children l.left_aligned.node.now l.right_aligned.node.now);
}

abbrev pub decreases-loop-child : goal.decreases-loop-child
decreases-loop-child g l = length (shared_ahead l.shared_children l.left_aligned.node.now l.right_aligned.node.now)
