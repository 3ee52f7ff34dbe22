use Rattle.std.proofs.Common.{◌≡◌, true}
use Rattle.rart_trie.specs.tries.CanonicalTest.{is_canonical}
use Rattle.rart_trie.specs.tries.Trie.{Trie, node, no_children, child, capacity_in, children_in}
use Rattle.rart_trie.proofs.tries.CanonicalTests.{IsCanonical-test}
use Rattle.rart_nodes.proofs.walks.WalkLemmas.{childless}
use Rattle.rart_nodes.proofs.node.seen.Entered.has_no_children.Goals as goal

-- a node without children has no capacity for any
no-capacity : {V : Type 0} (t : Trie V) → is_canonical t ≡ true → children_in t ≡ no_children → capacity_in t ≡ 0
no-capacity (node p v n no_children) w e = (IsCanonical-test (node p v n no_children) w).1
no-capacity (node p v n (child b t cs)) w e = absurd (cc e)

pub returns : goal.returns
returns g c = (
  λ t. childless c.args.self.node.now c.args.self.canonical (c.is_leaf.ensures.0 t),
  λ e. c.is_leaf.ensures.1
      (no-capacity c.args.self.node.now c.args.self.canonical e),
)
