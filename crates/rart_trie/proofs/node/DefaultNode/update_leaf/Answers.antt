use Rattle.std.proofs.Common.{refl, ap, None}
use Rattle.rart_trie.specs.tries.Trie.{value_of}
use Rattle.rart_trie.proofs.node.DefaultNode.update_leaf.Goals as goal

pub unreachable-requires : goal.unreachable-requires
unreachable-requires g c =
    let shown = rw (c.take_value.ensures.taken, ap value_of c.self.view_is, c.in_default.is) at c.show-left.ensures in
    c.requires.occupancy _ _ None shown refl
