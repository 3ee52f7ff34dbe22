use Rattle.std.proofs.Common.{arith, ap}
use Rattle.rart_trie.specs.storages.Stored.{child_entries, storage_capacity, stored_prefix, stored_value}
use Rattle.rart_trie.specs.tries.Trie.{node}
use Rattle.rart_trie.specs.tries.TrieCode.{as_children, node_count}
use Rattle.rart_trie.proofs.storages.DropLemmas.{dropping-fewer, dropping-first, dropping-step}
use Rattle.rart_trie.proofs.node.edits.drop_tree.+drop_children.Goals as goal

pub loop-next-init : goal.loop-next-init
loop-next-init g t c = dropping-first _ _ c.first_byte-next.ensures

pub drop_children-requires : goal.drop_children-requires
drop_children-requires g t c κs within = (
  omega (
    arith,
    c.decreases,
    ap node_count c.child.view_is,
    dropping-fewer _ _ _ _ (rw c.in-Some.is at c.loop-next.invariant) c.in-Some-seek_child_mut.ensures.value,
  ),
  within,
)

pub loop-next-smaller : goal.loop-next-smaller
loop-next-smaller g t c =
    let left = rw c.in-Some-seek_child_mut.is at c.seek_child_mut.follows.holds
    (node (g.P.Partial.bytes (stored_prefix c.drop_children.new.storage)) (stored_value c.drop_children.new.storage)
    (storage_capacity c.drop_children.new.storage)
    (as_children (child_entries c.drop_children.new.storage))) in
    rw c.in-Some.is (dropping-step _ _ _ _ _ _ _ _ _ _ (rw c.in-Some.is at c.loop-next.invariant)
    c.in-Some-seek_child_mut.ensures.value c.drop_children.ensures.entries left.1 c.byte_above-next.ensures).1

pub loop-next-preserved : goal.loop-next-preserved
loop-next-preserved g t c =
    let left = rw c.in-Some-seek_child_mut.is at c.seek_child_mut.follows.holds
    (node (g.P.Partial.bytes (stored_prefix c.drop_children.new.storage)) (stored_value c.drop_children.new.storage)
    (storage_capacity c.drop_children.new.storage)
    (as_children (child_entries c.drop_children.new.storage))) in
    (dropping-step _ _ _ _ _ _ _ _ _ _ (rw c.in-Some.is at c.loop-next.invariant)
    c.in-Some-seek_child_mut.ensures.value c.drop_children.ensures.entries left.1 c.byte_above-next.ensures).0
