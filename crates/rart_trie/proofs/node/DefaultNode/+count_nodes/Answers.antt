use Rattle.std.proofs.Common.{◌∙◌, sym, ap, arith, refl}
use Rattle.std.specs.Prelude.{max}
use Rattle.rart_trie.specs.storages.Stored.{child_entries, storage_capacity, stored_prefix, stored_value}
use Rattle.rart_trie.specs.tries.Trie.{children_in}
use Rattle.rart_trie.specs.tries.TrieCode.{as_children, node_count}
use Rattle.rart_trie.proofs.tree_stats.CountLemmas.{own-free, few-high, count-start, count-step, count-free, count-end}
use Rattle.rart_trie.proofs.tree_stats.CountLemmas.{max-numbers}
use Rattle.rart_trie.proofs.node.DefaultNode.+count_nodes.Goals as goal

pub add_node-requires : goal.add_node-requires
add_node-requires g t c = omega (
  arith,
  c.requires,
  ap node_count c.self.view_is,
  c.num_children-children.ensures,
  own-free (g.P.Partial.bytes (stored_prefix c.self.inside.storage)) (stored_value c.self.inside.storage)
      (storage_capacity c.self.inside.storage)
      (child_entries c.self.inside.storage),
)

pub loop-byte-init : goal.loop-byte-init
loop-byte-init g t c = record {
  can = tt;
  finite = tt;
  counting = rw (← c.self.view_is) (count-start _ _ _ _ _ _ _ (child_entries c.self.inside.storage)
      (ap as_children c.into_iter-byte-iterator.ensures.into_iter_gives ∙ c.iter-byte-items.ensures.children
      ∙ ap children_in (sym c.self.view_is))
      c.num_children-children.ensures (c.add_node.ensures ∙ rw (c.has_value.ensures, c.capacity.ensures) refl));
}

pub loop-byte-init-derived : goal.loop-byte-init-derived
loop-byte-init-derived g t c = (tt, tt)

pub count_nodes-requires : goal.count_nodes-requires
count_nodes-requires g t c κs within =
    let reserved = count-free _ _ _ _ _ _ _ _ c.in-Some.ensures.steps c.loop-byte.invariant.counting in
    (omega (arith, c.decreases, reserved.1), (within.0, (within.1, omega (arith, reserved.0, c.requires))))

pub loop-byte-preserved : goal.loop-byte-preserved
loop-byte-preserved g t c = record {
  can = tt;
  finite = tt;
  counting = count-step _ _ _ _ _ _ _ _ _ _ c.in-Some.ensures.steps c.count_nodes.ensures.counts
      (c.max-below.ensures ∙ max-numbers _ _ ∙ ap (max c.loop-byte.below) c.count_nodes.ensures.height)
      c.loop-byte.invariant.counting;
}

pub overflow_add-result : goal.overflow_add-result
overflow_add-result g t c =
    let done = count-end _ _ _ _ _ c.in-None.ensures.steps.0 c.loop-byte.invariant.counting in
    omega (arith, c.requires, done.1, few-high c.args.self.now)
