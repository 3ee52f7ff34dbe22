use Rattle.std.proofs.Common.{◌∙◌, sym, arith}
use Rattle.rart_trie.specs.storages.Stored.{child_entries, storage_capacity, stored_prefix, stored_value}
use Rattle.rart_trie.proofs.edits.LeafLemmas.{leaf_at-inner, leaf_at-left, leaf_at-rest}
use Rattle.rart_trie.proofs.node.DefaultNode.is_leaf_at.Goals as goal

pub returns-then-num_children-gt0 : goal.returns-then-num_children-gt0
returns-then-num_children-gt0 g c = rw (← c.self.view_is)
    (sym (leaf_at-inner (g.P.Partial.bytes (stored_prefix c.self.inside.storage)) c.args.key.now
    (stored_value c.self.inside.storage)
    (storage_capacity c.self.inside.storage) (child_entries c.self.inside.storage)
    (omega (arith, c.num_children.ensures, c.if-num_children-gt0.true))))

pub returns-in-Some : goal.returns-in-Some
returns-in-Some g c = rw (← c.self.view_is) (c.is_empty.ensures
    ∙ sym (leaf_at-rest _ c.args.key.now _ (stored_value c.self.inside.storage) (storage_capacity c.self.inside.storage)
    (child_entries c.self.inside.storage) (omega (arith, c.num_children.ensures, c.if-num_children-gt0.false))
    c.in-Some.ensures))

pub returns-in-None : goal.returns-in-None
returns-in-None g c = rw (← c.self.view_is)
    (sym (leaf_at-left _ c.args.key.now (stored_value c.self.inside.storage) (storage_capacity c.self.inside.storage) _
    c.in-None.ensures))
