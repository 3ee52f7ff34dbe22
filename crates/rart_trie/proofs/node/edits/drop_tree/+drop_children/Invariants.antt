use Rattle.rart_trie.specs.storages.Stored.{child_entries}
use Rattle.rart_trie.specs.tries.TrieCode.{as_children, child_count}
use Rattle.rart_trie.proofs.storages.DropLemmas.{Dropping}
use Rattle.rart_trie.proofs.storages.EntryPlaces.{ahead_count}
use Rattle.rart_trie.proofs.node.edits.drop_tree.+drop_children.Given as goal

abbrev pub decreases-drop_children : goal.decreases-drop_children
decreases-drop_children g l = child_count (as_children (child_entries l.storage.now))

abbrev pub invariant-loop-next : goal.invariant-loop-next
invariant-loop-next g l = Dropping (child_count (as_children (child_entries l.fn.storage)))
    (child_entries l.storage) l.next

abbrev pub decreases-loop-next : goal.decreases-loop-next
decreases-loop-next g l = ahead_count l.next (child_entries l.storage)
