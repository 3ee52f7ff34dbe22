use Rattle.rart_trie.specs.ranges.LentBounds.{lent_bound}
use Rattle.rart_trie.specs.storages.Stored.{child_entries, storage_capacity, stored_prefix, stored_value}
use Rattle.rart_trie.proofs.ranges.BetweenLemmas.{is_between}
use Rattle.rart_trie.proofs.changes.ValueWalkLemmas.{Changing}
use Rattle.rart_trie.proofs.storages.EntryPlaces.{ahead_count}
use Rattle.rart_trie.proofs.node.DefaultNode.+change_within.Given as goal

abbrev pub decreases-change_within : goal.decreases-change_within
decreases-change_within g l = goal.size-change_within g l

abbrev pub invariant-loop-next : goal.invariant-loop-next
invariant-loop-next g l = Changing g.F.FnMut (is_between (lent_bound l.low) (lent_bound l.high)) l.fn.f l.fn.self l.f
    (g.P.Partial.bytes (stored_prefix l.self-inside.storage))
    (stored_value l.self-inside.storage) (storage_capacity l.self-inside.storage) (child_entries
    l.self-inside.storage) l.next

abbrev pub decreases-loop-next : goal.decreases-loop-next
decreases-loop-next g l = ahead_count l.next (child_entries l.self-inside.storage)
