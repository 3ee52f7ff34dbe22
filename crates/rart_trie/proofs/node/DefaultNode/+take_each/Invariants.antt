use Rattle.std.proofs.Common.{◌≡◌}
use Rattle.std.specs.Prelude.{vec_capacity}
use Rattle.rart_trie.specs.storages.Stored.{child_entries}
use Rattle.rart_trie.proofs.edits.TakeValueLemmas.{Taking}
use Rattle.rart_trie.proofs.storages.EntryPlaces.{ahead_count}
use Rattle.rart_trie.proofs.node.DefaultNode.+take_each.Given as goal

abbrev pub decreases-take_each : goal.decreases-take_each
decreases-take_each g l = goal.size-take_each g l

abbrev pub invariant-loop-next : goal.invariant-loop-next
invariant-loop-next g l = record {
  taking : Taking l.fn.self l.fn.values.items l.values.items (child_entries l.self-inside.storage) l.next;
  capacity : vec_capacity l.values ≡ vec_capacity l.fn.values;
}

abbrev pub decreases-loop-next : goal.decreases-loop-next
decreases-loop-next g l = ahead_count l.next (child_entries l.self-inside.storage)
