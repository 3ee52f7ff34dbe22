use Rattle.std.proofs.Common.{◌≡◌, ◌++◌}
use Rattle.rart_trie.specs.storages.Stored.{child_entries, storage_capacity, stored_prefix, stored_value}
use Rattle.rart_trie.proofs.retentions.RetainWalkLemmas.{Retaining}
use Rattle.rart_trie.proofs.storages.EntryPlaces.{ahead_count}
use Rattle.rart_trie.proofs.node.DefaultNode.+retain_part.Given as goal

abbrev pub decreases-retain_part : goal.decreases-retain_part
decreases-retain_part g l = goal.size-retain_part g l

abbrev pub invariant-loop-next : goal.invariant-loop-next
invariant-loop-next g l = record {
  path : g.P.Partial.bytes l.path
      ≡ g.P.Partial.bytes l.fn.path ++ g.P.Partial.bytes (stored_prefix l.self-inside.storage);
  visited : Retaining g.F.FnMut l.inside (g.P.Partial.bytes l.fn.path) l.fn.f l.fn.self l.keeps l.has_value
      l.walk l.f (g.P.Partial.bytes (stored_prefix l.self-inside.storage)) (stored_value l.self-inside.storage)
      (storage_capacity
      l.self-inside.storage)
      (child_entries l.self-inside.storage) l.next;
}

abbrev pub decreases-loop-next : goal.decreases-loop-next
decreases-loop-next g l = ahead_count l.next (child_entries l.self-inside.storage)
