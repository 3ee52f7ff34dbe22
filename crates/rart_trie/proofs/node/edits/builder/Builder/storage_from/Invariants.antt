use Rattle.std.proofs.Common.{◌≡◌, length, drop}
use Rattle.rart_trie.specs.shapes.Shape.{capacity_of}
use Rattle.rart_trie.specs.storages.Stored.{child_entries, storage_capacity, stored_value}
use Rattle.rart_trie.proofs.build.WaitingLemmas.{IsAdding}
use Rattle.rart_trie.proofs.node.edits.builder.Builder.storage_from.Given as goal

abbrev pub invariant-loop-self : goal.invariant-loop-self
invariant-loop-self g l = record {
  adding : IsAdding l.start l.fn.self.waiting.items l.self.waiting.items (child_entries l.storage);
  capacity : storage_capacity l.storage ≡ capacity_of (length (drop l.start l.fn.self.waiting.items));
  value : stored_value l.storage ≡ l.fn.value;
  spine : l.self.spine.items ≡ l.fn.self.spine.items;
}

abbrev pub decreases-loop-self : goal.decreases-loop-self
decreases-loop-self g l = length l.self.waiting.items
