use Rattle.std.proofs.Common.{◌≡◌, take}
use Rattle.rart_trie.specs.shapes.Shape.{next_bytes}
use Rattle.rart_trie.specs.shapes.KeyLists.{keys_in}
use Rattle.rart_shape.proofs.next_bytes.Given as goal

abbrev pub invariant-loop-key : goal.invariant-loop-key
invariant-loop-key l = l.bytes.items ≡ next_bytes (keys_in (take l.key-index l.keys)) l.path
