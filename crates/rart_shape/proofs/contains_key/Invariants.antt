use Rattle.std.proofs.Common.{◌≡◌, drop}
use Rattle.rart_trie.specs.shapes.Shape.{contains_key}
use Rattle.rart_trie.specs.shapes.KeyLists.{keys_in}
use Rattle.rart_shape.proofs.contains_key.Given as goal

abbrev pub invariant-loop-key : goal.invariant-loop-key
invariant-loop-key l = contains_key (keys_in (drop l.key-index l.keys)) l.path ≡ contains_key (keys_in l.keys) l.path
