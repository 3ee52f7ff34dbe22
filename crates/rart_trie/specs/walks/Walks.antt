-- What a walk over a storage's children has still to give.
use Rattle.std.specs.Prelude.{ℕ, List, []}
use Rattle.rart_trie.specs.declared.node.storage.walk.StorageIter.{StorageIter}
use Rattle.rart_trie.specs.declared.node.storage.walk.StorageIter.TheVariants.{Childless, Sorted, Indexed, Direct}

abbrev pub to_come : {N : Type 0} → StorageIter N → List (ℕ × N)
to_come Childless = []
to_come (Sorted es) = es
to_come (Indexed es) = es
to_come (Direct es) = es
