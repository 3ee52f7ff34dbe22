-- Whether a string begins a key, by descent.
use Rattle.std.specs.Prelude.{ℕ, Bool, true, false, List}
use Rattle.rart_keys.specs.ByteStrings.{begins}
use Rattle.rart_trie.specs.tries.Trie.{Trie, Children, Descent, descend, descend_child, prefix_of}

abbrev pub reaching : {V : Type 0} → Descent V Bool
reaching = record { left = λ k t. begins k (prefix_of t); ended = λ t. true; absent = false; on = λ t found. found }

abbrev pub reaches : {V : Type 0} → List ℕ → Trie V → Bool
reaches k t = descend reaching k t

abbrev pub reaches_child : {V : Type 0} → ℕ → List ℕ → Children V → Bool
reaches_child b k cs = descend_child reaching b k cs
