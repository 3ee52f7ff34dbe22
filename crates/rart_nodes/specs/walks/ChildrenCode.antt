-- How a proof distinguishes children.
use Rattle.std.specs.Prelude.{[], None, refl}
use Rattle.std.specs.Coded.{Coded, code_by}
use Rattle.rart_trie.specs.tries.Trie.{Trie, node, Children, children_in}
use Rattle.rart_trie.specs.tries.TrieCode.{trie_code}

-- children are distinguished as a node that has nothing else
abbrev pub children_code : {V : Type 0} → Coded V → Coded (Children V)
children_code {V} c = code_by (Trie V) (trie_code c) (λ cs. node [] None 0 cs) children_in (λ cs. refl)
