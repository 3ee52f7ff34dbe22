-- The first and the last of a list, and the pair at either end of a tree.
use Rattle.std.specs.Prelude.{ℕ, List, Option, Some, None, slice_get}
use Rattle.rart_keys.specs.Filters.{last_or}
use Rattle.rart_trie.specs.declared.node.ends.End.{End}
use Rattle.rart_trie.specs.declared.node.ends.End.TheVariants.{First, Last}
use Rattle.rart_trie.specs.tries.Trie.{Trie, node, Children, no_children, child}

-- the first or the last of a list
abbrev pub end_of : {A : Type 0} → End → List A → Option A
end_of First es = slice_get es 0
end_of Last es = last_or None es

-- the first or the last child, with its byte
abbrev pub first_child : {V : Type 0} → Children V → Option (ℕ × Trie V)
first_child no_children = None
first_child (child b t cs) = Some (b, t)

abbrev pub last_child : {V : Type 0} → Children V → Option (ℕ × Trie V)
last_child no_children = None
last_child (child b t no_children) = Some (b, t)
last_child (child b t (child c u cs)) = last_child (child c u cs)

-- the child below which the first or the last pair of a node is, none where the node holds it
abbrev pub end_child : {V : Type 0} → End → Trie V → Option (ℕ × Trie V)
end_child First (node p None n cs) = first_child cs
end_child First (node p (Some v) n cs) = None
end_child Last (node p v n cs) = last_child cs
