-- A node with one child changed in its place.
use Rattle.std.specs.Prelude.{ℕ, ◌==◌, if◌then◌else◌, Option, Some, None}
use Rattle.rart_trie.specs.edits.NodeEdits.{with_value}
use Rattle.rart_trie.specs.tries.Trie.{Trie, node, Children, no_children, child, value_of, child_in}

-- children with t in the place of the one at a byte, if there is one
abbrev pub children_replaced : {V : Type 0} → ℕ → Trie V → Children V → Children V
children_replaced b t no_children = no_children
children_replaced b t (child c u cs) = if c == b then child b t cs else child c u (children_replaced b t cs)

-- a node with t in the place of its child at a byte
abbrev pub with_child_replaced : {V : Type 0} → ℕ → Trie V → Trie V → Trie V
with_child_replaced b t (node p v w cs) = node p v w (children_replaced b t cs)

-- children with x as the value of the one at a byte, if there is one
abbrev pub children_with_value : {V : Type 0} → ℕ → V → Children V → Children V
children_with_value b x no_children = no_children
children_with_value b x (child c u cs) = if c == b then child b (with_value x u) cs
    else child c u (children_with_value b x cs)

-- a node with x as the value of its child at a byte
abbrev pub with_child_value : {V : Type 0} → ℕ → V → Trie V → Trie V
with_child_value b x (node p v w cs) = node p v w (children_with_value b x cs)

-- the value of a node, if there is one
abbrev pub value_if : {V : Type 0} → Option (Trie V) → Option V
value_if None = None
value_if (Some t) = value_of t

-- the value of the child at a byte, if there is one and it holds one
abbrev pub child_value : {V : Type 0} → ℕ → Trie V → Option V
child_value b t = value_if (child_in b t)
