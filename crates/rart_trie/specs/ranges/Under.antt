-- The entries and the children under a byte, and a node's children before its last ones.
use Rattle.std.specs.Prelude.{ℕ, nat_lt, List, [], ◌∷◌, Option, Some, None, if◌then◌else◌}
use Rattle.rart_trie.specs.tries.Trie.{Trie, Children, no_children, child}

-- the entries whose byte is under b
abbrev pub entries_under : {X : Type 0} → ℕ → List (ℕ × X) → List (ℕ × X)
entries_under b [] = []
entries_under b (e ∷ es) = if nat_lt e.0 b then e ∷ entries_under b es else entries_under b es

-- the children whose byte is under b
abbrev pub children_under : {V : Type 0} → ℕ → Children V → Children V
children_under b no_children = no_children
children_under b (child c t cs) = if nat_lt c b then child c t (children_under b cs) else children_under b cs

-- those before an end, if there is one
abbrev pub children_before : {V : Type 0} → Option ℕ → Children V → Children V
children_before None cs = cs
children_before (Some b) cs = children_under b cs

-- with the child t at b after them
abbrev pub with_last : {V : Type 0} → Children V → ℕ → Trie V → Children V
with_last no_children b t = child b t no_children
with_last (child c u cs) b t = child c u (with_last cs b t)
