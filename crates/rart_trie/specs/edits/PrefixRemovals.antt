-- What is below a prefix, and what a tree is without it.
use Rattle.std.specs.Prelude.{ℕ, ◌≡◌, ◌≢◌, Bool, true, false, List, [], ◌∷◌, ◌++◌, Option, Some, None, option_map}
use Rattle.std.specs.Prelude.{if◌then◌else◌}
use Rattle.std.specs.Option.{unwrap_or}
use Rattle.std.specs.Ordering.{nat_cmp, match_ordering}
use Rattle.rart_keys.specs.ByteStrings.{begins, strip_prefix}
use Rattle.rart_keys.specs.Filters.{below}
use Rattle.rart_keys.specs.SortedMap.{keys_of}
use Rattle.rart_trie.specs.edits.RemoveAllocations.{last_before, moves_down, shrinks}
use Rattle.rart_trie.specs.shapes.Shape.{NodeRecord, record_at}
use Rattle.rart_trie.specs.tries.Trie.{Trie, node, Children, no_children, child, Descent, descend, descend_tree}
use Rattle.rart_trie.specs.tries.Trie.{prefix_of, value_of, record_of, collapsed_node, child_if}

-- a node with p in front of its prefix
abbrev pub prefixed_trie : {V : Type 0} → List ℕ → Trie V → Trie V
prefixed_trie p (node q v n cs) = node (p ++ q) v n cs

-- the node at or below a prefix, with the path to it in front of its prefix
abbrev pub finds_below : {V : Type 0} → Descent V (Option (Trie V))
finds_below = record {
  left = λ q t. if begins q (prefix_of t) then Some t else None;
  ended = λ t. Some t;
  absent = None;
  on = λ t o. option_map (prefixed_trie (prefix_of t)) o;
}

abbrev pub trie_below : {V : Type 0} → List ℕ → Trie V → Option (Trie V)
trie_below q t = descend finds_below q t

abbrev pub tree_below : {V : Type 0} → List ℕ → Option (Trie V) → Option (Trie V)
tree_below q o = descend_tree finds_below q o

-- the rest of a node, by the rest of a prefix after its own, and whether the prefix begins its own
abbrev pub remaining_after : {V : Type 0} → Option (List ℕ) → Bool → Trie V → (ℕ → List ℕ → Children V)
    → Option (Trie V)
remaining_after None true t f = None
remaining_after None false t f = Some t
remaining_after (Some []) z t f = None
remaining_after (Some (b ∷ r)) z t f = collapsed_node (prefix_of t) (value_of t) (f b (b ∷ r))

-- A removal of all pairs below a prefix. It rebuilds the nodes that it passes, as `trie_remove` does.
abbrev mutual
  pub trie_without_prefix : {V : Type 0} → List ℕ → Trie V → Option (Trie V)
  trie_without_prefix q (node p v n cs) = remaining_after (strip_prefix p q) (begins q p) (node p v n cs)
      (λ b r. children_without_prefix b r cs)

  pub children_without_prefix : {V : Type 0} → ℕ → List ℕ → Children V → Children V
  children_without_prefix b q no_children = no_children
  children_without_prefix b q (child c t cs) = match_ordering (nat_cmp b c) (child c t cs)
      (child_if c (trie_without_prefix q t) cs) (child c t (children_without_prefix b q cs))

-- `trie_without_prefix` for a tree
abbrev pub tree_without_prefix : {V : Type 0} → List ℕ → Option (Trie V) → Option (Trie V)
tree_without_prefix q None = None
tree_without_prefix q (Some t) = trie_without_prefix q t

-- Whether it requests memory: where a node gives up the child at or below the prefix and moves its other children.
-- None at that child: then the node above gives it up.
abbrev pub take_prefix_allocation : {V : Type 0} → Descent V (Option Bool)
take_prefix_allocation = record {
  left = λ q t. if begins q (prefix_of t) then None else Some false;
  ended = λ t. None;
  absent = Some false;
  on = λ t allocates. Some (unwrap_or allocates (moves_down (Some (record_of t))));
}

-- `take_prefix_allocation`, at a node whose parent has the record l
abbrev pub trie_take_prefix_allocates : {V : Type 0} → Option NodeRecord → List ℕ → Trie V → Bool
trie_take_prefix_allocates l q t = unwrap_or (descend take_prefix_allocation q t) (moves_down l)

-- a key begins with q, and the longest branch point that properly begins q has 5, 17 or 49 children
abbrev pub TakeAllocates : {V : Type 0} → List ℕ → List (List ℕ × V) → Type 0
TakeAllocates q es = (below q es ≢ []) × (shrinks (last_before (record_at (keys_of es)) None q) ≡ true)
