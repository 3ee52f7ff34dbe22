-- Where a removal may allocate: by the keys alone, and by the trie.
use Rattle.std.specs.Prelude.{nat_le, not, ◌-◌, ℕ, ◌==◌, ◌||◌, ◌&&◌, Bool, false, List, [], ◌∷◌, length, Option, Some}
use Rattle.std.specs.Prelude.{None, is_some, if◌then◌else◌}
use Rattle.std.specs.Option.{unwrap_or}
use Rattle.rart_trie.specs.shapes.Shape.{NodeRecord, record_at, capacity_of}
use Rattle.rart_trie.specs.tries.Trie.{Trie, Descent, children_in, descend, edges_of, record_of}

-- a node with this record gets another capacity when it loses one child
abbrev pub shrinks : Option NodeRecord → Bool
shrinks None = false
shrinks (Some r) = length r.edges == 5 || length r.edges == 17 || length r.edges == 49

-- no key continues here
abbrev pub is_leaf_record : Option NodeRecord → Bool
is_leaf_record None = false
is_leaf_record (Some r) = length r.edges == 0

-- the last of the records at proper beginnings of q, which f gives, or l
abbrev pub last_before : (List ℕ → Option NodeRecord) → Option NodeRecord → List ℕ → Option NodeRecord
last_before f l [] = l
last_before f l (b ∷ q) = last_before (λ p. f (b ∷ p)) (if is_some (f []) then f [] else l) q

-- k is a key with nothing after it, and the longest branch point that properly begins it has 5, 17 or 49 children
abbrev pub remove_allocates : List (List ℕ) → List ℕ → Bool
remove_allocates s k = is_leaf_record (record_at s k) && shrinks (last_before (record_at s) None k)

-- a node with this record gets a smaller capacity when it loses one child
abbrev pub moves_down : Option NodeRecord → Bool
moves_down None = false
moves_down (Some r) = nat_le 2 (length r.edges) && not (capacity_of (length r.edges - 1) == r.capacity)

abbrev pub is_leaf : {V : Type 0} → Trie V → Bool
is_leaf t = length (edges_of (children_in t)) == 0

-- Whether a removal by descent requests memory: where a node gives up a leaf and moves its children.
-- None at the leaf: then the node above gives it up.
abbrev pub remove_allocation : {V : Type 0} → Descent V (Option Bool)
remove_allocation = record {
  left = λ k t. Some false;
  ended = λ t. if is_leaf t then None else Some false;
  absent = Some false;
  on = λ t allocates. Some (unwrap_or allocates (moves_down (Some (record_of t))));
}

-- `remove_allocation`, at a node whose parent has the record l
abbrev pub trie_remove_allocates : {V : Type 0} → Option NodeRecord → List ℕ → Trie V → Bool
trie_remove_allocates l k t = unwrap_or (descend remove_allocation k t) (moves_down l)
