-- A radix tree as data: a prefix, a value, a capacity, and children by their first byte.
use Rattle.std.specs.Prelude.{ℕ, ◌≡◌, ◌≤◌, ◌==◌, ◌⊎◌, suc, List, [], ◌∷◌, ◌++◌, map, length, Option, Some}
use Rattle.std.specs.Prelude.{None, IsSome, is_some, if◌then◌else◌}
use Rattle.std.specs.Ordering.{nat_cmp, match_ordering}
use Rattle.rart_keys.specs.ByteStrings.{strip_prefix}
use Rattle.rart_trie.specs.shapes.Shape.{capacity_of, NodeRecord}

mutual
  pub data Trie (V : Type 0) : Type 0 where
    node : List ℕ → Option V → ℕ → Children V → Trie V

  pub data Children (V : Type 0) : Type 0 where
    no_children : Children V
    child : ℕ → Trie V → Children V → Children V

-- the keys and values
abbrev pub with_prefix : {V : Type 0} → List ℕ → List (List ℕ × V) → List (List ℕ × V)
with_prefix p es = map (λ e. (p ++ e.0, e.1)) es

-- the value of a node, at the empty string
abbrev pub own_pair : {V : Type 0} → Option V → List (List ℕ × V)
own_pair None = []
own_pair (Some v) = ([], v) ∷ []

-- the joined prefixes of the nodes that hold a value, with it, from the root down
abbrev mutual
  pub pairs_of : {V : Type 0} → Trie V → List (List ℕ × V)
  pairs_of (node p v c cs) = with_prefix p (own_pair v ++ children_pairs cs)

  pub children_pairs : {V : Type 0} → Children V → List (List ℕ × V)
  children_pairs no_children = []
  children_pairs (child b t cs) = pairs_of t ++ children_pairs cs

-- the edge bytes of the children
abbrev pub edges_of : {V : Type 0} → Children V → List ℕ
edges_of no_children = []
edges_of (child b t cs) = b ∷ edges_of cs

abbrev pub record_of : {V : Type 0} → Trie V → NodeRecord
record_of (node p v n cs) = record { holds_value = is_some v; edges = edges_of cs; capacity = n }

-- the same tree, with its record in the place of each node's value
abbrev mutual
  pub with_records : {V : Type 0} → Trie V → Trie NodeRecord
  with_records (node p v c cs) = node p (Some (record { holds_value = is_some v; edges = edges_of cs; capacity = c })) c
      (children_with_records cs)

  pub children_with_records : {V : Type 0} → Children V → Children NodeRecord
  children_with_records no_children = no_children
  children_with_records (child b t cs) = child b (with_records t) (children_with_records cs)

-- each node's joined prefixes and its record, from the root down
abbrev pub nodes_of : {V : Type 0} → Trie V → List (List ℕ × NodeRecord)
nodes_of t = pairs_of (with_records t)

-- the list begins with c
abbrev pub StartsWith : ℕ → List ℕ → Type 0
StartsWith c [] = ⊥
StartsWith c (x ∷ xs) = x ≡ c

-- the parts of a node
abbrev pub prefix_of : {V : Type 0} → Trie V → List ℕ
prefix_of (node p v c cs) = p

abbrev pub value_of : {V : Type 0} → Trie V → Option V
value_of (node p v c cs) = v

abbrev pub capacity_in : {V : Type 0} → Trie V → ℕ
capacity_in (node p v c cs) = c

abbrev pub children_in : {V : Type 0} → Trie V → Children V
children_in (node p v c cs) = cs

-- there are at least two children
abbrev pub HasTwoChildren : {V : Type 0} → Children V → Type 0
HasTwoChildren no_children = ⊥
HasTwoChildren (child b t no_children) = ⊥
HasTwoChildren (child b t (child c u cs)) = Unit {0}

-- each node has a value or branches, its capacity is its children's, and they ascend, each by the byte that its
-- prefix begins with
abbrev mutual
  pub IsCanonical : {V : Type 0} → Trie V → Type 0
  IsCanonical (node p v c cs) = (IsSome v ⊎ HasTwoChildren cs) × (c ≡ capacity_of (length (edges_of cs)))
      × AreCanonical 0 cs

  pub AreCanonical : {V : Type 0} → ℕ → Children V → Type 0
  AreCanonical low no_children = Unit {0}
  AreCanonical low (child b t cs) = (low ≤ b) × StartsWith b (prefix_of t) × IsCanonical t × AreCanonical (suc b) cs

-- What a descent along a key returns: `left` where the key leaves a node's prefix, `ended` at the node where it ends.
-- `absent` where no child has its next byte. `on` at a node that it passes, from what the child returns.
pub record Descent (V A : Type 0) : Type 0 where
  pub left : List ℕ → Trie V → A
  pub ended : Trie V → A
  pub absent : A
  pub on : Trie V → A → A

-- at a node, by the rest of the key after its prefix
abbrev pub by_rest : {A : Type 0} → A → A → (A → A) → Option (List ℕ) → (ℕ → List ℕ → A) → A
by_rest left ended on None f = left
by_rest left ended on (Some []) f = ended
by_rest left ended on (Some (b ∷ k)) f = on (f b (b ∷ k))

abbrev mutual
  pub descend : {V A : Type 0} → Descent V A → List ℕ → Trie V → A
  descend d k (node p v n cs) = by_rest (d.left k (node p v n cs)) (d.ended (node p v n cs)) (d.on (node p v n cs))
      (strip_prefix p k) (λ b r. descend_child d b r cs)

  pub descend_child : {V A : Type 0} → Descent V A → ℕ → List ℕ → Children V → A
  descend_child d b k no_children = d.absent
  descend_child d b k (child c t cs) = match_ordering (nat_cmp b c) d.absent (descend d k t) (descend_child d b k cs)

-- `descend` for a tree
abbrev pub descend_tree : {V A : Type 0} → Descent V A → List ℕ → Option (Trie V) → A
descend_tree d k None = d.absent
descend_tree d k (Some t) = descend d k t

-- a look-up
abbrev pub looks_up : {V : Type 0} → Descent V (Option V)
looks_up = record { left = λ k t. None; ended = value_of; absent = None; on = λ t x. x }

abbrev pub trie_lookup : {V : Type 0} → List ℕ → Trie V → Option V
trie_lookup k t = descend looks_up k t

abbrev pub child_lookup : {V : Type 0} → ℕ → List ℕ → Children V → Option V
child_lookup b k cs = descend_child looks_up b k cs

abbrev pub answer_after : {V : Type 0} → Option (List ℕ) → Option V → (ℕ → List ℕ → Option V) → Option V
answer_after o v f = by_rest None v (λ x. x) o f

-- a node of the capacity that its children fix
abbrev pub fitting_node : {V : Type 0} → List ℕ → Option V → Children V → Trie V
fitting_node p v cs = node p v (capacity_of (length (edges_of cs))) cs

-- a node without children
abbrev pub leaf : {V : Type 0} → List ℕ → V → Trie V
leaf k v = fitting_node k (Some v) no_children

-- the prefix that two lists share, and the rest of each
pub record Overlap : Type 0 where
  pub shared : List ℕ
  pub left : List ℕ
  pub right : List ℕ

-- an overlap with one more shared byte in front
abbrev pub grown_overlap : ℕ → Overlap → Overlap
grown_overlap x r = record { shared = x ∷ r.shared; left = r.left; right = r.right }

-- how two strings overlap
abbrev pub overlap : List ℕ → List ℕ → Overlap
overlap [] k = record { shared = []; left = []; right = k }
overlap (x ∷ p) [] = record { shared = []; left = x ∷ p; right = [] }
overlap (x ∷ p) (y ∷ k) = if x == y then grown_overlap x (overlap p k)
    else record { shared = []; left = x ∷ p; right = y ∷ k }

-- two children in order
abbrev pub two_children : {V : Type 0} → ℕ → Trie V → ℕ → Trie V → Children V
two_children b s c t = match_ordering (nat_cmp b c) (child b s (child c t no_children))
    (child b s (child c t no_children)) (child c t (child b s no_children))

-- a node with v inserted, by how its prefix p and the key part: q is shared, l is left of p and r of the key
abbrev pub put_split : {V : Type 0} → List ℕ → List ℕ → List ℕ → V → Option V → ℕ → Children V
    → (ℕ → List ℕ → Children V) → Trie V
put_split q [] [] v old n cs f = node q (Some v) n cs
put_split q [] (b ∷ r) v old n cs f = fitting_node q old (f b (b ∷ r))
put_split q (c ∷ l) [] v old n cs f = fitting_node q (Some v) (child c (node (c ∷ l) old n cs) no_children)
put_split q (c ∷ l) (b ∷ r) v old n cs f
    = fitting_node q None (two_children c (node (c ∷ l) old n cs) b (leaf (b ∷ r) v))

-- `put_split` for an overlap
abbrev pub put_overlap : {V : Type 0} → Overlap → V → Option V → ℕ → Children V → (ℕ → List ℕ → Children V) → Trie V
put_overlap s v old n cs f = put_split s.shared s.left s.right v old n cs f

-- An insertion. It rebuilds the nodes that it passes, so it has a recursion of its own, as a removal has.
abbrev mutual
  pub trie_put : {V : Type 0} → List ℕ → V → Trie V → Trie V
  trie_put k v (node p old n cs) = put_overlap (overlap p k) v old n cs (λ b r. put_child b r v cs)

  pub put_child : {V : Type 0} → ℕ → List ℕ → V → Children V → Children V
  put_child b k v no_children = child b (leaf k v) no_children
  put_child b k v (child c t cs) = match_ordering (nat_cmp b c) (child b (leaf k v) (child c t cs))
      (child c (trie_put k v t) cs) (child c t (put_child b k v cs))

-- a node whose value or children were taken: none where nothing is left, and merged with an only child where it has no
-- value
abbrev pub collapsed_node : {V : Type 0} → List ℕ → Option V → Children V → Option (Trie V)
collapsed_node p None no_children = None
collapsed_node p None (child b (node q v n cs) no_children) = Some (node (p ++ q) v n cs)
collapsed_node p None (child b t (child c u cs)) = Some (fitting_node p None (child b t (child c u cs)))
collapsed_node p (Some v) cs = Some (fitting_node p (Some v) cs)

-- a node without a key, by the rest of the key after the prefix
abbrev pub removed_after : {V : Type 0} → Option (List ℕ) → List ℕ → Option V → Children V → (ℕ → List ℕ → Children V)
    → Option (Trie V)
removed_after None p v cs f = collapsed_node p v cs
removed_after (Some []) p v cs f = collapsed_node p None cs
removed_after (Some (b ∷ k)) p v cs f = collapsed_node p v (f b (b ∷ k))

-- a child in front, if there is one
abbrev pub child_if : {V : Type 0} → ℕ → Option (Trie V) → Children V → Children V
child_if b None cs = cs
child_if b (Some t) cs = child b t cs

-- a removal, which rebuilds them too
abbrev mutual
  pub trie_remove : {V : Type 0} → List ℕ → Trie V → Option (Trie V)
  trie_remove k (node p v n cs) = removed_after (strip_prefix p k) p v cs (λ b r. remove_child b r cs)

  pub remove_child : {V : Type 0} → ℕ → List ℕ → Children V → Children V
  remove_child b k no_children = no_children
  remove_child b k (child c t cs) = match_ordering (nat_cmp b c) (child c t cs) (child_if c (trie_remove k t) cs)
      (child c t (remove_child b k cs))

-- the child at a byte, if there is one
abbrev pub child_of : {V : Type 0} → ℕ → Children V → Option (Trie V)
child_of b no_children = None
child_of b (child c t cs) = if c == b then Some t else child_of b cs

abbrev pub child_in : {V : Type 0} → ℕ → Trie V → Option (Trie V)
child_in b t = child_of b (children_in t)
