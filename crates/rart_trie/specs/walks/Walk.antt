-- A walk over a tree that keeps something of each prefix on its path.
use Rattle.std.specs.Prelude.{ℕ, ◌≡◌, ◌+◌, ◌<◌, ◌≤◌, List, [], ◌∷◌, ◌++◌, length, map, take, reverse, Option, Some}
use Rattle.std.specs.Prelude.{None}
use Rattle.rart_keys.specs.KeyBytes.{IsWithin}
use Rattle.rart_keys.specs.SortedMap.{longest_key}
use Rattle.rart_trie.specs.tries.Trie.{Trie, node, Children, no_children, child, children_pairs, AreCanonical}
use Rattle.rart_trie.specs.tries.TrieCode.{child_count, node_count}

-- what is kept of a path, as segments
abbrev pub SegmentList : Type 0
SegmentList = List (List ℕ)

-- a node's prefix is kept as g says
abbrev pub Grown : Type 0
Grown = List ℕ → SegmentList

-- something is kept of each prefix that has bytes
abbrev pub KeepsEach : Grown → Type 0
KeepsEach g = (b : ℕ) (p : List ℕ) → 0 < length (g (b ∷ p))

-- no more segments are kept of a prefix than it has bytes
abbrev pub IsShort : Grown → Type 0
IsShort g = (p : List ℕ) → length (g p) ≤ length p

-- the rest of a node's children, and how much is kept of the node's key
abbrev pub Level : Type 0 → Type 0
Level V = Children V × ℕ

-- where there is a level, a path of `longest` bytes has a place for each of its levels
abbrev pub IsReserved : {A : Type 0} → ℕ → ℕ → List A → Type 0
IsReserved longest places [] = Unit {0}
IsReserved longest places (l ∷ ls) = longest < places

-- with the segments ps in front of each path
abbrev pub segments_after : {V : Type 0} → SegmentList → List (SegmentList × V) → List (SegmentList × V)
segments_after ps es = map (λ e. (ps ++ e.0, e.1)) es

-- the value at the path k, if there is one
abbrev pub value_at : {V : Type 0} → SegmentList → Option V → List (SegmentList × V)
value_at k None = []
value_at k (Some v) = (k, v) ∷ []

-- the values with what is kept of the path to each
abbrev mutual
  pub entries_of : {V : Type 0} → Grown → Trie V → List (SegmentList × V)
  entries_of g (node p v c cs) = segments_after (g p) (value_at [] v ++ children_entries g cs)

  pub children_entries : {V : Type 0} → Grown → Children V → List (SegmentList × V)
  children_entries g no_children = []
  children_entries g (child b t cs) = entries_of g t ++ children_entries g cs

abbrev pub tree_entries : {V : Type 0} → Grown → Option (Trie V) → List (SegmentList × V)
tree_entries g None = []
tree_entries g (Some t) = entries_of g t

-- the values below the levels of the path k, the deepest first
abbrev pub entries_below : {V : Type 0} → Grown → SegmentList → List (Level V) → List (SegmentList × V)
entries_below g k [] = []
entries_below g k (l ∷ ls) = segments_after (take l.1 k) (children_entries g l.0) ++ entries_below g k ls

-- the nodes there
abbrev pub nodes_below : {V : Type 0} → List (Level V) → ℕ
nodes_below [] = 0
nodes_below (l ∷ ls) = child_count l.0 + nodes_below ls

-- how many nodes a tree has
abbrev pub tree_count : {V : Type 0} → Option (Trie V) → ℕ
tree_count None = 0
tree_count (Some t) = node_count t

-- levels of canonical nodes, each no deeper than the one before it and than `deep`; no key below them is longer than
-- `longest`
abbrev pub AreLevels : {V : Type 0} → ℕ → ℕ → List (Level V) → Type 0
AreLevels longest deep [] = Unit {0}
AreLevels longest deep (l ∷ ls) = (l.1 ≤ deep) × AreCanonical 0 l.0
    × (l.1 + longest_key (children_pairs l.0) ≤ longest) × (length ls + longest_key (children_pairs l.0) ≤ longest)
    × AreLevels longest l.1 ls

-- the levels of a path k, with capacity for longer ones
pub record IsWalk {V : Type 0} (longest places : ℕ) (k : SegmentList) (ls : List (Level V)) : Type 0 where
  pub stations : AreLevels longest (length k) ls
  pub reserved : IsReserved longest places ls
  pub short : length k ≤ longest

-- a walk with the bytes of its path: their capacity is at least the longest key's length, which is within the maximum
pub record IsKeyWalk {V : Type 0} (maximum : Option ℕ) (longest places capacity : ℕ) (k : SegmentList)
    (ls : List (Level V)) : Type 0 where
  pub walk : IsWalk longest places k ls
  pub path : longest ≤ capacity
  pub within : IsWithin maximum longest

-- the remaining entries of a walk: the root's value until it is returned, and what is below the levels, the deepest
-- last
abbrev pub entries_ahead : {V : Type 0} → Grown → SegmentList → Option V → List (Level V) → List (SegmentList × V)
entries_ahead g k first st = value_at k first ++ entries_below g k (reverse st)

-- the whole string of segments
abbrev pub joined_bytes : SegmentList → List ℕ
joined_bytes [] = []
joined_bytes (p ∷ ps) = p ++ joined_bytes ps

-- what is kept of a prefix joins to it
abbrev pub Joins : Grown → Type 0
Joins g = (p : List ℕ) → joined_bytes (g p) ≡ p

-- pairs by their whole keys
abbrev pub join_all : {V : Type 0} → List (SegmentList × V) → List (List ℕ × V)
join_all es = map (λ e. (joined_bytes e.0, e.1)) es

-- the values alone
abbrev pub entry_values : {V : Type 0} → List (SegmentList × V) → List V
entry_values es = map (λ e. e.1) es
