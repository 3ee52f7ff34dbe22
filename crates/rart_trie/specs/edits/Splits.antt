-- A tree split by a test of its keys: what both sides are, and the steps of a plan that splits it.
use Rattle.std.specs.Prelude.{ℕ, ◌≡◌, ◌<◌, ◌≤◌, ◌&&◌, Bool, true, false, not, is_some, List, [], ◌∷◌, ◌++◌, length}
use Rattle.std.specs.Prelude.{Option, Some, None, reverse, take}
use Rattle.rart_parts.specs.Entries.{child_at, with_entry, without_byte}
use Rattle.rart_trie.specs.declared.node.edits.split.Presence.{Presence}
use Rattle.rart_trie.specs.declared.node.edits.split.Sides.{Sides}
use Rattle.rart_trie.specs.declared.node.edits.split.Step.{Step}
use Rattle.rart_trie.specs.declared.node.edits.split.Step.TheVariants.{Whole, Split}
use Rattle.rart_trie.specs.declared.node.storage.Kind.{Kind}
use Rattle.rart_trie.specs.edits.Deletion.{JoinsWithin}
use Rattle.rart_trie.specs.shapes.Shape.{capacity_of}
use Rattle.rart_trie.specs.storages.Stored.{StoresSo, child_entries, storage_capacity, stored_value}
use Rattle.rart_trie.specs.tries.Trie.{Trie, node, Children, no_children, child, child_if, collapsed_node, edges_of}
use Rattle.rart_trie.specs.tries.TrieCode.{as_children}

-- an option, if h says so
abbrev pub option_where : {A : Type 0} → Bool → Option A → Option A
option_where true o = o
option_where false o = None

-- the tree of the pairs of whose key a test holds
abbrev mutual
  pub trie_where : {V : Type 0} → (List ℕ → Bool) → Trie V → Option (Trie V)
  trie_where t (node p v n cs) = collapsed_node p (option_where (t (p ++ [])) v) (children_where (λ k. t (p ++ k)) cs)

  pub children_where : {V : Type 0} → (List ℕ → Bool) → Children V → Children V
  children_where t no_children = no_children
  children_where t (child b u cs) = child_if b (trie_where t u) (children_where t cs)

-- `trie_where` for a tree
abbrev pub tree_where : {V : Type 0} → (List ℕ → Bool) → Option (Trie V) → Option (Trie V)
tree_where t None = None
tree_where t (Some u) = trie_where t u

-- the test that holds of the other keys
abbrev pub complement : (List ℕ → Bool) → List ℕ → Bool
complement t k = not (t k)

-- which of both sides of a trie have a pair
abbrev pub IsFound : {V : Type 0} → (List ℕ → Bool) → Trie V → Presence → Type 0
IsFound t u r = (r.inside ≡ is_some (trie_where t u)) × (r.outside ≡ is_some (trie_where (complement t) u))

-- a trie is all on one side, inside if h says so
abbrev pub IsWhole : {V : Type 0} → (List ℕ → Bool) → Trie V → Bool → Type 0
IsWhole t u h = (trie_where t u ≡ option_where h (Some u))
    × (trie_where (complement t) u ≡ option_where (not h) (Some u))

-- an empty storage of the capacity for n children
pub record IsEmptyFor {P V : Type 0} (n : ℕ) (s : Kind P V (Trie V)) : Type 0 where
  pub entries : child_entries s ≡ []
  pub value : stored_value s ≡ None
  pub capacity : storage_capacity s ≡ capacity_of n
  pub fits : n ≤ storage_capacity s

-- empty storages for these numbers of children inside and outside, for a node whose value goes inside if h says so
pub record AreEmptyFor {P V : Type 0} (h : Bool) (i o : ℕ) (s : Sides P V) : Type 0 where
  pub value : s.value_inside ≡ h
  pub inside : IsEmptyFor i s.inside
  pub outside : IsEmptyFor o s.outside

module _ {P V : Type 0} where
  abbrev mutual
    -- the first of these steps split a trie by a test, and `rest` follows
    pub SplitsBy : (List ℕ → Bool) → Trie V → List (Step P V) → List (Step P V) → Type 0
    SplitsBy t (node p v n cs) [] rest = ⊥
    SplitsBy t (node p v n cs) (Whole h ∷ steps) rest = (steps ≡ rest) × IsWhole t (node p v n cs) h
    SplitsBy t (node p v n cs) (Split s ∷ steps) rest = AreEmptyFor (t (p ++ []))
        (length (edges_of (children_where (λ k. t (p ++ k)) cs)))
        (length (edges_of (children_where (λ k. complement t (p ++ k)) cs))) s
        × ChildrenSplitBy (λ k. t (p ++ k)) cs steps rest

    -- they split children, the last child first
    pub ChildrenSplitBy : (List ℕ → Bool) → Children V → List (Step P V) → List (Step P V) → Type 0
    ChildrenSplitBy t no_children steps rest = steps ≡ rest
    ChildrenSplitBy t (child b u cs) steps rest = (mid : List (Step P V)) × (ChildrenSplitBy t cs steps mid
        × SplitsBy t u mid rest)

-- the steps split a tree that has a root
abbrev pub SplitsTreeBy : {P V : Type 0} → (List ℕ → Bool) → Option (Trie V) → List (Step P V) → Type 0
SplitsTreeBy t None steps = ⊥
SplitsTreeBy t (Some u) steps = SplitsBy t u steps []

-- one more step: it splits a node of which both sides have a pair
abbrev pub AddsStep : {P V : Type 0} → Bool → Bool → ℕ → ℕ → Bool → ℕ → List (Step P V) → List (Step P V) → Type 0
AddsStep true h i o r start old new = (s : Sides _ _) × (AreEmptyFor h i o s × (reverse new ≡ Split s ∷ reverse old))
AddsStep false h i o r start old new = reverse new ≡ Whole r ∷ reverse (take start old)

-- or the node is whole, and its children have no steps
abbrev pub AddsOwn : {P V : Type 0} → Bool → ℕ → ℕ → Presence → ℕ → List (Step P V) → List (Step P V) → Type 0
AddsOwn h i o r start old new = AddsStep (r.inside && r.outside) h i o r.inside start old new

-- a storage has the value and the children of a trie that are on one side, in the capacity for them
abbrev pub IsSide : {P V : Type 0} → (List ℕ → Bool) → Trie V → Kind P V (Trie V) → Type 0
IsSide t (node p v n cs) s = (as_children (child_entries s) ≡ children_where (λ k. t (p ++ k)) cs)
    × (stored_value s ≡ option_where (t (p ++ [])) v)
    × (storage_capacity s ≡ capacity_of (length (child_entries s)))

-- both sides of a trie
abbrev pub AreSides : {P V : Type 0} → (List ℕ → Bool) → Trie V → Sides P V → Type 0
AreSides t u s = IsSide t u s.inside × IsSide (complement t) u s.outside

-- the node with a prefix over the value and the children of a storage, if it has any
abbrev pub side_node : {P V : Type 0} → List ℕ → Kind P V (Trie V) → Option (Trie V)
side_node p s = collapsed_node p (stored_value s) (as_children (child_entries s))

-- the storage has the capacity for its children, and can be merged with them
abbrev pub MakesNode : {P V : Type 0} → Option ℕ → List ℕ → Kind P V (Trie V) → Type 0
MakesNode m p s = (storage_capacity s ≡ capacity_of (length (child_entries s)))
    × JoinsWithin m p (as_children (child_entries s))

-- the child at b of a storage, if h says so
abbrev pub child_where : {P V : Type 0} → Bool → ℕ → Kind P V (Trie V) → Option (Trie V)
child_where h b s = option_where h (child_at b (child_entries s))

-- entries with one more, if there is one
abbrev pub with_side : {V : Type 0} → ℕ → Option (Trie V) → List (ℕ × Trie V) → List (ℕ × Trie V)
with_side b None es = es
with_side b (Some t) es = with_entry b t es

-- a storage has a slot for a child at b, if there is one
abbrev pub HasSlot : {P V : Type 0} → ℕ → Option (Trie V) → Kind P V (Trie V) → Type 0
HasSlot b o s = is_some o ≡ true → (child_at b (child_entries s) ≡ None)
    × (length (child_entries s) < storage_capacity s)

-- it got that child
abbrev pub TakesChild : {P V : Type 0} → ℕ → Option (Trie V) → Kind P V (Trie V) → Kind P V (Trie V) → Type 0
TakesChild b o s s' = (child_entries s' ≡ with_side b o (child_entries s))
    × (storage_capacity s' ≡ storage_capacity s) × (stored_value s' ≡ stored_value s)

-- it lost the one at b
abbrev pub LosesChild : {P V : Type 0} → ℕ → Kind P V (Trie V) → Kind P V (Trie V) → Type 0
LosesChild b s s' = StoresSo s (without_byte b (child_entries s)) s'
