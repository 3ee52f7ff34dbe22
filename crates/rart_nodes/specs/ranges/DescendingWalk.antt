-- A walk over a tree from its last key, which keeps something of each prefix on its path.
use Rattle.std.specs.Prelude.{ℕ, ◌≡◌, ◌⊎◌, List, [], ◌∷◌, ◌++◌, map, take, reverse, Option, MatchOption}
use Rattle.std.specs.Prelude.{vec_capacity}
use Rattle.rart_nodes.specs.declared.node.path_walk.descending.DescendingWalk.{DescendingWalk}
use Rattle.std.specs.Borrow.{Bor}
use Rattle.std.specs.Option.{option_copied}
use Rattle.rart_trie.specs.ranges.Under.{with_last}
use Rattle.rart_trie.specs.tries.Trie.{Trie, Children, no_children, children_in, value_of}
use Rattle.rart_trie.specs.walks.Walk.{SegmentList, Grown, IsKeyWalk, IsWalk, Level, children_entries, segments_after}
use Rattle.rart_trie.specs.walks.Walk.{value_at}

-- a level of a walk, and the value of its node, which comes after the children
abbrev pub DescendingLevel : Type 0 → Type 0
DescendingLevel V = Level V × Option (Bor V)

-- the values that a walk still yields, ascending, from its levels along the path k, the deepest first
abbrev pub remaining_entries : {V : Type 0} → Grown → SegmentList → List (DescendingLevel V) → List (SegmentList × V)
remaining_entries g k [] = []
remaining_entries g k (l ∷ ls) = remaining_entries g k ls
    ++ segments_after (take l.0.1 k) (value_at [] (option_copied l.1) ++ children_entries g l.0.0)

-- the levels along a path k, with capacity for longer ones
abbrev pub IsDescendingWalk : {V : Type 0} → ℕ → ℕ → SegmentList → List (DescendingLevel V) → Type 0
IsDescendingWalk longest places k ls = IsWalk longest places k (map (λ l. l.0) ls)

-- a walk with the bytes of its path, which have capacity for the longest key, which is within the keys' maximum
abbrev pub IsDescendingKeyWalk : {V : Type 0} → Option ℕ → ℕ → ℕ → ℕ → SegmentList → List (DescendingLevel V) → Type 0
IsDescendingKeyWalk maximum longest places capacity k ls
    = IsKeyWalk maximum longest places capacity k (map (λ l. l.0) ls)

module _ {P V C : Type 0} where
  -- the walk is at the path k
  abbrev pub IsDescendingWalkAt : DescendingWalk P V C → SegmentList → Type 0
  IsDescendingWalkAt w k = IsDescendingWalk w.longest (vec_capacity w.levels) k (reverse w.levels.items)

  -- what the walk at the path k has still to give, ascending
  abbrev pub descending_walk_entries : Grown → SegmentList → DescendingWalk P V C → List (SegmentList × V)
  descending_walk_entries g k w = remaining_entries g k (reverse w.levels.items)

-- there is no level, or the deepest, which is the last, has no more children
pub record DescendingLeft {V : Type 0} (before after : List (DescendingLevel V)) : Type 0 where
  pub same : after ≡ before
  pub left : (before ≡ []) ⊎ ((rest : List (DescendingLevel V)) × ((l : DescendingLevel V) × ((before ≡ rest ++ l ∷ [])
      × (l.0.0 ≡ no_children))))

-- the deepest level gives its last child t, and has the others left
pub record DescendingStep {V : Type 0} (before : List (DescendingLevel V)) (t : Trie V) (d : ℕ)
    (after : List (DescendingLevel V)) : Type 0 where
  pub rest : List (DescendingLevel V)
  pub edge : ℕ
  pub others : Children V
  pub value : Option (Bor V)
  pub was : before ≡ rest ++ ((with_last others edge t, d), value) ∷ []
  pub is : after ≡ rest ++ ((others, d), value) ∷ []

-- a level of t's children comes after the others, n deep, with t's value
abbrev pub PushesNode : {V : Type 0} → List (DescendingLevel V) → Trie V → ℕ → List (DescendingLevel V) → Type 0
PushesNode {V} before t n after = (v : Option (Bor V)) × ((after ≡ before ++ ((children_in t, n), v) ∷ [])
    × (option_copied v ≡ value_of t))

-- the last remaining value was given, at the path that is kept now; or no value remained, and none does
abbrev pub TakesLast : {V : Type 0} → List (SegmentList × V) → SegmentList → Option (Bor V) → List (SegmentList × V)
    → Type 0
TakesLast before k given after = MatchOption given ((before ≡ []) × (after ≡ []))
    (λ v. before ≡ after ++ (k, v.now) ∷ [])
