-- A walk beside its path, and its steps from its deepest level, which is the last.
use Rattle.std.specs.Prelude.{ℕ, ◌≡◌, ◌≢◌, ◌+◌, ◌⊎◌, List, [], ◌∷◌, ◌++◌, Option, MatchOption, reverse, vec_capacity}
use Rattle.std.specs.Borrow.{Bor}
use Rattle.std.specs.Global.{Vec}
use Rattle.std.specs.Option.{option_copied}
use Rattle.rart_nodes.specs.declared.node.path_walk.ascending.Walk.{Walk}
use Rattle.rart_trie.specs.tries.Trie.{Trie, Children, no_children, child, children_in}
use Rattle.rart_trie.specs.walks.Walk.{Grown, IsWalk, Level, SegmentList, entries_ahead, nodes_below}

-- a walk with a level has a place for each byte of the longest key and one more
abbrev pub HasPlaces : {L : Type 0} → Vec L → ℕ → Type 0
HasPlaces levels longest = levels.items ≢ [] → vec_capacity levels ≡ longest + 1

module _ {P V C : Type 0} where
  -- the walk is at the path k
  abbrev pub IsWalkAt : Walk P V C → SegmentList → Type 0
  IsWalkAt w k = IsWalk w.longest (vec_capacity w.levels) k (reverse w.levels.items)

  -- what the walk at the path k has still to give
  abbrev pub walk_entries : Grown → SegmentList → Walk P V C → List (SegmentList × V)
  walk_entries g k w = entries_ahead g k (option_copied w.first) w.levels.items

  -- how many nodes it has still to visit
  abbrev pub walk_nodes : Walk P V C → ℕ
  walk_nodes w = nodes_below (reverse w.levels.items)

-- there is no level, or the deepest has no more children
pub record DeepestLeft {V : Type 0} (before after : List (Level V)) : Type 0 where
  pub same : after ≡ before
  pub left : (before ≡ []) ⊎ ((rest : List (Level V)) × ((d : ℕ) × (before ≡ rest ++ (no_children, d) ∷ [])))

-- the deepest level gives its first child t, and has the others left
pub record DeepestStep {V : Type 0} (before : List (Level V)) (t : Trie V) (d : ℕ) (after : List (Level V)) : Type 0
  where
    pub rest : List (Level V)
    pub edge : ℕ
    pub others : Children V
    pub was : before ≡ rest ++ (child edge t others, d) ∷ []
    pub is : after ≡ rest ++ (others, d) ∷ []

-- a level of t's children comes after the others, n deep, unless t has none
abbrev pub PushesLevel : {V : Type 0} → List (Level V) → Trie V → ℕ → List (Level V) → Type 0
PushesLevel before t n after = ((after ≡ before ++ (children_in t, n) ∷ []) × (children_in t ≢ no_children))
    ⊎ ((after ≡ before) × (children_in t ≡ no_children))

-- the first remaining value was returned, at the path that is kept now; or none remained, and none does
abbrev pub TakesEntry : {V : Type 0} → List (SegmentList × V) → SegmentList → Option (Bor V) → List (SegmentList × V)
    → Type 0
TakesEntry before k given after = MatchOption given ((before ≡ []) × (after ≡ [])) (λ v. before ≡ (k, v.now) ∷ after)
