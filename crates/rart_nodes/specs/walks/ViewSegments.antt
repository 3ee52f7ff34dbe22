-- Keys that are cut into segments, none of them empty.
use Rattle.std.specs.Prelude.{ℕ, ◌≡◌, ◌<◌, ◌^◌, Bool, true, false, ◌&&◌, List, [], ◌∷◌, length, Option}
use Rattle.std.specs.Borrow.{Bor}
use Rattle.std.specs.Option.{option_copied}
use Rattle.rart_nodes.specs.declared.node.path_walk.ascending.Walk.{Walk}
use Rattle.rart_trie.specs.walks.Walk.{Level, SegmentList, joined_bytes, entries_ahead}
use Rattle.rart_nodes.specs.walks.PathParts.{lent_segments, one_segment}

-- there is a byte
abbrev pub has_bytes : List ℕ → Bool
has_bytes [] = false
has_bytes (x ∷ xs) = true

-- no segment is empty
abbrev pub all_have_bytes : SegmentList → Bool
all_have_bytes [] = true
all_have_bytes (p ∷ ps) = has_bytes p && all_have_bytes ps

-- the segments of each path have bytes, and these can be counted
abbrev pub AreViews : {V : Type 0} → List (SegmentList × V) → Type 0
AreViews [] = Unit {0}
AreViews (e ∷ es) = (all_have_bytes e.0 ≡ true) × (length (joined_bytes e.0) < 2 ^ 64) × AreViews es

-- the remaining entries of a walk whose path is of lent segments
abbrev pub views_ahead : {V : Type 0} → List (Bor (List ℕ)) → Option (Bor V) → List (Level V) → List (SegmentList × V)
views_ahead segments first levels = entries_ahead one_segment (lent_segments segments) (option_copied first) levels

abbrev pub walk_views : {P V C : Type 0} → List (Bor (List ℕ)) → Walk P V C → List (SegmentList × V)
walk_views segments w = views_ahead segments w.first w.levels.items
