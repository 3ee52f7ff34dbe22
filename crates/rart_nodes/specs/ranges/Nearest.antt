-- The pair nearest to a bound, and where a descent finds it.
use Rattle.std.specs.Prelude.{ℕ, ◌<◌, Bool, List, [], ◌++◌, length, take, Option, Some, None}
use Rattle.std.specs.declared.cmp.Ordering.{Ordering}
use Rattle.std.specs.declared.cmp.Ordering.TheVariants.{Less, Greater}
use Rattle.rart_keys.specs.Ranges.{pairs_from}
use Rattle.rart_keys.specs.declared.partials.Partial.{Ghosts}
use Rattle.rart_nodes.specs.declared.node.path_walk.nearest.Nearest.{Nearest}
use Rattle.rart_nodes.specs.declared.node.path_walk.nearest.Place.{Place}
use Rattle.rart_nodes.specs.declared.node.path_walk.nearest.Place.TheVariants.{Own, Below}
use Rattle.rart_nodes.specs.ranges.Steps.{StepsFrom, StepsUntil, children_after}
use Rattle.rart_nodes.specs.ranges.UpperBounds.{pairs_until}
use Rattle.rart_nodes.specs.tries.KeysAfter.{after_bytes}
use Rattle.rart_trie.specs.declared.node.ends.End.{End}
use Rattle.rart_trie.specs.declared.node.ends.End.TheVariants.{First, Last}
use Rattle.rart_trie.specs.ranges.Under.{children_before}
use Rattle.rart_trie.specs.tries.Ends.{end_of}
use Rattle.rart_trie.specs.tries.Trie.{Trie, Children, pairs_of, prefix_of}

-- the pairs from s on, of which the first is sought, or those until s, of which the last is; the one at s if h
abbrev pub pairs_toward : {V : Type 0} → End → Bool → List ℕ → List (List ℕ × V) → List (List ℕ × V)
pairs_toward First h s es = pairs_from h s es
pairs_toward Last h s es = pairs_until h s es

-- the one nearest to s
abbrev pub nearest : {V : Type 0} → End → Bool → List ℕ → List (List ℕ × V) → Option (List ℕ × V)
nearest e h s es = end_of e (pairs_toward e h s es)

-- how the other keys compare with s
abbrev pub is_passed : End → Ordering
is_passed First = Less
is_passed Last = Greater

-- the children on the same side of a byte
abbrev pub children_toward : {V : Type 0} → End → Option ℕ → Children V → Children V
children_toward First b cs = children_after b cs
children_toward Last b cs = children_before b cs

-- how a descent to s passes a node
abbrev pub StepsToward : {V : Type 0} → End → Bool → List ℕ → Trie V → Option V → Option ℕ → Option (Trie V) → List ℕ
    → Type 0
StepsToward First h s t v b n r = StepsFrom h s t v b n r
StepsToward Last h s t v b n r = StepsUntil h s t v b n r

module _ {P V C : Type 0} {G : Ghosts P} where
  -- the pair at a place, after the bytes of the node
  abbrev pub place_pair : End → Option (Place P V C G) → Option (List ℕ × V)
  place_pair e None = None
  place_pair e (Some (Own v)) = Some ([], v.now)
  place_pair e (Some (Below s)) = end_of e (pairs_of s.node.now)

  -- a child's prefix has bytes
  abbrev pub HasBytes : Place P V C G → Type 0
  HasBytes (Own v) = Unit {0}
  HasBytes (Below s) = 0 < length (prefix_of s.node.now)

  -- the pair with its whole key
  abbrev pub nearest_pair : End → List ℕ → Option (Nearest P V C G) → Option (List ℕ × V)
  nearest_pair e s None = None
  nearest_pair e s (Some n) = after_bytes (take n.depth s ++ G.bytes n.prefix.now) (place_pair e (Some n.place))
