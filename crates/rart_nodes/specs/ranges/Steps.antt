-- How a descent to a bound passes a node.
use Rattle.std.specs.Prelude.{ℕ, ◌≡◌, Bool, List, Option, Some, None, slice_get}
use Rattle.std.specs.declared.cmp.Ordering.{Ordering}
use Rattle.std.specs.declared.cmp.Ordering.TheVariants.{Less, Greater}
use Rattle.std.specs.Ordering.{nat_cmp}
use Rattle.std.specs.Cmp.Lexicographic.{slice_cmp}
use Rattle.rart_keys.specs.ByteStrings.{strip_prefix}
use Rattle.rart_trie.specs.ranges.Starts.{children_above}
use Rattle.rart_nodes.specs.ranges.UpperBounds.{if_included}
use Rattle.rart_trie.specs.tries.Trie.{Trie, Children, child_in, prefix_of, value_of}

-- each string that begins with q compares with s as o
abbrev pub AllCompare : Ordering → List ℕ → List ℕ → Type 0
AllCompare o q s = (strip_prefix q s ≡ None) × (slice_cmp nat_cmp q s ≡ o)

-- the children after a byte, if there is one
abbrev pub children_after : {V : Type 0} → Option ℕ → Children V → Children V
children_after None cs = cs
children_after (Some b) cs = children_above b cs

-- A walk bounded by s yields the keys that compare with s as o. At the node t it yields the value v and the children
-- beyond the byte e, and the descent continues at n, where r remains of s. Either it yields all of t; or s is t's own
-- key, included if h, and the children are those beyond `own`; or s continues as r in the child at b, and the value is
-- `passed`.
pub data Steps {V : Type 0} (o : Ordering) (own : Option ℕ) (passed : Option V) (h : Bool) (s : List ℕ) (t : Trie V)
    (v : Option V) (e : Option ℕ) (n : Option (Trie V)) (r : List ℕ) : Type 0 where
  whole : AllCompare o (prefix_of t) s → v ≡ value_of t → e ≡ None → n ≡ None → Steps o own passed h s t v e n r
  own_key : strip_prefix (prefix_of t) s ≡ Some r → slice_get r 0 ≡ None → v ≡ if_included h (value_of t) → e ≡ own
      → n ≡ None → Steps o own passed h s t v e n r
  in_child : (b : ℕ) → strip_prefix (prefix_of t) s ≡ Some r → slice_get r 0 ≡ Some b → v ≡ passed → e ≡ Some b
      → n ≡ child_in b t → Steps o own passed h s t v e n r

-- A walk from s yields the value first, then what is from r on at n, and then the children after e.
abbrev pub StepsFrom : {V : Type 0} → Bool → List ℕ → Trie V → Option V → Option ℕ → Option (Trie V) → List ℕ → Type 0
StepsFrom h s t v e n r = Steps Greater None None h s t v e n r

-- A walk back from s yields what is until r at n first, then the children before e, and then the value.
abbrev pub StepsUntil : {V : Type 0} → Bool → List ℕ → Trie V → Option V → Option ℕ → Option (Trie V) → List ℕ
    → Type 0
StepsUntil h s t v e n r = Steps Less (Some 0) (value_of t) h s t v e n r
