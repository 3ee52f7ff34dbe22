-- A bound for the keys that begin with some bytes, by the bytes that follow: `Unbounded` if it holds all of these keys,
-- and `None` if it holds none of them.
use Rattle.std.specs.Prelude.{ℕ, zero, suc, Bool, true, false, List, [], ◌∷◌, Option, Some, None}
use Rattle.std.specs.Ordering.{nat_cmp, match_ordering}
use Rattle.std.specs.Cmp.Lexicographic.{slice_cmp}
use Rattle.std.specs.declared.cmp.Ordering.{Ordering}
use Rattle.std.specs.declared.cmp.Ordering.TheVariants.{Less, Greater}
use Rattle.std.specs.declared.ops.Bound.{Bound}
use Rattle.std.specs.declared.ops.Bound.TheVariants.{Included, Excluded, Unbounded}
use Rattle.rart_keys.specs.ByteStrings.{strip_prefix}
use Rattle.rart_keys.specs.Ranges.{is_from, is_to}
use Rattle.rart_trie.specs.declared.node.ends.End.{End}
use Rattle.rart_trie.specs.declared.node.ends.End.TheVariants.{First, Last}
use Rattle.rart_trie.specs.tries.Trie.{Trie}
use Rattle.rart_trie.specs.walks.ProbeCount.{entered_nodes}

-- whether a key is within a bound at an end
abbrev pub is_in : End → Bound (List ℕ) → List ℕ → Bool
is_in First a k = is_from a k
is_in Last b k = is_to b k

-- whether keys other than a bound's own, which compare so with its bytes, are within it
abbrev pub is_inside : End → Ordering → Bool
is_inside First o = match_ordering o false false true
is_inside Last o = match_ordering o true false false

-- the bound of keys that are all within, or all not
abbrev pub unbounded_if : Bool → Option (Bound (List ℕ))
unbounded_if true = Some Unbounded
unbounded_if false = None

-- a bound of these bytes, which is itself within if h
abbrev pub bound_with : Bool → List ℕ → Bound (List ℕ)
bound_with true s = Included s
bound_with false s = Excluded s

-- whether a bound isn't `Unbounded`
abbrev pub is_bounded : Bound (List ℕ) → Bool
is_bounded Unbounded = false
is_bounded (Included a) = true
is_bounded (Excluded a) = true

-- the bound of the bytes after a prefix; if the prefix doesn't begin the bytes, how the two compare decides
abbrev pub rest_past : End → Ordering → Bool → Option (List ℕ) → Option (Bound (List ℕ))
rest_past e o h None = unbounded_if (is_inside e o)
rest_past e o h (Some r) = Some (bound_with h r)

-- a bound for keys that begin with a prefix, by the bytes after it
abbrev pub bound_past : End → List ℕ → Bound (List ℕ) → Option (Bound (List ℕ))
bound_past e p Unbounded = Some Unbounded
bound_past e p (Included s) = rest_past e (slice_cmp nat_cmp p s) true (strip_prefix p s)
bound_past e p (Excluded s) = rest_past e (slice_cmp nat_cmp p s) false (strip_prefix p s)

-- how the strings that begin with a byte compare with s, or `Equal` where that is the first byte of s
abbrev pub first_cmp : ℕ → List ℕ → Ordering
first_cmp c [] = Greater
first_cmp c (b ∷ s) = nat_cmp c b

-- a bound for keys whose first byte compares so with its first byte
abbrev pub bound_by : End → Bound (List ℕ) → Ordering → Option (Bound (List ℕ))
bound_by e a o = match_ordering o (unbounded_if (is_inside e Less)) (Some a) (unbounded_if (is_inside e Greater))

-- a bound for keys that begin with a byte, which stays in front of them
abbrev pub bound_at : End → ℕ → Bound (List ℕ) → Option (Bound (List ℕ))
bound_at e c Unbounded = Some Unbounded
bound_at e c (Included s) = bound_by e (Included s) (first_cmp c s)
bound_at e c (Excluded s) = bound_by e (Excluded s) (first_cmp c s)

-- the byte below the first of some bytes, if there is one
abbrev pub byte_below : List ℕ → Option ℕ
byte_below [] = None
byte_below (zero ∷ s) = None
byte_below (suc b ∷ s) = Some b

-- the nodes that a descent to the bytes of a bound enters, 0 for none
abbrev pub path_count : {V : Type 0} → Bound (List ℕ) → Trie V → ℕ
path_count Unbounded t = 0
path_count (Included s) t = entered_nodes s t
path_count (Excluded s) t = entered_nodes s t
