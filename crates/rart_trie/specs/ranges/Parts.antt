-- Which keys a part of a tree has, and which children of a node come before it and after it.
use Rattle.std.specs.Prelude.{ℕ, ◌&&◌, Bool, true, false, is_some, nat_lt, not, List, [], ◌∷◌, Option, Some, None}
use Rattle.std.specs.Prelude.{if◌then◌else◌}
use Rattle.std.specs.List.{filter}
use Rattle.rart_keys.specs.ByteStrings.{begins}
use Rattle.rart_keys.specs.Ranges.{bound_bytes, is_from, is_to}
use Rattle.rart_trie.specs.declared.node.ends.End.TheVariants.{Last}
use Rattle.rart_trie.specs.declared.node.part.Part.{Part}
use Rattle.rart_trie.specs.declared.node.part.Part.TheVariants.{All, Nothing, Below, Between}
use Rattle.rart_trie.specs.ranges.BoundCuts.{bound_at, byte_below}
use Rattle.rart_trie.specs.ranges.LentBounds.{lent_bound}

-- whether a part has a key
abbrev pub is_in_part : Part → List ℕ → Bool
is_in_part All k = true
is_in_part Nothing k = false
is_in_part (Below p) k = begins p.now k
is_in_part (Between a b) k = is_from (lent_bound a) k && is_to (lent_bound b) k

-- the pairs of a part, in order
abbrev pub pairs_in : {V : Type 0} → Part → List (List ℕ × V) → List (List ℕ × V)
pairs_in s es = filter (λ e. is_in_part s e.0) es

-- a byte up to which no byte begins a key of the part, if there is one
abbrev pub part_low : Part → Option ℕ
part_low All = None
part_low Nothing = None
part_low (Below p) = byte_below p.now
part_low (Between a b) = byte_below (bound_bytes (lent_bound a))

-- whether a byte is above the first of some bytes
abbrev pub is_above_first : ℕ → List ℕ → Bool
is_above_first c [] = false
is_above_first c (b ∷ p) = nat_lt b c

-- whether, as far as its end says, no key of the part begins with a byte or with a greater one
abbrev pub is_past : Part → ℕ → Bool
is_past All c = false
is_past Nothing c = true
is_past (Below p) c = is_above_first c p.now
is_past (Between a b) c = not (is_some (bound_at Last c (lent_bound b)))

-- a byte, unless the part has no key from it on
abbrev pub byte_within : Part → Option ℕ → Option ℕ
byte_within s None = None
byte_within s (Some c) = if is_past s c then None else Some c
