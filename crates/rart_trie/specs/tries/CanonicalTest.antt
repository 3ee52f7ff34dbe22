-- Canonical form as a test: a fact of which a type keeps one proof.
use Rattle.std.specs.Prelude.{ℕ, ◌==◌, ◌&&◌, ◌||◌, nat_le, suc, Bool, true, false, List, [], ◌∷◌, length, Option, Some}
use Rattle.std.specs.Prelude.{None, is_some}
use Rattle.rart_trie.specs.shapes.Shape.{capacity_of}
use Rattle.rart_trie.specs.tries.Trie.{Trie, node, Children, no_children, child, edges_of, prefix_of}

abbrev pub has_two_children : {V : Type 0} → Children V → Bool
has_two_children no_children = false
has_two_children (child b t no_children) = false
has_two_children (child b t (child c u cs)) = true

abbrev pub starts_with_byte : ℕ → List ℕ → Bool
starts_with_byte b [] = false
starts_with_byte b (x ∷ xs) = x == b

-- `IsCanonical` as a test
abbrev mutual
  pub is_canonical : {V : Type 0} → Trie V → Bool
  is_canonical (node p v c cs) = (is_some v || has_two_children cs) &&
      ((c == capacity_of (length (edges_of cs))) && are_canonical 0 cs)

  pub are_canonical : {V : Type 0} → ℕ → Children V → Bool
  are_canonical low no_children = true
  are_canonical low (child b t cs) = (nat_le low b && starts_with_byte b (prefix_of t)) &&
      (is_canonical t && are_canonical (suc b) cs)

abbrev pub is_canonical_tree : {V : Type 0} → Option (Trie V) → Bool
is_canonical_tree None = true
is_canonical_tree (Some t) = is_canonical t
