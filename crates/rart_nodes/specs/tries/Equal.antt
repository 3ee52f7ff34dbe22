-- Equality of maps and of tries, as tests.
use Rattle.std.specs.Prelude.{ℕ, ◌==◌, ◌&&◌, Bool, true, false, List, Option, Some, None, nat_eq}
use Rattle.std.specs.Cmp.Lexicographic.{pointwise}
use Rattle.rart_trie.specs.tries.Trie.{Trie, node, Children, no_children, child}

-- equal keys and equal values, in order
abbrev pub same_pairs : {V : Type 0} → (V → V → Bool) → List (List ℕ × V) → List (List ℕ × V) → Bool
same_pairs eq xs ys = pointwise (λ x y. pointwise nat_eq x.0 y.0 && eq x.1 y.1) xs ys

-- no value twice, or two equal ones
abbrev pub same_value : {V : Type 0} → (V → V → Bool) → Option V → Option V → Bool
same_value eq None None = true
same_value eq None (Some y) = false
same_value eq (Some x) None = false
same_value eq (Some x) (Some y) = eq x y

-- node by node
abbrev mutual
  pub same_tries : {V : Type 0} → (V → V → Bool) → Trie V → Trie V → Bool
  same_tries eq (node p v n cs) (node q u m ds) = pointwise nat_eq p q && (same_value eq v u && same_children eq cs ds)

  pub same_children : {V : Type 0} → (V → V → Bool) → Children V → Children V → Bool
  same_children eq no_children no_children = true
  same_children eq no_children (child c u ds) = false
  same_children eq (child b t cs) no_children = false
  same_children eq (child b t cs) (child c u ds) = b == c && (same_tries eq t u && same_children eq cs ds)
