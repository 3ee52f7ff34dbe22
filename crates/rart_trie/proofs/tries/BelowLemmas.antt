-- The pairs below a prefix, those whose key it begins, and the test of a prefix as code makes it.
use Rattle.std.proofs.Common.{◌≡◌, ℕ, true, false, ◌&&◌, nat_eq, List, [], ◌∷◌, ◌++◌, refl, sym, ap, ◌∙◌, Option, Some}
use Rattle.std.proofs.Common.{None, is_some, if◌then◌else◌}
use Rattle.std.specs.List.{starts_with}
use Rattle.rart_keys.specs.ByteStrings.{strip_prefix, begins}
use Rattle.rart_keys.specs.Filters.{below}
use Rattle.rart_keys.proofs.strings.ByteOrder.{eq-no}
use Rattle.rart_trie.specs.tries.Tree.{tree_pairs}
use Rattle.rart_trie.specs.tries.Trie.{node, Children, pairs_of, children_pairs, own_pair}
use Rattle.rart_trie.specs.tries.Trie.{child_of, with_prefix, AreCanonical}
use Rattle.rart_trie.proofs.tries.PrefixedStrings.{begins-apart, begins-after}
use Rattle.rart_trie.proofs.tries.Descents.{children-filter}

-- whether a slice begins with another, as code tests it
pub starts_with-begins : (p q : List ℕ) → starts_with nat_eq q p ≡ begins p q
starts_with-begins [] q = refl
starts_with-begins (x ∷ p) [] = refl
starts_with-begins (x ∷ p) (y ∷ q) = elim (nat_eq x y) as (λ b. (b && starts_with nat_eq q p)
    ≡ is_some (if b then strip_prefix p q else None)) [ true ↦ starts_with-begins p q | false ↦ refl ]

module _ {V : Type 0} where
  pub below-after_some : (q p r : List ℕ) (es : List (List ℕ × V)) → strip_prefix q p ≡ Some r
      → below p (with_prefix q es) ≡ with_prefix q (below r es)
  below-after_some q p r [] s = refl
  below-after_some q p r (e ∷ es) s = rw (begins-after q p r e.0 s, below-after_some q p r es s)
      (elim (begins r e.0) as (λ z. (if z then (q ++ e.0, e.1) ∷ with_prefix q (below r es)
      else with_prefix q (below r es)) ≡ with_prefix q (if z then e ∷ below r es else below r es)) [
        | true ↦ refl
        | false ↦ refl
      ])

  pub below-apart : (q p : List ℕ) (es : List (List ℕ × V)) → strip_prefix q p ≡ None
      → below p (with_prefix q es) ≡ (if begins p q then with_prefix q es else [])
  below-apart q p [] s = elim (begins p q) as (λ z. ◌≡◌ {A = List (List ℕ × V)} [] (if z then [] else [])) [
    | true ↦ refl
    | false ↦ refl
  ]
  below-apart q p (e ∷ es) s = rw (begins-apart q p e.0 s, below-apart q p es s)
      (elim (begins p q) as (λ z. (if z then (q ++ e.0, e.1) ∷ (if z then with_prefix q es else [])
      else (if z then with_prefix q es else [])) ≡ (if z then with_prefix q (e ∷ es) else [])) [
        | true ↦ refl
        | false ↦ refl
      ])

  pub below-nil : (es : List (List ℕ × V)) → below [] es ≡ es
  below-nil [] = refl
  below-nil (e ∷ es) = ap (λ z. e ∷ z) (below-nil es)

  below-here : (b : ℕ) (r : List ℕ) (v : Option V) (es : List (List ℕ × V))
      → below (b ∷ r) (own_pair v ++ es) ≡ below (b ∷ r) es
  below-here b r None es = refl
  below-here b r (Some v) es = refl

  -- the pairs below a prefix that continues by b are those of the child at b
  pub below-child : (q p r : List ℕ) (b : ℕ) (v : Option V) (n : ℕ) (cs : Children V) → AreCanonical 0 cs
      → strip_prefix q p ≡ Some (b ∷ r)
      → below p (pairs_of (node q v n cs)) ≡ with_prefix q (below (b ∷ r) (tree_pairs (child_of b cs)))
  below-child q p r b v n cs w s = below-after_some q p (b ∷ r) (own_pair v ++ children_pairs cs) s
      ∙ ap (with_prefix q) (below-here b r v (children_pairs cs)
      ∙ children-filter (λ e. begins (b ∷ r) e.0) b cs w (λ x k v n. rw (eq-no b x (λ e. n (sym e))) refl))
