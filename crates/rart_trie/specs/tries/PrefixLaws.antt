-- Laws of pairs after a prefix. They are here, not in proofs/, since ghost fields name terms that rest on them.
use Rattle.std.specs.Prelude.{ℕ, ◌≡◌, List, [], ◌∷◌, ◌++◌, length}
use Rattle.std.proofs.Common.{refl, ap}
use Rattle.std.proofs.lemmas.List.{append_assoc, length-map, map-append}
use Rattle.rart_keys.specs.SortedMap.{values_of}
use Rattle.rart_trie.specs.tries.Trie.{with_prefix}

module _ {X : Type 0} where
  pub prefix-none : (es : List (List ℕ × X)) → with_prefix [] es ≡ es
  prefix-none [] = refl
  prefix-none (e ∷ es) = ap (λ z. e ∷ z) (prefix-none es)

  pub prefix-twice : (q p : List ℕ) (es : List (List ℕ × X))
      → with_prefix q (with_prefix p es) ≡ with_prefix (q ++ p) es
  prefix-twice q p [] = refl
  prefix-twice q p (e ∷ es) = rw (append_assoc q p e.0, prefix-twice q p es) refl

  pub prefix-append : (p : List ℕ) (xs ys : List (List ℕ × X))
      → with_prefix p (xs ++ ys) ≡ with_prefix p xs ++ with_prefix p ys
  prefix-append p xs ys = map-append (λ e. (p ++ e.0, e.1)) xs ys

  pub length-with_prefix : (p : List ℕ) (es : List (List ℕ × X)) → length (with_prefix p es) ≡ length es
  length-with_prefix p es = length-map es (λ e. (p ++ e.0, e.1))

  pub values-append : (xs ys : List (List ℕ × X)) → values_of (xs ++ ys) ≡ values_of xs ++ values_of ys
  values-append xs ys = map-append (λ e. e.1) xs ys

  pub values-with_prefix : (p : List ℕ) (es : List (List ℕ × X)) → values_of (with_prefix p es) ≡ values_of es
  values-with_prefix p [] = refl
  values-with_prefix p (e ∷ es) = ap (λ z. e.1 ∷ z) (values-with_prefix p es)
