-- What a loan of a value leaves: the same keys, so the same nodes.
use Rattle.std.proofs.Common.{◌≡◌, ℕ, ap, ◌∙◌, sym, refl, length, max, ⊎_elim, List, [], ◌∷◌, Option, Some, None}
use Rattle.std.proofs.Common.{MutBor}
use Rattle.std.proofs.lemmas.List.{length-map}
use Rattle.std.specs.Prelude.{IfNone, OnSome}
use Rattle.std.specs.Option.{option_copied_mut}
use Rattle.rart_keys.specs.SortedMap.{IsAscending, keys_of, lookup, put, longest_key}
use Rattle.rart_keys.proofs.strings.ByteOrder.{below-not_eq, below-greater, cmp-itself, compare}
use Rattle.rart_keys.proofs.maps.SortedMaps.{above-trans, lookup-above}
use Rattle.rart_trie.specs.edits.Loan.{IsAlike}
use Rattle.rart_trie.specs.tries.Trie.{Trie, IsCanonical, trie_lookup, nodes_of, pairs_of, trie_put}
use Rattle.rart_trie.proofs.tries.PairLemmas.{lookup-pairs_of, pairs_of-ascend}
use Rattle.rart_trie.proofs.edits.PutLemmas.{canonical-put, pairs_of-put}
use Rattle.rart_trie.proofs.shapes.ShapeLemmas.{equal_nodes}

abbrev longest : List (List ℕ) → ℕ
longest [] = 0
longest (k ∷ ks) = max (length k) (longest ks)

module _ {V : Type 0} where
  -- the keys stay where the key was there
  pub keys-put : (k : List ℕ) (v w : V) (es : List (List ℕ × V)) → IsAscending es → lookup k es ≡ Some v
      → keys_of (put k w es) ≡ keys_of es
  keys-put k v w [] h s = absurd (cc)
  keys-put k v w (e ∷ es) h s = ⊎_elim
      (λ b. let none = lookup-above k (e ∷ es) (b, above-trans k e.0 es b h.0) in absurd (cc))
      (⊎_elim (λ q. let same : put k w (e ∷ es) ≡ (k, w) ∷ es = rw (← q, cmp-itself k) refl in ap keys_of same
      ∙ ap (λ z. z ∷ keys_of es) q)
      (λ b. let below : lookup k (e ∷ es) ≡ lookup k es = rw (below-not_eq e.0 k b) refl in
      let more : put k w (e ∷ es) ≡ e ∷ put k w es = rw (below-greater e.0 k b) refl in
      ap keys_of more ∙ ap (λ z. e.0 ∷ z) (keys-put k v w es h.1 (sym below ∙ s)))) (compare k e.0)

  longest-is : (es : List (List ℕ × V)) → longest_key es ≡ longest (keys_of es)
  longest-is [] = refl
  longest-is (e ∷ es) = ap (max (length e.0)) (longest-is es)

  pub lengths-alike : (xs ys : List (List ℕ × V)) → keys_of xs ≡ keys_of ys → length xs ≡ length ys
  lengths-alike xs ys e = sym (length-map xs (λ z. z.0)) ∙ ap length e ∙ length-map ys (λ z. z.0)

  pub longest-alike : (xs ys : List (List ℕ × V)) → keys_of xs ≡ keys_of ys → longest_key xs ≡ longest_key ys
  longest-alike xs ys e = longest-is xs ∙ ap longest e ∙ sym (longest-is ys)

  keys-lent : (k : List ℕ) (v w : V) (t : Trie V) → IsCanonical t → trie_lookup k t ≡ Some v
      → keys_of (pairs_of (trie_put k w t)) ≡ keys_of (pairs_of t)
  keys-lent k v w t c s = ap keys_of (pairs_of-put k w t c)
      ∙ keys-put k v w (pairs_of t) (pairs_of-ascend t c) (lookup-pairs_of k t c ∙ s)

  -- what a loan that was answered by r leaves, given what it leaves of the trie
  pub lent : (k : List ℕ) (w : V) (t n : Trie V) (r : Option (MutBor V)) → IsCanonical t
      → option_copied_mut r ≡ trie_lookup k t → OnSome r (n ≡ trie_put k w t) × IfNone r (n ≡ t)
      → IsAlike (Some t) (Some n) × OnSome r ((pairs_of n ≡ put k w (pairs_of t)) × (nodes_of n ≡ nodes_of t))
  lent k w t n None c e h = (rw h.1 (c, refl, refl), tt)
  lent k w t n (Some x) c e h =
      let keys = keys-lent k x.now w t c (sym e) in
      let z = canonical-put k w t c in
      rw h.0 (
        (
          z,
          lengths-alike (pairs_of (trie_put k w t)) (pairs_of t) keys,
          longest-alike (pairs_of (trie_put k w t))
              (pairs_of t) keys,
        ),
        (pairs_of-put k w t c, equal_nodes (trie_put k w t) t z c keys),
      )
