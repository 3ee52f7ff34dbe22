-- A trie without what is below a prefix, and the part below it: their pairs, and that both are canonical.
use Rattle.std.proofs.Common.{◌≡◌, ℕ, suc, ⊎_elim, Bool, true, false, List, [], ◌∷◌, ◌++◌, refl, sym, ap, ◌∙◌, arith}
use Rattle.std.proofs.Common.{Option, Some, None, option_map, if◌then◌else◌}
use Rattle.std.proofs.lemmas.List.{append-nil}
use Rattle.std.proofs.lemmas.List.Elements.{filter-append}
use Rattle.std.specs.Prelude.{not}
use Rattle.rart_keys.specs.ByteStrings.{begins, strip_prefix}
use Rattle.rart_keys.specs.Filters.{below, without_prefix}
use Rattle.rart_keys.proofs.strings.ByteOrder.{order, is_less, is_equal, is_greater}
use Rattle.rart_trie.specs.edits.PrefixRemovals.{children_without_prefix, finds_below, prefixed_trie, remaining_after}
use Rattle.rart_trie.specs.edits.PrefixRemovals.{tree_below, tree_without_prefix, trie_without_prefix}
use Rattle.rart_trie.specs.tries.PrefixLaws.{prefix-twice}
use Rattle.rart_trie.specs.tries.Tree.{IsCanonicalTree, tree_pairs}
use Rattle.rart_trie.specs.tries.Trie.{Trie, node, Children, no_children, child, pairs_of, children_pairs, own_pair}
use Rattle.rart_trie.specs.tries.Trie.{prefix_of, with_prefix, collapsed_node, child_if, StartsWith, IsCanonical}
use Rattle.rart_trie.specs.tries.Trie.{AreCanonical}
use Rattle.rart_trie.proofs.removals.PrefixFilters.{without-after, without-apart, without-first, without-from}
use Rattle.rart_trie.proofs.removals.PrefixFilters.{without-here, without-nil}
use Rattle.rart_trie.proofs.removals.RemoveLemmas.{IsFirstIn, canonical-child_if, canonical-collapsed, first-collapsed}
use Rattle.rart_trie.proofs.tries.Descents.{Keeps, descends}
use Rattle.rart_trie.proofs.tries.FirstBytes.{children_pairs-from, pairs_of-first}
use Rattle.rart_trie.proofs.tries.BelowLemmas.{below-after_some, below-apart, below-child, below-nil}

module _ {V : Type 0} where
  -- the pairs that are left
  pub pairs-collapsed : (p : List ℕ) (v : Option V) (cs : Children V)
      → tree_pairs (collapsed_node p v cs) ≡ with_prefix p (own_pair v ++ children_pairs cs)
  pairs-collapsed p None no_children = refl
  pairs-collapsed p None (child b (node q v n cs) no_children)
      = sym (prefix-twice p q (own_pair v ++ children_pairs cs))
      ∙ ap (with_prefix p) (sym (append-nil (with_prefix q (own_pair v ++ children_pairs cs))))
  pairs-collapsed p None (child b t (child c u cs)) = refl
  pairs-collapsed p (Some v) cs = refl

  pub pairs-child_if : (c : ℕ) (o : Option (Trie V)) (cs : Children V)
      → children_pairs (child_if c o cs) ≡ tree_pairs o ++ children_pairs cs
  pairs-child_if c None cs = refl
  pairs-child_if c (Some t) cs = refl

  mutual
    pairs-without : (q : List ℕ) (t : Trie V) → IsCanonical t
        → tree_pairs (trie_without_prefix q t) ≡ without_prefix q (pairs_of t)
    pairs-without q (node p v n cs) w = elim (strip_prefix p q) as (λ o. strip_prefix p q ≡ o
        → tree_pairs (remaining_after o (begins q p) (node p v n cs) (λ b r. children_without_prefix b r cs))
        ≡ without_prefix q (pairs_of (node p v n cs))) [
          | None ↦ λ s. elim (begins q p) as (λ z. tree_pairs (remaining_after None z (node p v n cs)
              (λ b r. children_without_prefix b r cs))
              ≡ (if z then [] else with_prefix p (own_pair v ++ children_pairs cs))) [ true ↦ refl | false ↦ refl ]
              ∙ sym (without-apart p q (own_pair v ++ children_pairs cs) s)
          | Some r ↦ elim r as (λ r. strip_prefix p q ≡ Some r
              → tree_pairs (remaining_after (Some r) (begins q p) (node p v n cs)
              (λ b r. children_without_prefix b r cs)) ≡ without_prefix q (pairs_of (node p v n cs))) [
                | [] ↦ λ s. sym (without-after p q [] (own_pair v ++ children_pairs cs) s
                    ∙ ap (with_prefix p) (without-nil (own_pair v ++ children_pairs cs)))
                | b ∷ r ↦ λ s. pairs-collapsed p v (children_without_prefix b (b ∷ r) cs)
                    ∙ ap (λ z. with_prefix p (own_pair v ++ z)) (children_pairs-without b r 0 cs w.2)
                    ∙ ap (with_prefix p) (sym (without-here b r v (children_pairs cs)))
                    ∙ sym (without-after p q (b ∷ r) (own_pair v ++ children_pairs cs) s)
              ]
        ] refl

    children_pairs-without : (b : ℕ) (r : List ℕ) (low : ℕ) (cs : Children V) → AreCanonical low cs
        → children_pairs (children_without_prefix b (b ∷ r) cs) ≡ without_prefix (b ∷ r) (children_pairs cs)
    children_pairs-without b r low no_children w = refl
    children_pairs-without b r low (child c t cs) w =
        let parts = filter-append (λ e. not (begins (b ∷ r) e.0)) (pairs_of t) (children_pairs cs) in
        let rest = children_pairs-from (suc c) cs w.3 in ⊎_elim
        (λ h. rw (
          is_less b c h,
          parts,
          without-first b c r (pairs_of t) (pairs_of-first c t w.1) (λ e. omega arith),
          without-from b (suc c) r (children_pairs cs) rest (omega arith),
        ) refl)
        (⊎_elim
        (λ h. rw (is_equal b c h, parts, without-from b (suc c) r (children_pairs cs) rest (omega arith))
        (pairs-child_if c (trie_without_prefix (b ∷ r) t) cs
        ∙ ap (λ z. z ++ children_pairs cs) (pairs-without (b ∷ r) t w.2)))
        (λ h. rw (is_greater b c h, parts, without-first b c r (pairs_of t) (pairs_of-first c t w.1) (λ e. omega arith))
        (ap (λ z. pairs_of t ++ z) (children_pairs-without b r (suc c) cs w.3)))) (order b c)

  -- the remaining node is canonical
  first-without : (c : ℕ) (q : List ℕ) (t : Trie V) → StartsWith c (prefix_of t)
      → IsFirstIn c (trie_without_prefix q t)
  first-without c q (node p v n cs) f = elim (strip_prefix p q)
      as (λ o. IsFirstIn c (remaining_after o (begins q p) (node p v n cs) (λ b r. children_without_prefix b r cs))) [
        | None ↦ elim (begins q p) as (λ z. IsFirstIn c (remaining_after None z (node p v n cs)
            (λ b r. children_without_prefix b r cs))) [ true ↦ tt | false ↦ f ]
        | Some r ↦ elim r as (λ r. IsFirstIn c (remaining_after (Some r) (begins q p) (node p v n cs)
            (λ b r. children_without_prefix b r cs)))
            [ [] ↦ tt | b ∷ r ↦ first-collapsed c p v (children_without_prefix b (b ∷ r) cs) f ]
      ]

  mutual
    canonical-without : (q : List ℕ) (t : Trie V) → IsCanonical t → IsCanonicalTree (trie_without_prefix q t)
    canonical-without q (node p v n cs) w = elim (strip_prefix p q)
        as (λ o. IsCanonicalTree (remaining_after o (begins q p) (node p v n cs)
        (λ b r. children_without_prefix b r cs))) [
          | None ↦ elim (begins q p) as (λ z. IsCanonicalTree (remaining_after None z (node p v n cs)
              (λ b r. children_without_prefix b r cs))) [ true ↦ tt | false ↦ w ]
          | Some r ↦ elim r as (λ r. IsCanonicalTree (remaining_after (Some r) (begins q p) (node p v n cs)
              (λ b r. children_without_prefix b r cs))) [
                | [] ↦ tt
                | b ∷ r ↦ canonical-collapsed p v (children_without_prefix b (b ∷ r) cs)
                    (canonical-without_child 0 b r cs w.2)
              ]
        ]

    canonical-without_child : (low b : ℕ) (r : List ℕ) (cs : Children V) → AreCanonical low cs
        → AreCanonical low (children_without_prefix b (b ∷ r) cs)
    canonical-without_child low b r no_children w = tt
    canonical-without_child low b r (child c t cs) w = ⊎_elim (λ h. rw (is_less b c h) w)
        (⊎_elim (λ h. rw (is_equal b c h) (canonical-child_if low c (trie_without_prefix (b ∷ r) t) cs w.0
        (first-without c (b ∷ r) t w.1) (canonical-without (b ∷ r) t w.2) w.3))
        (λ h. rw (is_greater b c h) (w.0, w.1, w.2, canonical-without_child (suc c) b r cs w.3))) (order b c)

  pub tree_canonical-without : (q : List ℕ) (o : Option (Trie V)) → IsCanonicalTree o
      → IsCanonicalTree (tree_without_prefix q o)
  tree_canonical-without q None w = tt
  tree_canonical-without q (Some t) w = canonical-without q t w

  pub tree_pairs-without : (q : List ℕ) (o : Option (Trie V)) → IsCanonicalTree o
      → tree_pairs (tree_without_prefix q o) ≡ without_prefix q (tree_pairs o)
  tree_pairs-without q None w = refl
  tree_pairs-without q (Some t) w = pairs-without q t w

  -- the part below
  canonical-prefixed : (p : List ℕ) (o : Option (Trie V)) → IsCanonicalTree o
      → IsCanonicalTree (option_map (prefixed_trie p) o)
  canonical-prefixed p None w = tt
  canonical-prefixed p (Some (node q v n cs)) w = w

  pairs-prefixed : (p : List ℕ) (o : Option (Trie V))
      → tree_pairs (option_map (prefixed_trie p) o) ≡ with_prefix p (tree_pairs o)
  pairs-prefixed p None = refl
  pairs-prefixed p (Some (node q v n cs)) = sym (prefix-twice p q (own_pair v ++ children_pairs cs))

  abbrev IsPart : List ℕ → Option (Trie V) → Option (Trie V) → Type 0
  IsPart q o a = IsCanonicalTree a × (tree_pairs a ≡ below q (tree_pairs o))

  part-left : (z : Bool) (k p : List ℕ) (v : Option V) (n : ℕ) (cs : Children V) → IsCanonical (node p v n cs)
      → below k (pairs_of (node p v n cs)) ≡ (if z then pairs_of (node p v n cs) else [])
      → IsPart k (Some (node p v n cs)) (if z then Some (node p v n cs) else None)
  part-left true k p v n cs w s = (w, sym s)
  part-left false k p v n cs w s = (tt, sym s)

  part-kept : Keeps finds_below IsPart
  part-kept = record {
    absent = λ k. (tt, refl);
    left = λ k p v n cs w s. part-left (begins k p) k p v n cs w (below-apart p k (own_pair v ++ children_pairs cs) s);
    ended = λ k p v n cs w s. (
      w,
      sym (below-after_some p k [] (own_pair v ++ children_pairs cs) s
          ∙ ap (with_prefix p) (below-nil (own_pair v ++ children_pairs cs))),
    );
    on = λ k p v n cs b r a w s h. (
      canonical-prefixed p a h.0,
      pairs-prefixed p a ∙ ap (with_prefix p) h.1 ∙ sym (below-child p k r b v n cs w.2 s),
    );
  }

  pub tree_part-below : (q : List ℕ) (o : Option (Trie V)) → IsCanonicalTree o → IsPart q o (tree_below q o)
  tree_part-below q o w = descends finds_below IsPart part-kept q o w
