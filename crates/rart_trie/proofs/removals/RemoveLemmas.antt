-- What `trie_remove` does to look-ups, and that it keeps a tree canonical.
use Rattle.std.proofs.Common.{◌≡◌, ℕ, ◌≤◌, ◌==◌, inl, inr, ⊎_elim, suc, Bool, true, false, List, [], ◌∷◌, ◌++◌, refl}
use Rattle.std.proofs.Common.{sym, ap, ◌∙◌, arith, Option, Some, None, nat_cmp, if◌then◌else◌}
use Rattle.std.specs.Ordering.{match_ordering}
use Rattle.rart_keys.specs.ByteStrings.{bytes_eq, strip_prefix}
use Rattle.rart_keys.specs.SortedMap.{without, lookup}
use Rattle.rart_trie.specs.tries.Trie.{Trie, node, Children, no_children, child, answer_after, trie_lookup}
use Rattle.rart_trie.specs.tries.Trie.{child_lookup, pairs_of, prefix_of, StartsWith, IsCanonical, AreCanonical}
use Rattle.rart_trie.specs.tries.Trie.{collapsed_node, removed_after, child_if, trie_remove, remove_child}
use Rattle.rart_trie.specs.tries.Tree.{tree_pairs, tree_lookup, IsCanonicalTree}
use Rattle.rart_keys.proofs.strings.ByteOrder.{order, is_less, is_equal, is_greater, eq-no, bytes_eq-equal}
use Rattle.rart_keys.proofs.maps.SortedMaps.{equal_by_lookups, ascending-without, lookup-without}
use Rattle.rart_trie.proofs.tries.FirstBytes.{first-append}
use Rattle.rart_trie.proofs.tries.PairLemmas.{trie_lookup-nil, child_lookup-low, bytes_eq-with_prefix, bytes_eq_within}
use Rattle.rart_trie.proofs.tries.PairLemmas.{pairs_of-ascend, lookup-pairs_of, tree_pairs-ascend}
use Rattle.rart_trie.proofs.edits.PutLemmas.{trie_lookup-one}
use Rattle.rart_trie.proofs.tries.LongerPrefix.{trie_lookup-longer}
use Rattle.rart_trie.proofs.tries.PrefixedStrings.{strip_prefix-is}
use Rattle.rart_trie.proofs.tries.CanonicalTests.{canonical-lower}

none-or : {V : Type 0} (b : Bool) → ◌≡◌ {A = Option V} (if b then None else None) None
none-or true = refl
none-or false = refl

module _ {V : Type 0} where
  -- merging a node with its only child
  trie_lookup-merged : (p q : List ℕ) (b n : ℕ) (r : List ℕ) (u : Option V) (m : ℕ) (ds : Children V) → StartsWith b r
      → trie_lookup q (node (p ++ r) u m ds) ≡ trie_lookup q (node p None n (child b (node r u m ds) no_children))
  trie_lookup-merged [] [] b n r u m ds f = trie_lookup-nil b (node r u m ds) f
  trie_lookup-merged [] (c ∷ q) b n r u m ds f = sym (trie_lookup-one c b q (node r u m ds) f)
  trie_lookup-merged (x ∷ p) [] b n r u m ds f = refl
  trie_lookup-merged (x ∷ p) (y ∷ q) b n r u m ds f = trie_lookup-longer x y q (node (p ++ r) u m ds)
      ∙ ap (λ o. if x == y then o else None) (trie_lookup-merged p q b n r u m ds f)
      ∙ sym (trie_lookup-longer x y q (node p None n (child b (node r u m ds) no_children)))

  trie_lookup-collapsed : (p q : List ℕ) (v : Option V) (n low : ℕ) (cs : Children V) → AreCanonical low cs
      → tree_lookup q (collapsed_node p v cs) ≡ trie_lookup q (node p v n cs)
  trie_lookup-collapsed p q None n low no_children w
      = elim (strip_prefix p q) as (λ o. None ≡ answer_after o None (λ b r. child_lookup {V = V} b r no_children)) [
        | None ↦ refl
        | Some r ↦ elim r as (λ r. None
            ≡ answer_after (Some r) None (λ b r. child_lookup {V = V} b r no_children)) [ [] ↦ refl | c ∷ r ↦ refl ]
      ]
  trie_lookup-collapsed p q None n low (child b (node r u m ds) no_children) w = trie_lookup-merged p q b n r u m ds w.1
  trie_lookup-collapsed p q None n low (child b t (child c u cs)) w = refl
  trie_lookup-collapsed p q (Some v) n low cs w = refl

  pub canonical-collapsed : (p : List ℕ) (v : Option V) (cs : Children V) → AreCanonical 0 cs
      → IsCanonicalTree (collapsed_node p v cs)
  canonical-collapsed p None no_children w = tt
  canonical-collapsed p None (child b (node r u m ds) no_children) w = w.2
  canonical-collapsed p None (child b t (child c u cs)) w = (inr tt, refl, w)
  canonical-collapsed p (Some v) cs w = (inl refl, refl, w)

  abbrev pub IsFirstIn : ℕ → Option (Trie V) → Type 0
  IsFirstIn c None = Unit {0}
  IsFirstIn c (Some t) = StartsWith c (prefix_of t)

  pub first-collapsed : (c : ℕ) (p : List ℕ) (v : Option V) (cs : Children V) → StartsWith c p
      → IsFirstIn c (collapsed_node p v cs)
  first-collapsed c p None no_children f = tt
  first-collapsed c p None (child b (node r u m ds) no_children) f = first-append c p r f
  first-collapsed c p None (child b t (child d u cs)) f = f
  first-collapsed c p (Some v) cs f = f

  first-removed : (c : ℕ) (k : List ℕ) (t : Trie V) → StartsWith c (prefix_of t) → IsFirstIn c (trie_remove k t)
  first-removed c k (node p v n cs) f = elim (strip_prefix p k)
      as (λ o. IsFirstIn c (removed_after o p v cs (λ b r. remove_child b r cs))) [
        | None ↦ first-collapsed c p v cs f
        | Some r ↦ elim r as (λ r. IsFirstIn c (removed_after (Some r) p v cs (λ b r. remove_child b r cs)))
            [ [] ↦ first-collapsed c p None cs f | b ∷ r ↦ first-collapsed c p v (remove_child b (b ∷ r) cs) f ]
      ]

  pub canonical-child_if : (low c : ℕ) (o : Option (Trie V)) (cs : Children V) → low ≤ c → IsFirstIn c o
      → IsCanonicalTree o → AreCanonical (suc c) cs → AreCanonical low (child_if c o cs)
  canonical-child_if low c None cs l f z w = canonical-lower low (suc c) cs (omega arith) w
  canonical-child_if low c (Some t) cs l f z w = (l, f, z, w)

  mutual
    pub canonical-removed : (k : List ℕ) (t : Trie V) → IsCanonical t → IsCanonicalTree (trie_remove k t)
    canonical-removed k (node p v n cs) w = elim (strip_prefix p k)
        as (λ o. IsCanonicalTree (removed_after o p v cs (λ b r. remove_child b r cs))) [
          | None ↦ canonical-collapsed p v cs w.2
          | Some r ↦ elim r as (λ r. IsCanonicalTree (removed_after (Some r) p v cs (λ b r. remove_child b r cs))) [
            | [] ↦ canonical-collapsed p None cs w.2
            | b ∷ r ↦ canonical-collapsed p v (remove_child b (b ∷ r) cs) (canonical-removed_child 0 b r cs w.2)
          ]
        ]

    canonical-removed_child : (low b : ℕ) (r : List ℕ) (cs : Children V) → AreCanonical low cs
        → AreCanonical low (remove_child b (b ∷ r) cs)
    canonical-removed_child low b r no_children w = tt
    canonical-removed_child low b r (child c t cs) w = ⊎_elim (λ h. rw (is_less b c h) w)
        (⊎_elim (λ h. rw (is_equal b c h) (canonical-child_if low c (trie_remove (b ∷ r) t) cs w.0
        (first-removed c (b ∷ r) t w.1) (canonical-removed (b ∷ r) t w.2) w.3))
        (λ h. rw (is_greater b c h) (w.0, w.1, w.2, canonical-removed_child (suc c) b r cs w.3))) (order b c)

  trie_lookup-child_if : (c d : ℕ) (s : List ℕ) (o : Option (Trie V)) (cs : Children V) → AreCanonical (suc d) cs
      → child_lookup c (c ∷ s) (child_if d o cs)
      ≡ match_ordering (nat_cmp c d) None (tree_lookup (c ∷ s) o) (child_lookup c (c ∷ s) cs)
  trie_lookup-child_if c d s (Some t) cs w = refl
  trie_lookup-child_if c d s None cs w = ⊎_elim
      (λ h. rw (is_less c d h) (child_lookup-low c (suc d) (c ∷ s) cs (omega arith) w))
      (⊎_elim (λ h. rw (is_equal c d h) (child_lookup-low c (suc d) (c ∷ s) cs (omega arith) w))
      (λ h. rw (is_greater c d h) refl)) (order c d)

  mutual
    trie_lookup-removed : (k q : List ℕ) (t : Trie V) → IsCanonical t
        → tree_lookup q (trie_remove k t) ≡ (if bytes_eq k q then None else trie_lookup q t)
    trie_lookup-removed k q (node p v n cs) w
        = elim (strip_prefix p k) as (λ o. strip_prefix p k ≡ o
        → tree_lookup q (removed_after o p v cs (λ b r. remove_child b r cs))
        ≡ (if bytes_eq k q then None else trie_lookup q (node p v n cs))) [
          | None ↦ λ s. trie_lookup-collapsed p q v n 0 cs w.2
              ∙ elim (bytes_eq k q) as (λ b. bytes_eq k q ≡ b
              → trie_lookup q (node p v n cs) ≡ (if b then None else trie_lookup q (node p v n cs)))
              [ true ↦ λ m. rw (← bytes_eq-equal k q m, s) refl | false ↦ λ m. refl ] refl
          | Some r ↦ λ s. rw (← strip_prefix-is p k r s, bytes_eq-with_prefix p q r)
              (elim r as (λ r. tree_lookup q (removed_after (Some r) p v cs (λ b r. remove_child b r cs))
              ≡ (if bytes_eq_within r (strip_prefix p q) then None else trie_lookup q (node p v n cs))) [
                | [] ↦ trie_lookup-collapsed p q None n 0 cs w.2
                    ∙ elim (strip_prefix p q) as (λ o. answer_after o None (λ b r. child_lookup b r cs)
                    ≡ (if bytes_eq_within [] o then None else answer_after o v (λ b r. child_lookup b r cs))) [
                      | None ↦ refl
                      | Some s ↦ elim s as (λ s. answer_after (Some s) None (λ b r. child_lookup b r cs)
                          ≡ (if bytes_eq [] s then None else answer_after (Some s) v (λ b r. child_lookup b r cs))) [
                            | [] ↦ refl
                            | c ∷ s ↦ refl
                          ]
                    ]
                | b ∷ r ↦ trie_lookup-collapsed p q v n 0 (remove_child b (b ∷ r) cs)
                    (canonical-removed_child 0 b r cs w.2)
                    ∙ elim (strip_prefix p q) as (λ o. answer_after o v
                    (λ c s. child_lookup c s (remove_child b (b ∷ r) cs))
                    ≡ (if bytes_eq_within (b ∷ r) o then None else answer_after o v (λ b r. child_lookup b r cs))) [
                      | None ↦ refl
                      | Some s ↦ elim s as (λ s. answer_after (Some s) v
                          (λ c s. child_lookup c s (remove_child b (b ∷ r) cs))
                          ≡ (if bytes_eq (b ∷ r) s then None else answer_after (Some s) v
                          (λ b r. child_lookup b r cs)))
                          [ [] ↦ refl | c ∷ s ↦ trie_lookup-removed_child b c r s 0 cs w.2 ]
                    ]
              ])
        ] refl

    trie_lookup-removed_child : (b c : ℕ) (r s : List ℕ) (low : ℕ) (cs : Children V) → AreCanonical low cs
        → child_lookup c (c ∷ s) (remove_child b (b ∷ r) cs)
        ≡ (if bytes_eq (b ∷ r) (c ∷ s) then None else child_lookup c (c ∷ s) cs)
    trie_lookup-removed_child b c r s low no_children w = sym (none-or (bytes_eq (b ∷ r) (c ∷ s)))
    trie_lookup-removed_child b c r s low (child d t cs) w = ⊎_elim
        (λ h. rw (is_less b d h) (⊎_elim (λ g. rw (is_less c d g) (sym (none-or (bytes_eq (b ∷ r) (c ∷ s)))))
        (⊎_elim (λ g. rw (eq-no b c (λ e. omega arith)) refl) (λ g. rw (eq-no b c (λ e. omega arith)) refl))
        (order c d)))
        (⊎_elim
        (λ h. rw (is_equal b d h, trie_lookup-child_if c d s (trie_remove (b ∷ r) t) cs w.3) (⊎_elim
        (λ g. rw (is_less c d g) (sym (none-or (bytes_eq (b ∷ r) (c ∷ s)))))
        (⊎_elim (λ g. rw (is_equal c d g) (trie_lookup-removed (b ∷ r) (c ∷ s) t w.2))
        (λ g. rw (is_greater c d g, eq-no b c (λ e. omega arith)) refl)) (order c d)))
        (λ h. rw (is_greater b d h) (⊎_elim
        (λ g. rw (is_less c d g, none-or (bytes_eq (b ∷ r) (c ∷ s))) refl)
        (⊎_elim (λ g. rw (is_equal c d g, eq-no b c (λ e. omega arith)) refl)
        (λ g. rw (is_greater c d g) (trie_lookup-removed_child b c r s (suc d) cs w.3))) (order c d)))) (order b d)

  lookup-tree : (q : List ℕ) (o : Option (Trie V)) → IsCanonicalTree o → lookup q (tree_pairs o) ≡ tree_lookup q o
  lookup-tree q None w = refl
  lookup-tree q (Some t) w = lookup-pairs_of q t w

  pub pairs_of-removed : (k : List ℕ) (t : Trie V) → IsCanonical t
      → tree_pairs (trie_remove k t) ≡ without k (pairs_of t)
  pairs_of-removed k t w = let z = canonical-removed k t w in
      equal_by_lookups (tree_pairs (trie_remove k t)) (without k (pairs_of t)) (tree_pairs-ascend (trie_remove k t) z)
      (ascending-without k (pairs_of t) (pairs_of-ascend t w))
      (λ q. lookup-tree q (trie_remove k t) z ∙ trie_lookup-removed k q t w
      ∙ ap (λ o. if bytes_eq k q then None else o) (sym (lookup-pairs_of q t w))
      ∙ sym (lookup-without q k (pairs_of t)))
