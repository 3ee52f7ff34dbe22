-- What taking the part below a prefix leaves and takes at one node, as the code does it.
use Rattle.std.proofs.Common.{◌≡◌, ◌≢◌, ℕ, suc, ◌+◌, ⊎_elim, true, false, List, [], ◌∷◌, ◌++◌, length, Option, Some}
use Rattle.std.proofs.Common.{◌-◌, ◌≤◌, length-append, None, refl, arith, sym, ap, ◌∙◌, option_map, if◌then◌else◌}
use Rattle.std.specs.Prelude.{slice_get}
use Rattle.std.proofs.lemmas.List.{append_assoc}
use Rattle.rart_keys.specs.ByteStrings.{begins, strip_prefix}
use Rattle.rart_keys.specs.KeyBytes.{IsWithin}
use Rattle.rart_keys.specs.SortedMap.{longest_key}
use Rattle.rart_keys.proofs.strings.ByteOrder.{is_equal, is_greater, is_less, eq-yes, eq-no, order}
use Rattle.rart_parts.specs.Entries.{child_at, replaced_at}
use Rattle.rart_parts.specs.Entries as entries
use Rattle.rart_trie.specs.edits.Deletion.{without_child}
use Rattle.rart_trie.specs.edits.PrefixRemovals.{children_without_prefix, finds_below, prefixed_trie, remaining_after}
use Rattle.rart_trie.specs.edits.PrefixRemovals.{trie_below, trie_without_prefix}
use Rattle.rart_trie.specs.tries.Trie.{Trie, node, Children, child, collapsed_node, child_if}
use Rattle.rart_trie.specs.tries.Trie.{StartsWith, pairs_of, prefix_of, IsCanonical, AreCanonical}
use Rattle.rart_trie.specs.tries.TrieCode.{as_children}
use Rattle.rart_trie.proofs.edits.JoinLemmas.{without-some}
use Rattle.rart_trie.proofs.removals.PopLemmas.{prefix-within}
use Rattle.rart_trie.proofs.removals.PrefixFilters.{ended-begins, longer-not_begins}
use Rattle.rart_trie.proofs.removals.RemoveSteps.{collapsed-less, collapsed-same, same-node}
use Rattle.rart_trie.proofs.storages.ChildLemmas.{replaced-length, found, at_first, after_first, tail-none}
use Rattle.rart_trie.proofs.storages.DeletionLemmas.{length-without_byte}
use Rattle.rart_trie.proofs.tries.Descents.{child-first, child_of-entries, descend-absent, descend-at}
use Rattle.rart_trie.proofs.tries.Descents.{descend-followed, descend-left}
use Rattle.rart_trie.proofs.tries.PrefixedStrings.{strip_prefix-is}

-- a prefix that doesn't begin that of a node continues after it
pub continues : (p q r : List ℕ) → Some r ≡ strip_prefix p q → begins q p ≡ false → None ≡ slice_get r 0 → ⊥
continues p q [] e s h = let z = ended-begins p q (sym e) in cc
continues p q (b ∷ r) e s h = cc

-- what begins with a byte isn't empty
rest-some : (b : ℕ) (r : List ℕ) → Some b ≡ slice_get r 0 → 1 ≤ length r
rest-some b [] h = absurd (cc)
rest-some b (x ∷ r) h = omega arith

first-some : (b : ℕ) (p : List ℕ) → StartsWith b p → 1 ≤ length p
first-some b [] h = absurd h
first-some b (x ∷ p) h = omega arith

module _ {V : Type 0} where
  without_prefix-followed : (p k r : List ℕ) (b : ℕ) (v : Option V) (w : ℕ) (cs : Children V)
      → Some r ≡ strip_prefix p k → Some b ≡ slice_get r 0
      → trie_without_prefix k (node p v w cs) ≡ collapsed_node p v (children_without_prefix b r cs)
  without_prefix-followed p k [] b v w cs e h = absurd (cc)
  without_prefix-followed p k (c ∷ r) b v w cs e h = let same : b ≡ c = cc in
      rw same (ap (λ o. remaining_after o (begins k p) (node p v w cs) (λ b r. children_without_prefix b r cs))
      (sym e))

  -- nothing is below
  without_child-none : (b : ℕ) (k : List ℕ) (es : List (ℕ × Trie V)) → None ≡ child_at b es
      → children_without_prefix b k (as_children es) ≡ as_children es
  without_child-none b k [] s = refl
  without_child-none b k (e ∷ es) s = let t = tail-none b e es s in ⊎_elim (λ h. rw (is_less b e.0 h) refl)
      (⊎_elim (λ h. absurd (t.0 h))
      (λ h. rw (is_greater b e.0 h) (ap (child e.0 e.1) (without_child-none b k es t.1)))) (order b e.0)

  pub without_prefix-absent : (p k rest : List ℕ) (v : Option V) (w w' b : ℕ) (es es' : List (ℕ × Trie V))
      → IsCanonical (node p v w (as_children es)) → Some rest ≡ strip_prefix p k → Some b ≡ slice_get rest 0
      → None ≡ child_at b es → w' ≡ w → es' ≡ es
      → Some (node p v w' (as_children es')) ≡ trie_without_prefix k (node p v w (as_children es))
  without_prefix-absent p k rest v w w' b es es' c e h at ew ee = ap Some (same-node p v w w' es es' ew ee refl refl)
      ∙ collapsed-same p v w es es c refl ∙ ap (collapsed_node p v) (sym (without_child-none b rest es at))
      ∙ sym (without_prefix-followed p k rest b v w (as_children es) e h)

  pub below-absent : (p k rest : List ℕ) (v : Option V) (w b : ℕ) (es : List (ℕ × Trie V))
      → Some rest ≡ strip_prefix p k → Some b ≡ slice_get rest 0 → None ≡ child_at b es
      → None ≡ trie_below k (node p v w (as_children es))
  below-absent p k rest v w b es e h at = sym (descend-followed finds_below p k rest b v w (as_children es) e h
      ∙ ap (option_map (prefixed_trie p)) (descend-absent finds_below b rest es at))

  -- below a child that stays
  without_child-kept : (b low : ℕ) (k : List ℕ) (t t' : Trie V) (es : List (ℕ × Trie V))
      → AreCanonical low (as_children es) → Some t ≡ child_at b es → Some t' ≡ trie_without_prefix k t
      → children_without_prefix b k (as_children es) ≡ as_children (replaced_at b t' es)
  without_child-kept b low k t t' [] w s r = absurd (cc)
  without_child-kept b low k t t' (e ∷ es) w s r = elim (found b low t e es w s) [
    | at_first h q ↦ rw (is_equal b e.0 h, eq-yes e.0 b (sym h), h)
        (ap (λ o. child_if e.0 o (as_children es)) (ap (trie_without_prefix k) (sym q) ∙ sym r))
    | after_first h q ↦ rw (is_greater b e.0 h, eq-no e.0 b (λ z. omega arith))
        (ap (child e.0 e.1) (without_child-kept b (suc e.0) k t t' es w.3 q r))
  ]

  pub without_prefix-below : (p k rest : List ℕ) (v : Option V) (w w' b : ℕ) (t t' : Trie V)
      (es es' : List (ℕ × Trie V)) → IsCanonical (node p v w (as_children es)) → Some rest ≡ strip_prefix p k
      → Some b ≡ slice_get rest 0 → Some t ≡ child_at b es → Some t' ≡ trie_without_prefix rest t → w' ≡ w
      → es' ≡ replaced_at b t' es
      → Some (node p v w' (as_children es')) ≡ trie_without_prefix k (node p v w (as_children es))
  without_prefix-below p k rest v w w' b t t' es es' c e h at r ew ee =
      ap (λ z. Some (node p v z (as_children es'))) ew
      ∙ collapsed-same p v w es es' c (ap length ee ∙ replaced-length b t' es)
      ∙ ap (collapsed_node p v) (ap as_children ee ∙ sym (without_child-kept b 0 rest t t' es c.2 at r))
      ∙ sym (without_prefix-followed p k rest b v w (as_children es) e h)

  -- the part below a node, by that below its child
  prefixed-twice : (q p : List ℕ) (o : Option (Trie V))
      → option_map (prefixed_trie (q ++ p)) o ≡ option_map (prefixed_trie q) (option_map (prefixed_trie p) o)
  prefixed-twice q p None = refl
  prefixed-twice q p (Some (node r v n cs)) = ap (λ z. Some (node z v n cs)) (append_assoc q p r)

  pub below-child_part : (q q' p k rest : List ℕ) (v : Option V) (w b : ℕ) (t : Trie V) (es : List (ℕ × Trie V))
      → IsCanonical (node p v w (as_children es)) → Some rest ≡ strip_prefix p k → Some b ≡ slice_get rest 0
      → Some t ≡ child_at b es → q' ≡ q ++ p
      → option_map (prefixed_trie q') (trie_below rest t)
      ≡ option_map (prefixed_trie q) (trie_below k (node p v w (as_children es)))
  below-child_part q q' p k rest v w b t es c e h at s =
      ap (λ z. option_map (prefixed_trie z) (trie_below rest t)) s
      ∙ prefixed-twice q p (trie_below rest t)
      ∙ ap (option_map (prefixed_trie q)) (sym (descend-followed finds_below p k rest b v w (as_children es) e h
      ∙ ap (option_map (prefixed_trie p)) (descend-at finds_below b 0 rest (Some t) es c.2 at)))

  -- a child that is taken whole
  pub without_prefix-whole : (k : List ℕ) (t : Trie V) → begins k (prefix_of t) ≡ true
      → None ≡ trie_without_prefix k t
  without_prefix-whole k (node p v w cs) h = elim (strip_prefix p k) as (λ o. strip_prefix p k ≡ o
      → None ≡ remaining_after o (begins k p) (node p v w cs) (λ b r. children_without_prefix b r cs)) [
        | None ↦ λ s. rw h refl
        | Some r ↦ elim r as (λ r. strip_prefix p k ≡ Some r → None ≡ remaining_after (Some r) (begins k p)
            (node p v w cs) (λ b r. children_without_prefix b r cs)) [
              | [] ↦ λ s. refl
              | b ∷ r ↦ λ s. let z = longer-not_begins p k r b s in absurd (cc (z, h))
            ]
      ] refl

  pub below-whole : (k : List ℕ) (t : Trie V) → begins k (prefix_of t) ≡ true → trie_below k t ≡ Some t
  below-whole k (node p v w cs) h = elim (strip_prefix p k) as (λ o. strip_prefix p k ≡ o
      → trie_below k (node p v w cs) ≡ Some (node p v w cs)) [
        | None ↦ λ s. descend-left finds_below (node p v w cs) k (sym s)
            ∙ ap (λ z. if z then Some (node p v w cs) else None) h
        | Some r ↦ elim r as (λ r. strip_prefix p k ≡ Some r → trie_below k (node p v w cs) ≡ Some (node p v w cs)) [
          | [] ↦ λ s. rw s refl
          | b ∷ r ↦ λ s. let z = longer-not_begins p k r b s in absurd (cc (z, h))
        ]
      ] refl

  without_child-removed : (b low : ℕ) (k : List ℕ) (t : Trie V) (es : List (ℕ × Trie V))
      → AreCanonical low (as_children es) → Some t ≡ child_at b es → None ≡ trie_without_prefix k t
      → children_without_prefix b k (as_children es) ≡ as_children (entries.without_byte b es)
  without_child-removed b low k t [] w s r = absurd (cc)
  without_child-removed b low k t (e ∷ es) w s r = elim (found b low t e es w s) [
    | at_first h q ↦ rw (is_equal b e.0 h, eq-yes e.0 b (sym h))
        (ap (λ o. child_if e.0 o (as_children es)) (ap (trie_without_prefix k) (sym q) ∙ sym r))
    | after_first h q ↦ rw (is_greater b e.0 h, eq-no e.0 b (λ z. omega arith))
        (ap (child e.0 e.1) (without_child-removed b (suc e.0) k t es w.3 q r))
  ]

  pub without_prefix-taken : (p k rest : List ℕ) (v : Option V) (w b : ℕ) (t : Trie V) (es : List (ℕ × Trie V))
      → IsCanonical (node p v w (as_children es)) → Some rest ≡ strip_prefix p k → Some b ≡ slice_get rest 0
      → Some t ≡ child_at b es → begins rest (prefix_of t) ≡ true
      → Some (without_child b (node p v w (as_children es))) ≡ trie_without_prefix k (node p v w (as_children es))
  without_prefix-taken p k rest v w b t es c e h at z =
      let there : child_at b es ≢ None = λ z. let h : Some t ≡ None = at ∙ z in absurd (cc) in
      ap Some (without-some p v w b es there)
      ∙ collapsed-less p v w es (entries.without_byte b es) c (length-without_byte b es there)
      ∙ ap (collapsed_node p v) (sym (without_child-removed b 0 rest t es c.2 at (without_prefix-whole rest t z)))
      ∙ sym (without_prefix-followed p k rest b v w (as_children es) e h)

  pub below-taken : (q q' p k rest : List ℕ) (v : Option V) (w b : ℕ) (t : Trie V) (es : List (ℕ × Trie V))
      → IsCanonical (node p v w (as_children es)) → Some rest ≡ strip_prefix p k → Some b ≡ slice_get rest 0
      → Some t ≡ child_at b es → begins rest (prefix_of t) ≡ true → q' ≡ q ++ p
      → option_map (prefixed_trie q') (Some t)
      ≡ option_map (prefixed_trie q) (trie_below k (node p v w (as_children es)))
  below-taken q q' p k rest v w b t es c e h at z s = ap (option_map (prefixed_trie q')) (sym (below-whole rest t z))
      ∙ below-child_part q q' p k rest v w b t es c e h at s

  -- the prefix of a child that is taken, after the path to it
  pub prefix-fits : (m : Option ℕ) (n : ℕ) (t : Trie V) → IsCanonical t → IsWithin m (n + longest_key (pairs_of t))
      → IsWithin m (n + length (prefix_of t))
  prefix-fits m n (node p v w cs) c h = prefix-within m n p v w cs c h

  -- a child that is passed takes a byte of the prefix
  pub visits-below : (p k rest : List ℕ) (b : ℕ) (t : Trie V) (es : List (ℕ × Trie V))
      → AreCanonical 0 (as_children es) → Some rest ≡ strip_prefix p k → Some b ≡ slice_get rest 0
      → Some t ≡ child_at b es
      → length rest - length (prefix_of t) + 1 ≤ length k - length p
  visits-below p k rest b t es w e h at = omega (
    arith,
    ap length (strip_prefix-is p k rest (sym e)),
    length-append p rest,
    rest-some b rest h,
    first-some b (prefix_of t) (child-first b 0 t (as_children es) w (child_of-entries b es ∙ sym at)),
  )
