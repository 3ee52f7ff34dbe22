-- What an insertion leaves at one node, as the code makes it, is what `trie_put` says.
use Rattle.std.proofs.Common.{◌≡◌, ℕ, suc, ◌<◌, ◌≤◌, List, [], ◌∷◌, length, take, drop, nat_eq, Option, Some, None}
use Rattle.std.proofs.Common.{refl, arith, sym, ap, ◌∙◌, inl, ⊎_elim}
use Rattle.std.proofs.lemmas.List.{append-nil}
use Rattle.std.specs.Prelude.{slice_get}
use Rattle.std.specs.List.{common_prefix_len}
use Rattle.std.proofs.lemmas.Bool.Decides.{nat_tests}
use Rattle.rart_keys.specs.ByteStrings.{strip_prefix}
use Rattle.rart_keys.specs.KeyBytes.{IsWithin}
use Rattle.rart_keys.proofs.strings.ByteOrder.{eq-yes, eq-no, equal_or_not}
use Rattle.rart_parts.specs.Entries.{child_at, with_entry, replaced_at}
use Rattle.rart_trie.specs.storages.Capacities.{widened_capacity}
use Rattle.rart_trie.specs.shapes.Shape.{capacity_of}
use Rattle.rart_trie.specs.tries.Trie.{Trie, node, Children, edges_of, IsCanonical, trie_lookup, trie_put, put_child}
use Rattle.rart_trie.specs.tries.Trie.{fitting_node, leaf, two_children, pairs_of, with_records}
use Rattle.rart_trie.specs.tries.TrieCode.{as_children}
use Rattle.rart_trie.proofs.storages.ChildLemmas.{edges_of-length, replaced-length, with_entry-length, put_child-found}
use Rattle.rart_trie.proofs.storages.ChildLemmas.{put_child-none, two_children-is, child_at-beside}
use Rattle.rart_trie.proofs.edits.Descent.{first, first-differ, put-lower, put-aligned}
use Rattle.rart_trie.proofs.tries.RestLemmas.{Follows, rest-length, trie_put-followed}
use Rattle.rart_trie.proofs.tries.Descents.{descend-absent, descend-at, descend-followed}
use Rattle.rart_trie.proofs.shapes.ShapeLemmas.{lookup-records, records}

-- one more child keeps the capacity that the number of children fixes
widened-capacity : (n : ℕ) → widened_capacity n (capacity_of n) ≡ capacity_of (suc n)
widened-capacity n = grind (arith, nat_tests)

module _ {V : Type 0} where
  -- a node cut where the key ends
  pub cut-lower : (p k : List ℕ) (v : V) (old : Option V) (w : ℕ) (cs : Children V) (n : ℕ) (head low : List ℕ)
      (o : Option V) (w' : ℕ) (es : List (ℕ × Trie V))
      → n ≡ common_prefix_len nat_eq p k → n < length p → length k ≡ n → head ≡ take n p → low ≡ drop n p → o ≡ Some v
      → w' ≡ 4 → es ≡ (first low, node low old w cs) ∷ []
      → node head o w' (as_children es) ≡ trie_put k v (node p old w cs)
  cut-lower p k v old w cs n head low o w' es e h end eh el eo ew ee
      = rw (ee, ew, eo, el, eh) (sym (put-lower p k v old w cs n e h end))

  -- a node cut where the key continues
  pub cut-aligned : (p k : List ℕ) (v : V) (old : Option V) (w : ℕ) (cs : Children V) (n : ℕ) (head low rest : List ℕ)
      (o : Option V) (w' : ℕ) (es : List (ℕ × Trie V))
      → n ≡ common_prefix_len nat_eq p k → n < length p → (length k ≡ n → ⊥) → head ≡ take n p → low ≡ drop n p
      → rest ≡ drop n k → o ≡ None → w' ≡ 4
      → es ≡ with_entry (first rest) (leaf rest v) ((first low, node low old w cs) ∷ [])
      → node head o w' (as_children es) ≡ trie_put k v (node p old w cs)
  cut-aligned p k v old w cs n head low rest o w' es e h more eh el er eo ew ee =
      let part : first low ≡ first rest → ⊥ = λ s. first-differ p k n e h more (ap first (sym el) ∙ s ∙ ap first er) in
      let two : w' ≡ capacity_of (length (edges_of (as_children es)))
      = ew ∙ sym (ap capacity_of (edges_of-length es ∙ ap length ee
      ∙ with_entry-length (first rest) (leaf rest v) ((first low, node low old w cs) ∷ [])
      (sym (child_at-beside (first low) (first rest) (node low old w cs) _ refl part)))) in
      let form : as_children es ≡ two_children (first low) (node low old w cs) (first rest) (leaf rest v)
      = ap as_children ee ∙ two_children-is (first low) (first rest) (node low old w cs) (leaf rest v) part in
      ap (λ c. node head o c (as_children es)) two
      ∙ ap (λ q. node q o (capacity_of (length (edges_of (as_children es)))) (as_children es)) eh
      ∙ ap (λ z. node (take n p) z (capacity_of (length (edges_of (as_children es)))) (as_children es)) eo
      ∙ ap (fitting_node (take n p) None) form
      ∙ rw (el, er) (sym (put-aligned p k v old w cs n e h more))

  same-capacity : (w : ℕ) (es fs : List (ℕ × Trie V)) → w ≡ capacity_of (length (edges_of (as_children es)))
      → length fs ≡ length es → w ≡ capacity_of (length (edges_of (as_children fs)))
  same-capacity w es fs e h = e ∙ ap capacity_of (edges_of-length es ∙ sym h ∙ sym (edges_of-length fs))

  -- a new leaf beside the children
  pub put-beside : (p k rest : List ℕ) (v : V) (old : Option V) (w w' b : ℕ) (es es' : List (ℕ × Trie V))
      → IsCanonical (node p old w (as_children es)) → Some rest ≡ strip_prefix p k → Some b ≡ slice_get rest 0
      → None ≡ child_at b es → w' ≡ widened_capacity (length es) w → es' ≡ with_entry b (leaf rest v) es
      → node p old w' (as_children es') ≡ trie_put k v (node p old w (as_children es))
  put-beside p k rest v old w w' b es es' c e h at ew ee =
      let many : length (edges_of (as_children es')) ≡ suc (length es) = edges_of-length es' ∙ ap length ee
      ∙ with_entry-length b (leaf rest v) es at in
      let capacity : w' ≡ capacity_of (length (edges_of (as_children es')))
      = ew ∙ ap (widened_capacity (length es)) (c.1 ∙ ap capacity_of (edges_of-length es)) ∙ widened-capacity
      (length es)
      ∙ sym (ap capacity_of many) in
      let below : as_children es' ≡ put_child b rest v (as_children es)
      = ap as_children ee ∙ sym (put_child-none b rest v es at) in
      ap (λ z. node p old z (as_children es')) capacity ∙ ap (fitting_node p old) below
      ∙ sym (trie_put-followed p k rest b v old w (as_children es) e h)

  pub record-no_child : (p k rest : List ℕ) (old : Option V) (w b : ℕ) (es : List (ℕ × Trie V))
      → Some rest ≡ strip_prefix p k → Some b ≡ slice_get rest 0 → None ≡ child_at b es
      → trie_lookup k (with_records (node p old w (as_children es))) ≡ None
  record-no_child p k rest old w b es e h at = lookup-records k (node p old w (as_children es))
      ∙ descend-followed records p k rest b old w (as_children es) e h
      ∙ descend-absent records b rest es at

  -- a child that is put back unchanged
  pub replaced-same : (b : ℕ) (t : Trie V) (es : List (ℕ × Trie V)) → Some t ≡ child_at b es → replaced_at b t es ≡ es
  replaced-same b t [] s = refl
  replaced-same b t (e ∷ es) s = ⊎_elim
      (λ q. let f : t ≡ e.1 = cc (rw (eq-yes e.0 b q) at s) in rw (eq-yes e.0 b q, sym q, f) refl)
      (λ n. rw (eq-no e.0 b n) (ap (λ l. e ∷ l) (replaced-same b t es (rw (eq-no e.0 b n) at s)))) (equal_or_not e.0 b)

  pub child-put_back : (p : List ℕ) {p' : List ℕ} (old : Option V) {old' : Option V} (w w' b : ℕ) (t t' : Trie V)
      (es es' : List (ℕ × Trie V)) → Some t ≡ child_at b es → t' ≡ t → w' ≡ w → es' ≡ replaced_at b t' es → old' ≡ old
      → p' ≡ p → node p' old' w' (as_children es') ≡ node p old w (as_children es)
  child-put_back p {p'} old {old'} w w' b t t' es es' at et ew ee eo ep
      = ap (λ q. node q old' w' (as_children es')) ep ∙ ap (λ o. node p o w' (as_children es')) eo
      ∙ ap (λ z. node p old z (as_children es')) ew
      ∙ ap (λ l. node p old w (as_children l)) (ee ∙ ap (λ z. replaced_at b z es) et ∙ replaced-same b t es at)

module _ {V : Type 0} {p k r : List ℕ} {v : Option V} {w b : ℕ} {t : Trie V} {es : List (ℕ × Trie V)}
    (f : Follows p k r v w b t es) where
  -- an insertion below a child
  pub put-below : (x : V) (w' : ℕ) (t' : Trie V) (es' : List (ℕ × Trie V)) → t' ≡ trie_put r x t → w' ≡ w
      → es' ≡ replaced_at b t' es → node p v w' (as_children es') ≡ trie_put k x (node p v w (as_children es))
  put-below x w' t' es' et ew ee =
      let capacity : w' ≡ capacity_of (length (edges_of (as_children es')))
      = ew ∙ same-capacity w es es' f.canonical.1 (ap length ee ∙ replaced-length b t' es) in
      let below : as_children es' ≡ put_child b r x (as_children es)
      = ap as_children (ee ∙ ap (λ z. replaced_at b z es) et) ∙ sym
      (put_child-found b 0 r x t es f.canonical.2 f.there) in
      ap (λ z. node p v z (as_children es')) capacity ∙ ap (fitting_node p v) below
      ∙ sym (trie_put-followed p k r b x v w (as_children es) f.left f.first)

  pub record-child : trie_lookup r (with_records t) ≡ None
      → trie_lookup k (with_records (node p v w (as_children es))) ≡ None
  record-child none = lookup-records k (node p v w (as_children es))
      ∙ descend-followed records p k r b v w (as_children es) f.left f.first
      ∙ descend-at records b 0 r (Some t) es f.canonical.2 f.there ∙ sym (lookup-records r t) ∙ none

pub fewer-within : (m : Option ℕ) (a b : ℕ) → b ≤ a → IsWithin m a → IsWithin m b
fewer-within None a b h w = tt
fewer-within (Some m) a b h w = omega arith

-- the rest of a key is within the maximum
pub rest-within : (m : Option ℕ) (p k rest : List ℕ) → Some rest ≡ strip_prefix p k → IsWithin m (length k)
    → IsWithin m (length rest)
rest-within m p k rest e h = fewer-within m (length k) (length rest) (rest-length p k rest e) h

module _ {V : Type 0} where
  -- a new leaf
  pub leaf-canonical : (t : Trie V) (k : List ℕ) (v : V) → t ≡ leaf k v → IsCanonical t
  leaf-canonical t k v e = rw e (inl refl, refl, tt)

  pub leaf-pairs : (t : Trie V) (k : List ℕ) (v : V) → t ≡ leaf k v → pairs_of t ≡ (k, v) ∷ []
  leaf-pairs t k v e = rw e (ap (λ p. (p, v) ∷ []) (append-nil k))
