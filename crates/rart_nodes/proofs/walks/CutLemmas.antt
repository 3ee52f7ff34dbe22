-- The prefixes of the nodes on the way to a key are its cut.
use Rattle.std.proofs.Common.{◌≡◌, ℕ, ◌≤◌, suc, true, false, List, [], ◌∷◌, ◌++◌, map, refl, sym, ap, ◌∙◌, arith}
use Rattle.std.proofs.Common.{Option, Some, None, is_some, if◌then◌else◌}
use Rattle.std.proofs.lemmas.List.{append-nil, append_assoc, map-append}
use Rattle.rart_keys.specs.SortedMap.{keys_of}
use Rattle.rart_keys.proofs.strings.ByteOrder.{is_equal, is_greater, eq-yes}
use Rattle.rart_trie.specs.shapes.Shape.{NodeRecord, record_at}
use Rattle.rart_trie.specs.tries.Tree.{tree_pairs, IsCanonicalTree}
use Rattle.rart_trie.specs.tries.Trie.{Trie, node, Children, no_children, child, trie_lookup, child_lookup, pairs_of}
use Rattle.rart_trie.specs.tries.Trie.{children_pairs, own_pair, with_prefix, with_records, children_with_records}
use Rattle.rart_trie.specs.tries.Trie.{StartsWith, prefix_of, IsCanonical, AreCanonical}
use Rattle.rart_trie.specs.walks.Cut.{with_segment, cut_by, cut, cut_pairs}
use Rattle.rart_trie.specs.walks.Walk.{SegmentList, joined_bytes, segments_after, value_at, entries_of}
use Rattle.rart_trie.specs.walks.Walk.{children_entries, tree_entries}
use Rattle.rart_nodes.specs.walks.PathParts.{one_segment}
use Rattle.rart_trie.proofs.shapes.ShapeLemmas.{record_is, prefix-with_records}
use Rattle.rart_trie.proofs.tries.FirstBytes.{AllFirst, AllFrom, pairs_of-first, children_pairs-from}
use Rattle.rart_trie.proofs.tries.LongerPrefix.{longer, trie_lookup-longer}
use Rattle.rart_trie.proofs.tries.PairLemmas.{trie_lookup-nil}

same_cut : (f g : List ℕ → Option NodeRecord) (p q : List ℕ) → ((z : List ℕ) → f z ≡ g z) → cut_by f p q ≡ cut_by g p q
same_cut f g p [] h = refl
same_cut f g p (b ∷ q) h = rw (
  h [],
  same_cut (λ z. f (b ∷ z)) (λ z. g (b ∷ z)) (b ∷ []) q (λ z. h (b ∷ z)),
  same_cut
      (λ z. f (b ∷ z)) (λ z. g (b ∷ z)) (p ++ b ∷ []) q (λ z. h (b ∷ z)),
) refl

-- a cut key joins to the key
joined-with_segment : (p : List ℕ) (ps : SegmentList) → joined_bytes (with_segment p ps) ≡ p ++ joined_bytes ps
joined-with_segment [] ps = refl
joined-with_segment (b ∷ p) ps = refl

joined-cut_by : (f : List ℕ → Option NodeRecord) (p k : List ℕ) → joined_bytes (cut_by f p k) ≡ p ++ k
joined-cut_by f p [] = joined-with_segment p []
joined-cut_by f p (b ∷ k) = elim (is_some (f []))
    as (λ z. joined_bytes (if z then with_segment p (cut_by (λ z. f (b ∷ z)) (b ∷ []) k)
    else cut_by (λ z. f (b ∷ z)) (p ++ b ∷ []) k) ≡ p ++ b ∷ k) [
      | true ↦ joined-with_segment p (cut_by (λ z. f (b ∷ z)) (b ∷ []) k)
          ∙ ap (λ z. p ++ z) (joined-cut_by (λ z. f (b ∷ z)) (b ∷ []) k)
      | false ↦ joined-cut_by (λ z. f (b ∷ z)) (p ++ b ∷ []) k ∙ append_assoc p (b ∷ []) k
    ]

pub joined-cut : (s : List (List ℕ)) (k : List ℕ) → joined_bytes (cut s k) ≡ k
joined-cut s k = joined-cut_by (record_at s) [] k

with_segment-is : (p : List ℕ) (ps : SegmentList) → with_segment p ps ≡ one_segment p ++ ps
with_segment-is [] ps = refl
with_segment-is (b ∷ p) ps = refl

-- at a first byte before which there is no record
cut-first : (f : List ℕ → Option NodeRecord) (c : ℕ) (r : List ℕ) → f [] ≡ None
    → cut_by f [] (c ∷ r) ≡ cut_by (λ z. f (c ∷ z)) (c ∷ []) r
cut-first f c r h = rw h refl

module _ {V : Type 0} where
  -- pairs whose keys are cut as f says
  abbrev cut_as : (List ℕ → SegmentList) → List (List ℕ × V) → List (SegmentList × V)
  cut_as f es = map (λ e. (f e.0, e.1)) es

  cut_as-append : (f : List ℕ → SegmentList) (xs ys : List (List ℕ × V))
      → cut_as f (xs ++ ys) ≡ cut_as f xs ++ cut_as f ys
  cut_as-append f xs ys = map-append (λ e. (f e.0, e.1)) xs ys

  cut_as-same : (f g : List ℕ → SegmentList) (es : List (List ℕ × V)) → ((k : List ℕ) → f k ≡ g k)
      → cut_as f es ≡ cut_as g es
  cut_as-same f g [] h = refl
  cut_as-same f g (e ∷ es) h = rw (h e.0, cut_as-same f g es h) refl

  cut_as-first : (c : ℕ) (f g : List ℕ → SegmentList) (es : List (List ℕ × V)) → AllFirst c es
      → ((r : List ℕ) → f (c ∷ r) ≡ g (c ∷ r)) → cut_as f es ≡ cut_as g es
  cut_as-first c f g [] a h = refl
  cut_as-first c f g (([], v) ∷ es) a h = absurd a.0
  cut_as-first c f g ((x ∷ k, v) ∷ es) a h = rw (a.0, h k, cut_as-first c f g es a.1 h) refl

  cut_as-from : (low : ℕ) (f g : List ℕ → SegmentList) (es : List (List ℕ × V)) → AllFrom low es
      → ((b : ℕ) (r : List ℕ) → low ≤ b → f (b ∷ r) ≡ g (b ∷ r)) → cut_as f es ≡ cut_as g es
  cut_as-from low f g [] a h = refl
  cut_as-from low f g (([], v) ∷ es) a h = absurd a.0
  cut_as-from low f g ((x ∷ k, v) ∷ es) a h = rw (h x k a.0, cut_as-from low f g es a.1 h) refl

  -- after the prefix so far, a node's records cut as its prefix says
  cut-node : (l p r : List ℕ) (v : Option V) (n : ℕ) (cs : Children V) →
      cut_by (λ z. trie_lookup z (with_records (node p v n cs))) l (p ++ r)
      ≡ cut_by (λ z. trie_lookup z (with_records (node [] v n cs))) (l ++ p) r
  cut-node l [] r v n cs = rw (append-nil l) refl
  cut-node l (x ∷ p) r v n cs =
      same_cut (λ z. trie_lookup (x ∷ z) (longer x (with_records (node p v n cs))))
      (λ z. trie_lookup z (with_records (node p v n cs))) (l ++ x ∷ []) (p ++ r)
      (λ z. trie_lookup-longer x x z (with_records (node p v n cs)) ∙ rw (eq-yes x x refl) refl)
      ∙ cut-node (l ++ x ∷ []) p r v n cs ∙ ap (λ z. cut_by (λ z. trie_lookup z (with_records (node [] v n cs))) z r)
      (append_assoc l (x ∷ []) p)

  cut-after : (p : List ℕ) (v : Option V) (n : ℕ) (cs : Children V) (es : List (List ℕ × V)) →
      cut_as (cut_by (λ z. trie_lookup z (with_records (node p v n cs))) []) (with_prefix p es)
      ≡ cut_as (cut_by (λ z. trie_lookup z (with_records (node [] v n cs))) p) es
  cut-after p v n cs [] = refl
  cut-after p v n cs (e ∷ es) = rw (cut-node [] p e.0 v n cs, cut-after p v n cs es) refl

  -- a key below children, cut by their records
  abbrev child_cut : Children V → List ℕ → SegmentList
  child_cut cs [] = []
  child_cut cs (b ∷ r) = cut_by (λ z. child_lookup b (b ∷ z) (children_with_records cs)) (b ∷ []) r

  cut-own : (p : List ℕ) (v w : Option V) (n : ℕ) (cs : Children V) → segments_after (one_segment p) (value_at [] v)
      ≡ cut_as (cut_by (λ z. trie_lookup z (with_records (node [] w n cs))) p) (own_pair v)
  cut-own p None w n cs = refl
  cut-own p (Some x) w n cs = ap (λ z. (z, x) ∷ []) (sym (with_segment-is p []))

  cut-children : (low : ℕ) (p : List ℕ) (v : Option V) (n : ℕ) (cs : Children V) (es : List (List ℕ × V))
      → AllFrom low es →
      segments_after (one_segment p) (cut_as (child_cut cs) es)
      ≡ cut_as (cut_by (λ z. trie_lookup z (with_records (node [] v n cs))) p) es
  cut-children low p v n cs [] a = refl
  cut-children low p v n cs (([], x) ∷ es) a = absurd a.0
  cut-children low p v n cs ((b ∷ r, x) ∷ es) a
      = rw (cut-children low p v n cs es a.1) (ap
      (λ z. (z, x) ∷ cut_as (cut_by (λ z. trie_lookup z (with_records (node [] v n cs))) p) es)
      (sym (with_segment-is p (child_cut cs (b ∷ r)))))

  cut-at : (c : ℕ) (t : Trie V) (cs : Children V) → StartsWith c (prefix_of t) → (r : List ℕ)
      → cut_by (λ z. trie_lookup z (with_records t)) [] (c ∷ r) ≡ child_cut (child c t cs) (c ∷ r)
  cut-at c t cs f r =
      cut-first (λ z. trie_lookup z (with_records t)) c r
      (trie_lookup-nil c (with_records t) (rw (prefix-with_records t) f))
      ∙ same_cut (λ z. trie_lookup (c ∷ z) (with_records t))
      (λ z. child_lookup c (c ∷ z) (children_with_records (child c t cs))) (c ∷ []) r
      (λ z. rw (is_equal c c refl) refl)

  cut-past : (c : ℕ) (t : Trie V) (cs : Children V) (b : ℕ) (r : List ℕ) → suc c ≤ b
      → child_cut cs (b ∷ r) ≡ child_cut (child c t cs) (b ∷ r)
  cut-past c t cs b r h = same_cut (λ z. child_lookup b (b ∷ z) (children_with_records cs))
      (λ z. child_lookup b (b ∷ z) (children_with_records (child c t cs))) (b ∷ []) r
      (λ z. rw (is_greater b c (omega arith)) refl)

  mutual
    entries-cut : (t : Trie V) → IsCanonical t
        → entries_of one_segment t ≡ cut_as (cut_by (λ z. trie_lookup z (with_records t)) []) (pairs_of t)
    entries-cut (node p v n cs) w =
        map-append (λ e. (one_segment p ++ e.0, e.1)) (value_at [] v) (children_entries one_segment cs)
        ∙ ap (λ z. z ++ segments_after (one_segment p) (children_entries one_segment cs)) (cut-own p v v n cs)
        ∙ ap (λ z. cut_as (cut_by (λ z. trie_lookup z (with_records (node [] v n cs))) p) (own_pair v) ++ z)
        (ap (segments_after (one_segment p)) (children-cut 0 cs w.2)
        ∙ cut-children 0 p v n cs (children_pairs cs) (children_pairs-from 0 cs w.2))
        ∙ sym (cut_as-append (cut_by (λ z. trie_lookup z (with_records (node [] v n cs))) p) (own_pair v)
        (children_pairs cs))
        ∙ sym (cut-after p v n cs (own_pair v ++ children_pairs cs))

    children-cut : (low : ℕ) (cs : Children V) → AreCanonical low cs
        → children_entries one_segment cs ≡ cut_as (child_cut cs) (children_pairs cs)
    children-cut low no_children w = refl
    children-cut low (child c t cs) w =
        ap (λ z. z ++ children_entries one_segment cs) (entries-cut t w.2
        ∙ cut_as-first c (cut_by (λ z. trie_lookup z (with_records t)) []) (child_cut (child c t cs)) (pairs_of t)
        (pairs_of-first c t w.1) (cut-at c t cs w.1))
        ∙ ap (λ z. cut_as (child_cut (child c t cs)) (pairs_of t) ++ z)
        (children-cut (suc c) cs w.3 ∙ cut_as-from (suc c) (child_cut cs) (child_cut (child c t cs)) (children_pairs cs)
        (children_pairs-from (suc c) cs w.3) (cut-past c t cs))
        ∙ sym (cut_as-append (child_cut (child c t cs)) (pairs_of t) (children_pairs cs))

  -- what a walk over segments gives
  pub tree-cut : (o : Option (Trie V)) → IsCanonicalTree o
      → tree_entries one_segment o ≡ cut_pairs (keys_of (tree_pairs o)) (tree_pairs o)
  tree-cut None w = refl
  tree-cut (Some t) w = entries-cut t w ∙ cut_as-same (cut_by (λ z. trie_lookup z (with_records t)) [])
      (cut (keys_of (pairs_of t))) (pairs_of t)
      (λ k. same_cut (λ z. trie_lookup z (with_records t)) (record_at (keys_of (pairs_of t))) [] k
      (λ z. record_is z t w))
