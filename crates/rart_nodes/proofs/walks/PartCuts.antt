-- The segments of the keys at and below a prefix are their cuts, and can be lent.
use Rattle.std.proofs.Common.{◌≡◌, ℕ, ◌<◌, ◌≤◌, ◌^◌, true, false, cond, eqb, List, [], ◌∷◌, ◌++◌, length, refl, sym, ap}
use Rattle.std.proofs.Common.{◌∙◌, arith, Option, Some, None, is_some, subst, if◌then◌else◌}
use Rattle.std.proofs.lemmas.List.{map-append}
use Rattle.rart_keys.specs.ByteStrings.{begins}
use Rattle.rart_keys.specs.Filters.{below}
use Rattle.rart_keys.specs.SortedMap.{keys_of, longest_key}
use Rattle.rart_trie.specs.shapes.Shape.{NodeRecord, record_at}
use Rattle.rart_trie.specs.tries.Tree.{tree_pairs, IsCanonicalTree}
use Rattle.rart_trie.specs.tries.Trie.{Trie, node, Children, no_children, child, child_of}
use Rattle.rart_trie.specs.walks.Cut.{with_segment, cut_by, cut, cut_pairs}
use Rattle.rart_nodes.specs.walks.Part.{finds, tree_part, part_entries}
use Rattle.rart_trie.proofs.tries.Descents.{Keeps, descends}
use Rattle.rart_trie.specs.walks.Walk.{SegmentList, Grown, joined_bytes, join_all, segments_after, value_at}
use Rattle.rart_trie.specs.walks.Walk.{entries_of, children_entries, tree_entries}
use Rattle.rart_nodes.specs.walks.PathParts.{one_segment}
use Rattle.rart_nodes.specs.walks.ViewSegments.{all_have_bytes, AreViews}
use Rattle.rart_nodes.proofs.walks.CutLemmas.{joined-cut, tree-cut}
use Rattle.rart_nodes.proofs.walks.PartLemmas.{part-keys}
use Rattle.rart_nodes.proofs.walks.EntryLemmas.{joins-one}
use Rattle.rart_nodes.proofs.walks.WalkLemmas.{after-none, after-twice}

-- no segment is empty
bytes-segment : (p : List ℕ) (ps : SegmentList) → all_have_bytes ps ≡ true → all_have_bytes (with_segment p ps) ≡ true
bytes-segment [] ps h = h
bytes-segment (b ∷ p) ps h = h

bytes-cut_by : (f : List ℕ → Option NodeRecord) (p k : List ℕ) → all_have_bytes (cut_by f p k) ≡ true
bytes-cut_by f p [] = bytes-segment p [] refl
bytes-cut_by f p (b ∷ k) = elim (is_some (f []))
    as (λ z. all_have_bytes (if z then with_segment p (cut_by (λ z. f (b ∷ z)) (b ∷ []) k)
    else cut_by (λ z. f (b ∷ z)) (p ++ b ∷ []) k) ≡ true) [
      | true ↦ bytes-segment p (cut_by (λ z. f (b ∷ z)) (b ∷ []) k) (bytes-cut_by (λ z. f (b ∷ z)) (b ∷ []) k)
      | false ↦ bytes-cut_by (λ z. f (b ∷ z)) (p ++ b ∷ []) k
    ]

module _ {V : Type 0} where
  -- each path is the cut of its key
  abbrev AreCut : List (List ℕ) → List (SegmentList × V) → Type 0
  AreCut s [] = Unit {0}
  AreCut s (e ∷ es) = (e.0 ≡ cut s (joined_bytes e.0)) × AreCut s es

  are_cut-front : (s : List (List ℕ)) (xs ys : List (SegmentList × V)) → AreCut s (xs ++ ys) → AreCut s xs
  are_cut-front s [] ys h = tt
  are_cut-front s (x ∷ xs) ys h = (h.0, are_cut-front s xs ys h.1)

  are_cut-back : (s : List (List ℕ)) (xs ys : List (SegmentList × V)) → AreCut s (xs ++ ys) → AreCut s ys
  are_cut-back s [] ys h = h
  are_cut-back s (x ∷ xs) ys h = are_cut-back s xs ys h.1

  are_cut-pairs : (s : List (List ℕ)) (es : List (List ℕ × V)) → AreCut s (cut_pairs s es)
  are_cut-pairs s [] = tt
  are_cut-pairs s (e ∷ es) = (ap (cut s) (sym (joined-cut s e.0)), are_cut-pairs s es)

  from_are_cut : (s : List (List ℕ)) (es : List (SegmentList × V)) → AreCut s es → es ≡ cut_pairs s (join_all es)
  from_are_cut s [] h = refl
  from_are_cut s (e ∷ es) h = ap (λ z. (z, e.1) ∷ es) h.0
      ∙ ap (λ z. (cut s (joined_bytes e.0), e.1) ∷ z) (from_are_cut s es h.1)

  -- after a node's prefix, without its own value
  below-own : (s : List (List ℕ)) (g : Grown) (k : SegmentList) (q : List ℕ) (v : Option V) (cs : Children V)
      → AreCut s (segments_after k (segments_after (g q) (value_at [] v ++ children_entries g cs)))
      → AreCut s (segments_after (k ++ g q) (children_entries g cs))
  below-own s g k q v cs h = are_cut-back s (segments_after (k ++ g q) (value_at [] v))
      (segments_after (k ++ g q) (children_entries g cs))
      (subst (AreCut s) (after-twice k (g q) (value_at [] v ++ children_entries g cs)
      ∙ map-append (λ e. (k ++ g q ++ e.0, e.1)) (value_at [] v) (children_entries g cs)) h)

  child-are_cut : (s : List (List ℕ)) (g : Grown) (k : SegmentList) (b : ℕ) (cs : Children V)
      → AreCut s (segments_after k (children_entries g cs))
      → AreCut s (segments_after k (tree_entries g (child_of b cs)))
  child-are_cut s g k b no_children h = tt
  child-are_cut s g k b (child c t cs) h =
      let both : AreCut s (segments_after k (entries_of g t) ++ segments_after k (children_entries g cs))
      = subst (AreCut s) (map-append (λ e. (k ++ e.0, e.1)) (entries_of g t) (children_entries g cs)) h in
      elim (eqb c b) as (λ z. AreCut s (segments_after k (tree_entries g (cond z (Some t) (child_of b cs))))) [
        | true ↦ are_cut-front s (segments_after k (entries_of g t)) (segments_after k (children_entries g cs)) both
        | false ↦ child-are_cut s g k b cs (are_cut-back s (segments_after k (entries_of g t))
            (segments_after k (children_entries g cs)) both)
      ]

  -- what holds of the stops of a tree holds of those of its part
  part-are_cut : (s : List (List ℕ)) (g : Grown)
      → Keeps {V = V} (finds g) (λ p o a. (k : SegmentList) → AreCut s (segments_after k (tree_entries g o))
      → AreCut s (part_entries g (a k)))
  part-are_cut s g = record {
    absent = λ p k h. tt;
    left = λ p q v n cs w e k h. elim (begins p q)
        as (λ z. AreCut s (part_entries g (if z then Some (k, node q v n cs) else None))) [ true ↦ h | false ↦ tt ];
    ended = λ p q v n cs w e k h. h;
    on = λ p q v n cs b r a w e f k h. f (k ++ g q) (child-are_cut s g (k ++ g q) b cs (below-own s g k q v cs h));
  }

  -- the segments at and below the prefix p
  pub part-cut : (p : List ℕ) (o : Option (Trie V)) → IsCanonicalTree o
      → part_entries one_segment (tree_part one_segment [] p o)
      ≡ cut_pairs (keys_of (tree_pairs o)) (below p (tree_pairs o))
  part-cut p o w =
      let s = keys_of (tree_pairs o) in
      let whole : AreCut s (segments_after [] (tree_entries one_segment o))
      = subst (AreCut s) (sym (after-none (tree_entries one_segment o) ∙ tree-cut o w))
      (are_cut-pairs s (tree_pairs o)) in
      from_are_cut s (part_entries one_segment (tree_part one_segment [] p o))
      (descends (finds one_segment) (λ p o a. (k : SegmentList)
      → AreCut s (segments_after k (tree_entries one_segment o)) → AreCut s (part_entries one_segment (a k)))
      (part-are_cut s one_segment) p o w [] whole)
      ∙ ap (cut_pairs s) (part-keys one_segment p o joins-one w)

  longest-below : (p : List ℕ) (es : List (List ℕ × V)) → longest_key (below p es) ≤ longest_key es
  longest-below p [] = omega arith
  longest-below p (e ∷ es) = elim (begins p e.0) as (λ z. longest_key (if z then e ∷ below p es else below p es)
      ≤ longest_key (e ∷ es)) [
        | true ↦ omega (arith, longest-below p es)
        | false ↦ omega (arith, longest-below p es)
      ]

  pub views-cut : (n : ℕ) (s : List (List ℕ)) (es : List (List ℕ × V)) → longest_key es ≤ n → n < 2 ^ 64
      → AreViews (cut_pairs s es)
  views-cut n s [] l m = tt
  views-cut n s (e ∷ es) l m = (
    bytes-cut_by (record_at s) [] e.0,
    omega (arith, l, ap length (joined-cut s e.0)),
    views-cut n s es (omega (arith, l)) m,
  )

  -- they can be lent
  pub part-views : (n : ℕ) (p : List ℕ) (o : Option (Trie V)) → IsCanonicalTree o → longest_key (tree_pairs o) ≤ n
      → n < 2 ^ 64 → AreViews (part_entries one_segment (tree_part one_segment [] p o))
  part-views n p o w l m = subst AreViews (sym (part-cut p o w))
      (views-cut n (keys_of (tree_pairs o)) (below p (tree_pairs o)) (omega (arith, l, longest-below p (tree_pairs o)))
      m)
