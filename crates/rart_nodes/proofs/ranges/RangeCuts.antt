-- The segments of the keys within two bounds are their cuts, and can be lent.
use Rattle.std.proofs.Common.{◌≡◌, ℕ, ◌+◌, ◌<◌, ◌≤◌, ◌^◌, Bool, true, false, List, [], ◌∷◌, refl, sym, ap, ◌∙◌, arith}
use Rattle.std.proofs.Common.{length, Option, subst, if◌then◌else◌}
use Rattle.std.proofs.lemmas.List.{length-map}
use Rattle.std.specs.declared.ops.Bound.{Bound}
use Rattle.rart_keys.specs.Ranges.{between, bound_bytes, is_inclusive, is_from, is_from_bound, is_to, pairs_from}
use Rattle.rart_keys.specs.Ranges.{up_to}
use Rattle.rart_keys.proofs.maps.RangeLemmas.{from_bound-bytes, up_to-from_bound}
use Rattle.std.proofs.lemmas.List.Elements.{filter_agree}
use Rattle.rart_trie.proofs.tries.PairLemmas.{tree_pairs-ascend}
use Rattle.rart_keys.specs.SortedMap.{keys_of, longest_key}
use Rattle.rart_nodes.specs.ranges.Spans.{cut_between, span_visits}
use Rattle.rart_trie.specs.ranges.Starts.{entries_from, entries_to}
use Rattle.rart_trie.specs.tries.Tree.{tree_pairs, IsCanonicalTree}
use Rattle.rart_trie.specs.tries.Trie.{Trie}
use Rattle.rart_trie.specs.walks.Cut.{cut, cut_pairs}
use Rattle.rart_trie.specs.walks.Walk.{SegmentList, joined_bytes, tree_entries}
use Rattle.rart_nodes.specs.walks.PathParts.{one_segment}
use Rattle.rart_nodes.specs.walks.ViewSegments.{AreViews}
use Rattle.rart_nodes.proofs.ranges.ComparedEntries.{filter-map}
use Rattle.rart_nodes.proofs.walks.CutLemmas.{joined-cut, tree-cut}
use Rattle.rart_nodes.proofs.walks.PartCuts.{views-cut}

module _ {V : Type 0} where
  -- the pairs from a start on, up to an end
  pub from_bound-between : (a b : Bound (List ℕ)) (o : Option (Trie V)) → IsCanonicalTree o
      → up_to b (pairs_from (is_inclusive a) (bound_bytes a) (tree_pairs o)) ≡ between a b (tree_pairs o)
  from_bound-between a b o w = ap (up_to b)
      (filter_agree (λ e. is_from_bound (is_inclusive a) (bound_bytes a) e.0) (λ e. is_from a e.0)
      (λ e. from_bound-bytes a e.0) (tree_pairs o)) ∙ up_to-from_bound a b (tree_pairs o) (tree_pairs-ascend o w)

  cut-from_bound : (h : Bool) (r : List ℕ) (s : List (List ℕ)) (es : List (List ℕ × V))
      → entries_from h r (cut_pairs s es) ≡ cut_pairs s (pairs_from h r es)
  cut-from_bound h r s es = filter-map (λ e. (cut s e.0, e.1)) (λ e. is_from_bound h r e.0)
      (λ e. is_from_bound h r (joined_bytes e.0)) es (λ e. ap (is_from_bound h r) (joined-cut s e.0))

  cut-to : (b : Bound (List ℕ)) (s : List (List ℕ)) (es : List (List ℕ × V))
      → entries_to b (cut_pairs s es) ≡ cut_pairs s (up_to b es)
  cut-to b s [] = refl
  cut-to b s (e ∷ es) = rw (joined-cut s e.0)
      (elim (is_to b e.0) as (λ z. (if z then (cut s e.0, e.1) ∷ entries_to b (cut_pairs s es) else [])
      ≡ cut_pairs s (if z then e ∷ up_to b es else [])) [
        | true ↦ ap (λ z. (cut s e.0, e.1) ∷ z) (cut-to b s es)
        | false ↦ refl
      ])

  pub range-cut : (a b : Bound (List ℕ)) (o : Option (Trie V)) → IsCanonicalTree o
      → entries_to b (entries_from (is_inclusive a) (bound_bytes a) (tree_entries one_segment o))
      ≡ cut_between a b (tree_pairs o)
  range-cut a b o w =
      let s = keys_of (tree_pairs o) in
      ap (λ z. entries_to b (entries_from (is_inclusive a) (bound_bytes a) z)) (tree-cut o w)
      ∙ ap (entries_to b) (cut-from_bound (is_inclusive a) (bound_bytes a) s (tree_pairs o))
      ∙ cut-to b s (pairs_from (is_inclusive a) (bound_bytes a) (tree_pairs o))
      ∙ ap (cut_pairs s) (from_bound-between a b o w)

  -- as many as there are pairs
  pub cut-length : (a b : Bound (List ℕ)) (es : List (List ℕ × V))
      → length (cut_between a b es) ≡ length (between a b es)
  cut-length a b es = length-map (between a b es) (λ e. (cut (keys_of es) e.0, e.1))

  longest-from_bound : (h : Bool) (r : List ℕ) (es : List (List ℕ × V))
      → longest_key (pairs_from h r es) ≤ longest_key es
  longest-from_bound h r [] = omega arith
  longest-from_bound h r (e ∷ es) = elim (is_from_bound h r e.0)
      as (λ z. longest_key (if z then e ∷ pairs_from h r es else pairs_from h r es) ≤ longest_key (e ∷ es)) [
        | true ↦ omega (arith, longest-from_bound h r es)
        | false ↦ omega (arith, longest-from_bound h r es)
      ]

  -- they can be lent
  pub from_bound-views : (n : ℕ) (h : Bool) (r : List ℕ) (o : Option (Trie V)) → IsCanonicalTree o
      → longest_key (tree_pairs o) ≤ n → n < 2 ^ 64 → AreViews (entries_from h r (tree_entries one_segment o))
  from_bound-views n h r o w l m =
      let s = keys_of (tree_pairs o) in
      subst AreViews (sym (ap (entries_from h r) (tree-cut o w) ∙ cut-from_bound h r s (tree_pairs o)))
      (views-cut n s (pairs_from h r (tree_pairs o)) (omega (arith, l, longest-from_bound h r (tree_pairs o))) m)

  -- the first stop is within the end, or past it
  pub stop-within : (b : Bound (List ℕ)) (k q : SegmentList) (v : V) (es fs : List (SegmentList × V)) → es ≡ (k, v) ∷ fs
      → q ≡ k → is_to b (joined_bytes q) ≡ true → entries_to b es ≡ (k, v) ∷ entries_to b fs
  stop-within b k q v es fs e i w = let w1 : is_to b (joined_bytes k) ≡ true = ap (λ z. is_to b (joined_bytes z))
      (sym i) ∙ w in
      rw (e, w1) refl

  pub stop-past : (b : Bound (List ℕ)) (k q : SegmentList) (v : V) (es fs : List (SegmentList × V)) → es ≡ (k, v) ∷ fs
      → q ≡ k → is_to b (joined_bytes q) ≡ false → entries_to b es ≡ []
  stop-past b k q v es fs e i w = let w1 : is_to b (joined_bytes k) ≡ false = ap (λ z. is_to b (joined_bytes z)) (sym i)
      ∙ w in
      rw (e, w1) refl

  -- without a pair nothing is visited
  pub none-visited : (n m : ℕ) (a b : Bound (List ℕ)) (es : List (List ℕ × V)) → n ≤ m + span_visits a b es → es ≡ []
      → n ≤ m
  none-visited n m a b [] h e = omega (arith, h)
  none-visited n m a b (x ∷ es) h e = absurd (cc)
