-- What is kept of the keys of a tree joins to the keys, and the values are the tree's.
use Rattle.std.proofs.Common.{◌≡◌, ℕ, List, [], ◌∷◌, ◌++◌, length, Option, Some, None, refl, sym, ap, ◌∙◌, arith}
use Rattle.std.proofs.lemmas.List.{append-nil, map-append}
use Rattle.rart_keys.specs.SortedMap.{values_of}
use Rattle.rart_trie.specs.walks.Walk.{SegmentList, Grown, Joins, joined_bytes, join_all, entry_values, segments_after}
use Rattle.rart_trie.specs.walks.Walk.{value_at, entries_of, children_entries, tree_entries}
use Rattle.rart_nodes.specs.walks.PathParts.{byte_segments, one_segment}
use Rattle.rart_trie.specs.tries.PrefixLaws.{values-with_prefix}
use Rattle.rart_trie.specs.tries.Tree.{tree_pairs}
use Rattle.rart_nodes.specs.walks.SegmentLaws.{joined-append}
use Rattle.rart_trie.specs.tries.Trie.{Trie, node, Children, no_children, child, children_pairs, pairs_of, own_pair}
use Rattle.rart_trie.specs.tries.Trie.{with_prefix}

pub joins-one : Joins one_segment
joins-one [] = refl
joins-one (b ∷ p) = append-nil (b ∷ p)

pub joins-bytes : Joins byte_segments
joins-bytes [] = refl
joins-bytes (b ∷ p) = ap (λ z. b ∷ z) (joins-bytes p)

pub length-bytes : (p : List ℕ) → length (byte_segments p) ≡ length p
length-bytes [] = refl
length-bytes (b ∷ p) = omega (arith, length-bytes p)

module _ {V : Type 0} where
  pub join-append : (xs ys : List (SegmentList × V)) → join_all (xs ++ ys) ≡ join_all xs ++ join_all ys
  join-append xs ys = map-append (λ e. (joined_bytes e.0, e.1)) xs ys

  pub join-after : (ps : SegmentList) (es : List (SegmentList × V))
      → join_all (segments_after ps es) ≡ with_prefix (joined_bytes ps) (join_all es)
  join-after ps [] = refl
  join-after ps (e ∷ es) = rw (joined-append ps e.0, join-after ps es) refl

  pub join-own : (v : Option V) → join_all (value_at [] v) ≡ own_pair v
  join-own None = refl
  join-own (Some v) = refl

  mutual
    pub joined-entries : (g : Grown) (t : Trie V) → Joins g → join_all (entries_of g t) ≡ pairs_of t
    joined-entries g (node p v c cs) j = join-after (g p) (value_at [] v ++ children_entries g cs)
        ∙ ap (λ q. with_prefix q (join_all (value_at [] v ++ children_entries g cs))) (j p)
        ∙ ap (with_prefix p) (join-append (value_at [] v) (children_entries g cs)
        ∙ ap (λ z. z ++ join_all (children_entries g cs)) (join-own v)
        ∙ ap (λ z. own_pair v ++ z) (joined-children g cs j))

    pub joined-children : (g : Grown) (cs : Children V) → Joins g → join_all (children_entries g cs) ≡ children_pairs cs
    joined-children g no_children j = refl
    joined-children g (child b t cs) j = join-append (entries_of g t) (children_entries g cs)
        ∙ ap (λ z. z ++ join_all (children_entries g cs)) (joined-entries g t j)
        ∙ ap (λ z. pairs_of t ++ z) (joined-children g cs j)

  pub joined-tree : (g : Grown) (o : Option (Trie V)) → Joins g → join_all (tree_entries g o) ≡ tree_pairs o
  joined-tree g None j = refl
  joined-tree g (Some t) j = joined-entries g t j

  values-append : (xs ys : List (SegmentList × V)) → entry_values (xs ++ ys) ≡ entry_values xs ++ entry_values ys
  values-append xs ys = map-append (λ e. e.1) xs ys

  pub values-after : (ps : SegmentList) (es : List (SegmentList × V)) → entry_values (segments_after ps es)
      ≡ entry_values es
  values-after ps [] = refl
  values-after ps (e ∷ es) = ap (λ z. e.1 ∷ z) (values-after ps es)

  values-own : (v : Option V) → entry_values (value_at [] v) ≡ values_of (own_pair v)
  values-own None = refl
  values-own (Some v) = refl

  mutual
    pub values-entries : (g : Grown) (t : Trie V) → entry_values (entries_of g t) ≡ values_of (pairs_of t)
    values-entries g (node p v c cs) = values-after (g p) (value_at [] v ++ children_entries g cs)
        ∙ values-append (value_at [] v) (children_entries g cs)
        ∙ ap (λ z. z ++ entry_values (children_entries g cs)) (values-own v)
        ∙ ap (λ z. values_of (own_pair v) ++ z) (values-children g cs)
        ∙ sym (map-append (λ e. e.1) (own_pair v) (children_pairs cs))
        ∙ sym (values-with_prefix p (own_pair v ++ children_pairs cs))

    values-children : (g : Grown) (cs : Children V) → entry_values (children_entries g cs)
        ≡ values_of (children_pairs cs)
    values-children g no_children = refl
    values-children g (child b t cs) = values-append (entries_of g t) (children_entries g cs)
        ∙ ap (λ z. z ++ entry_values (children_entries g cs)) (values-entries g t)
        ∙ ap (λ z. values_of (pairs_of t) ++ z) (values-children g cs)
        ∙ sym (map-append (λ e. e.1) (pairs_of t) (children_pairs cs))

  pub values-tree : (g : Grown) (o : Option (Trie V)) → entry_values (tree_entries g o) ≡ values_of (tree_pairs o)
  values-tree g None = refl
  values-tree g (Some t) = values-entries g t
