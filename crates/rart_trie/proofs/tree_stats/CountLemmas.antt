-- What the count of a tree's nodes keeps, node by node.
use Rattle.std.proofs.Common.{◌≡◌, ℕ, ◌+◌, ◌*◌, ◌<◌, ◌≤◌, ◌==◌, ⊎_elim, Bool, true, false, List, [], ◌∷◌, length, refl}
use Rattle.std.proofs.Common.{sym, ap, ◌∙◌, arith, Option, is_some}
use Rattle.std.specs.Ordering.{nat_cmp, ord_max}
use Rattle.std.specs.Prelude.{max}
use Rattle.std.proofs.lemmas.Bool.Decides.{nat_tests}
use Rattle.std.proofs.Math.Nat.{add_assoc}
use Rattle.rart_trie.specs.declared.stats.counts.Counts.{Counts}
use Rattle.rart_trie.specs.stats.CountedNodes.{width_count_of, counts_of_node, counts_by, sum_of_counts, counts_in}
use Rattle.rart_trie.specs.stats.CountedNodes.{counts_in_children, counts_sum}
use Rattle.rart_trie.specs.stats.Stats.{one_if, trie_height, children_height}
use Rattle.rart_trie.specs.tries.Trie.{Trie, node, Children, no_children, child, edges_of}
use Rattle.rart_trie.specs.tries.TrieCode.{as_children, node_count, child_count}
use Rattle.rart_keys.proofs.strings.ByteOrder.{order, is_less, is_equal, is_greater}
use Rattle.rart_trie.proofs.storages.ChildLemmas.{edges_of-length}

pub max-numbers : (a b : ℕ) → ord_max nat_cmp a b ≡ max a b
max-numbers a b = ⊎_elim (λ h. rw (is_less b a h) (omega arith))
    (⊎_elim (λ h. rw (is_equal b a h) (omega arith)) (λ h. rw (is_greater b a h) (omega arith))) (order b a)

added-assoc : (a b c : Counts) → sum_of_counts (sum_of_counts a b) c ≡ sum_of_counts a (sum_of_counts b c)
added-assoc a b c = simp add_assoc refl

add-none : (a : ℕ) → a ≡ a + 0
add-none a = omega arith

none-added : (a : Counts) → a ≡ sum_of_counts a (counts_by (λ m. 0))
none-added a = simp (← add-none) refl

sum-added : (a b : Counts) → counts_sum (sum_of_counts a b) ≡ counts_sum a + counts_sum b
sum-added a b = omega arith

-- a node adds at most 3 and its children, since it has one width
one-at-most : (b : Bool) → one_if b ≤ 1
one-at-most true = omega arith
one-at-most false = omega arith

abbrev width_sum : ℕ → ℕ → ℕ → ℕ
width_sum w n c = (width_count_of w n c).nodes + (width_count_of w n c).children

one-width : (n c : ℕ) → width_sum 4 n c + width_sum 16 n c + width_sum 48 n c + width_sum 256 n c ≤ 1 + c
one-width n c = grind (arith, nat_tests)

few-own : (h : Bool) (n c : ℕ) → counts_sum (counts_of_node h n c) ≤ 3 + c
few-own h n c = omega (arith, one-at-most h, one-at-most (c == 0), one-width n c)

module _ {V : Type 0} where
  few-edges : (cs : Children V) → length (edges_of cs) ≤ child_count cs
  few-edges no_children = omega arith
  few-edges (child b (node p v n ds) cs) = omega (arith, few-edges cs)

  mutual
    pub few-counted : (t : Trie V) → counts_sum (counts_in t) + 1 ≤ 4 * node_count t
    few-counted (node p v n cs) = omega (arith, few-own (is_some v) n (length (edges_of cs)), few-counted-children cs)

    few-counted-children : (cs : Children V) → counts_sum (counts_in_children cs) + length (edges_of cs)
        ≤ 4 * child_count cs
    few-counted-children no_children = omega arith
    few-counted-children (child b t cs) = omega (arith, few-counted t, few-counted-children cs)

  -- what a walk over the children of the node t keeps: `counts`, with what the children `es` still to come add, is
  -- `before` with what t adds, and no sum passes 4 for each node
  pub record Counting (before counts : Counts) (below : ℕ) (t : Trie V) (es : List (ℕ × Trie V)) : Type 0 where
    pub counted : sum_of_counts counts (counts_in_children (as_children es)) ≡ sum_of_counts before (counts_in t)
    pub fits : counts_sum counts + 4 * child_count (as_children es) + 1 ≤ counts_sum before + 4 * node_count t
        + length es
    pub fewer : child_count (as_children es) < node_count t
    pub tall : 1 + max below (children_height (as_children es)) ≡ trie_height t

  pub count-start : (before counts : Counts) (p : List ℕ) (v : Option V) (n k : ℕ) (es child_entries : List (ℕ
      × Trie V))
      → as_children es ≡ as_children child_entries → k ≡ length child_entries →
      counts ≡ sum_of_counts before (counts_of_node (is_some v) n k) →
      Counting before counts 0 (node p v n (as_children child_entries)) es
  count-start before counts p v n k es child_entries s l e =
      let own : counts_of_node (is_some v) n k ≡ counts_of_node (is_some v) n (length (edges_of
      (as_children child_entries)))
      = ap (counts_of_node (is_some v) n) (l ∙ sym (edges_of-length child_entries)) in
      record {
        counted = rw (e, s) (added-assoc before (counts_of_node (is_some v) n k)
            (counts_in_children (as_children child_entries))
            ∙ ap (λ o. sum_of_counts before (sum_of_counts o (counts_in_children (as_children child_entries)))) own);
        fits = rw s (omega (
          arith,
          l,
          sym (edges_of-length es) ∙ ap (λ cs. length (edges_of cs)) s
              ∙ edges_of-length child_entries,
          ap counts_sum e,
          sum-added before (counts_of_node (is_some v) n k),
          few-own
              (is_some v) n k,
        ));
        fewer = rw s (omega arith);
        tall = rw s (omega arith);
      }

  pub count-step : (before counts after : Counts) (below height : ℕ) (t u : Trie V) (b : ℕ)
      (es rest : List (ℕ × Trie V)) → es ≡ (b, u) ∷ rest →
      after ≡ sum_of_counts counts (counts_in u) → height ≡ max below (trie_height u) → Counting before counts below
      t es
      → Counting before after height t rest
  count-step before counts after below height t u b es rest s e m i =
      let counted = rw s at i.counted in
      let fits = rw s at i.fits in
      let fewer = rw s at i.fewer in
      let tall = rw s at i.tall in
      record {
        counted = rw e (added-assoc counts (counts_in u) (counts_in_children (as_children rest)) ∙ counted);
        fits = omega (arith, ap counts_sum e, sum-added counts (counts_in u), few-counted u, fits);
        fewer = omega (arith, fewer);
        tall = omega (arith, m, tall);
      }

  -- a child that comes next leaves capacity, and is smaller
  pub count-free : (before counts : Counts) (below : ℕ) (t u : Trie V) (b : ℕ) (es rest : List (ℕ × Trie V))
      → es ≡ (b, u) ∷ rest →
      Counting before counts below t es → (counts_sum counts + 4 * node_count u ≤ counts_sum before + 4 * node_count t)
      × (node_count u < node_count t)
  count-free before counts below t u b es rest s i =
      let fits = rw s at i.fits in
      let fewer = rw s at i.fewer in
      (omega (arith, fits, few-edges (as_children rest), edges_of-length rest), omega (arith, fewer))

  pub count-end : (before counts : Counts) (below : ℕ) (t : Trie V) (es : List (ℕ × Trie V)) → es ≡ [] →
      Counting before counts below t es → (counts ≡ sum_of_counts before (counts_in t)) × (1 + below ≡ trie_height t)
  count-end before counts below t es s i =
      let counted = rw s at i.counted in
      let tall = rw s at i.tall in
      (none-added counts ∙ counted, omega (arith, tall))

  -- a node leaves capacity for itself, and is as high as it has nodes at most
  pub own-free : (p : List ℕ) (v : Option V) (n : ℕ) (es : List (ℕ × Trie V))
      → 3 + length es ≤ 4 * node_count (node p v n (as_children es))
  own-free p v n es = omega (arith, few-edges (as_children es), edges_of-length es)

  mutual
    pub few-high : (t : Trie V) → trie_height t ≤ node_count t
    few-high (node p v n cs) = omega (arith, few-high-children cs)

    few-high-children : (cs : Children V) → children_height cs ≤ child_count cs
    few-high-children no_children = omega arith
    few-high-children (child b t cs) = omega (arith, few-high t, few-high-children cs)
