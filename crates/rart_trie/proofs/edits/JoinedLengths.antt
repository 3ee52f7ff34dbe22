-- The prefixes of a node and of its child, joined, are no longer than a key.
use Rattle.std.proofs.Common.{◌≡◌, ℕ, suc, ◌+◌, ◌≤◌, List, ◌++◌, length, Option, Some, arith, sym, ◌∙◌}
use Rattle.rart_keys.specs.KeyBytes.{IsWithin}
use Rattle.rart_parts.specs.Entries.{child_at}
use Rattle.rart_trie.specs.edits.Deletion.{JoinsWithin}
use Rattle.rart_keys.specs.SortedMap.{longest_key}
use Rattle.rart_trie.specs.tries.Trie.{Trie, node, Children, no_children, child, prefix_of, IsCanonical, AreCanonical}
use Rattle.rart_trie.specs.tries.Trie.{pairs_of, children_pairs, own_pair}
use Rattle.rart_trie.specs.tries.TrieCode.{as_children}
use Rattle.rart_trie.proofs.tries.CanonicalTests.{longest_key-append, longest_key-after}
use Rattle.rart_trie.proofs.edits.InsertLemmas.{fewer-within}
use Rattle.rart_trie.proofs.tries.NodeCounts.{some-after}
use Rattle.rart_trie.proofs.tries.Descents.{child_of-entries}
use Rattle.rart_trie.proofs.tries.StepLemmas.{child-short, longest-below}

module _ {V : Type 0} where
  -- a node's keys have its prefix
  pub prefix-before : (p : List ℕ) (v : Option V) (w : ℕ) (cs : Children V) → IsCanonical (node p v w cs)
      → longest_key (pairs_of (node p v w cs)) ≡ length p + longest_key (own_pair v ++ children_pairs cs)
  prefix-before p v w cs c = longest_key-after p (own_pair v ++ children_pairs cs) (some-after p v w cs c)

  -- the paths to the children are parts of keys
  pub joins-children : (m : Option ℕ) (p : List ℕ) (n low : ℕ) (cs : Children V) → AreCanonical low cs
      → longest_key (children_pairs cs) ≤ n → IsWithin m (length p + n) → JoinsWithin m p cs
  joins-children m p n low no_children c l h = tt
  joins-children m p n low (child b t cs) c l h =
      let a = longest_key-append (pairs_of t) (children_pairs cs) in (
        fewer-within m (length p + n) (length p + length (prefix_of t)) (omega (arith, a, longest-below t c.2)) h,
        joins-children m p n (suc b) cs c.3 (omega (arith, a)) h,
      )

  pub joins-canonical : (m : Option ℕ) (p : List ℕ) (v : Option V) (w : ℕ) (cs : Children V)
      → IsCanonical (node p v w cs) → IsWithin m (longest_key (pairs_of (node p v w cs))) → JoinsWithin m p cs
  joins-canonical m p v w cs c h = joins-children m p (longest_key (own_pair v ++ children_pairs cs)) 0 cs c.2
      (omega (arith, longest_key-append (own_pair v) (children_pairs cs)))
      (fewer-within m (longest_key (pairs_of (node p v w cs)))
      (length p + longest_key (own_pair v ++ children_pairs cs)) (omega (arith, prefix-before p v w cs c)) h)

  pub entry-short : (p : List ℕ) (v : Option V) (w b : ℕ) (t : Trie V) (es : List (ℕ × Trie V)) → Some t ≡ child_at b es
      → longest_key (pairs_of t) ≤ longest_key (pairs_of (node p v w (as_children es)))
  entry-short p v w b t es at = child-short b (longest_key (pairs_of (node p v w (as_children es))))
      (node p v w (as_children es)) t (omega arith) (child_of-entries b es ∙ sym at)
