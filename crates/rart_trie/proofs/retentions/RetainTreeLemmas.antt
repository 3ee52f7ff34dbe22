-- What a walk that retains pairs leaves of a tree.
use Rattle.std.proofs.Common.{◌≡◌, ℕ, ◌≤◌, Bool, true, List, [], length, refl, sym, ap, ◌∙◌, arith, Option, Some, None}
use Rattle.std.proofs.Common.{MutBor}
use Rattle.std.specs.Borrow.{Bor}
use Rattle.std.specs.Fn.{Mut}
use Rattle.rart_keys.specs.SortedMap.{keys_of, longest_key}
use Rattle.rart_trie.specs.declared.node.edits.retain.Retention.TheVariants.{Done, Rejected, Refused}
use Rattle.rart_trie.specs.edits.RemoveAllocations.{remove_allocates}
use Rattle.rart_trie.specs.declared.node.part.Part.{Part}
use Rattle.rart_trie.specs.edits.Retentions.{Fate, remaining_pairs}
use Rattle.rart_trie.specs.edits.RetainSteps.{RetainsAllWhere, RetainsFirstWhere, RetainsTree}
use Rattle.rart_trie.specs.ranges.Parts.{is_in_part}
use Rattle.rart_trie.specs.tries.Tree.{IsCanonicalTree, tree_pairs}
use Rattle.rart_trie.specs.tries.Trie.{Trie, pairs_of}
use Rattle.rart_trie.proofs.retentions.CallsAfterRefusal.{ends-none}
use Rattle.rart_trie.proofs.retentions.RetainStepLemmas.{leaf-fulfilled}
use Rattle.rart_trie.proofs.retentions.RetentionLemmas.{all_fulfilled, calls-fulfilled, length-fulfilled}
use Rattle.rart_trie.proofs.retentions.RetentionLemmas.{refusals-fulfilled, remaining-length, remaining-longest}
use Rattle.rart_trie.proofs.removals.RemoveAllocationLemmas.{allocates-remove}

module _ {F V : Type 0} (call : Mut F (Bor (List ℕ) × (MutBor V × Unit {0})) (Bool × (MutBor V × Unit {0})))
    (s : Part) where
  pub tree-done : (f g : F) (o u : Option (Trie V)) → RetainsTree call s Done f o u g
      → RetainsAllWhere call (is_in_part s) [] f (tree_pairs o) (tree_pairs u) 0 g
  tree-done f g None None h = record {
    fates = [];
    calls = h.1;
    all = refl;
    refused = refl;
    ends = tt;
    left = refl;
  }
  tree-done f g None (Some u) h = absurd h
  tree-done f g (Some t) None h = absurd h
  tree-done f g (Some t) (Some u) h = h

  -- the root is a leaf, which is removed
  pub tree-rejected : (f g : F) (o u : Option (Trie V)) → RetainsTree call s Rejected f o u g
      → RetainsAllWhere call (is_in_part s) [] f (tree_pairs o) [] 0 g
  tree-rejected f g None None h = absurd (cc (h.0))
  tree-rejected f g None (Some u) h = absurd h
  tree-rejected f g (Some t) None h = absurd h
  tree-rejected f g (Some t) (Some u) h = record {
    fates = all_fulfilled h.1.fates;
    calls = calls-fulfilled call (is_in_part s) [] (pairs_of t) h.1.fates f g h.1.calls;
    all = length-fulfilled h.1.fates ∙ h.1.all;
    refused = refusals-fulfilled h.1.fates;
    ends = ends-none (pairs_of t) (all_fulfilled h.1.fates) (refusals-fulfilled h.1.fates);
    left = sym (leaf-fulfilled u (pairs_of t) h.1.fates h.0 h.1.all h.1.refused h.1.left);
  }

  pub tree-refused : (f g : F) (o u : Option (Trie V)) → IsCanonicalTree u → RetainsTree call s Refused f o u g
      → (k : List ℕ) × (RetainsFirstWhere call (is_in_part s) [] f (tree_pairs o) (tree_pairs u) k g
      × (remove_allocates (keys_of (tree_pairs u)) k ≡ true))
  tree-refused f g None None c h = absurd (cc (h.0))
  tree-refused f g None (Some u) c h = absurd h
  tree-refused f g (Some t) None c h = absurd h
  tree-refused f g (Some t) (Some u) c h
      = (h.key, (h.retains, sym (allocates-remove h.key u c) ∙ h.allocates))

module _ {V : Type 0} where
  -- what holds after the walk
  pub remaining-few : (es ds : List (List ℕ × V)) (xs : List (V × Fate)) → ds ≡ remaining_pairs es xs → length ds ≤
      length es
  remaining-few es ds xs h = omega (arith, ap length h, remaining-length es xs)

  pub remaining-short : (es ds : List (List ℕ × V)) (xs : List (V × Fate)) → ds ≡ remaining_pairs es xs
      → longest_key ds ≤ longest_key es
  remaining-short es ds xs h = omega (arith, ap longest_key h, remaining-longest es xs)
