-- Why an insertion stops at a node, from why it stopped at a child; and by the pairs.
use Rattle.std.proofs.Common.{ℕ, Bool, List, Option, sym, ◌∙◌}
use Rattle.rart_trie.specs.edits.InsertStops.{FailsPut, FailsInsertInto, FailsInsert}
use Rattle.rart_trie.specs.tries.Trie.{Trie, node, IsCanonical, pairs_of}
use Rattle.rart_trie.specs.tries.TrieCode.{as_children}
use Rattle.rart_trie.specs.declared.node.edits.insert.InsertStop.{InsertStop}
use Rattle.rart_trie.specs.declared.node.edits.insert.InsertStop.TheVariants as stop
use Rattle.rart_trie.specs.declared.refused.NotInserted.{NotInserted}
use Rattle.rart_trie.specs.declared.refused.NotInserted.TheVariants as not_inserted
use Rattle.rart_trie.proofs.edits.InsertAllocationLemmas.{allocates-insert}
use Rattle.rart_trie.proofs.edits.InsertLemmas.{record-child}
use Rattle.rart_trie.proofs.edits.PutAllocationLemmas.{put_allocation-below}
use Rattle.rart_trie.proofs.shapes.ShapeLemmas.{record_is, new-key}
use Rattle.rart_trie.proofs.tries.NodeCounts.{some-pairs}
use Rattle.rart_trie.proofs.tries.PairLemmas.{lookup-pairs_of}
use Rattle.rart_trie.proofs.tries.RestLemmas.{Follows, trie_lookup-child}

module _ {V : Type 0} {p k r : List ℕ} {v : Option V} {w b : ℕ} {t : Trie V} {es : List (ℕ × Trie V)}
    (f : Follows p k r v w b t es) where
  pub entries-below : (only_new : Bool) (why : InsertStop) → FailsPut only_new r t why
      → FailsPut only_new k (node p v w (as_children es)) why
  entries-below only_new stop.Stored s = (s.0, λ none. s.1 (sym (trie_lookup-child f) ∙ none))
  entries-below only_new stop.Memory s = (put_allocation-below f s.0, record-child f s.1)

module _ {V : Type 0} where
  -- what a trie says, its pairs say
  pub fails-insert : (k : List ℕ) (value : V) (t : Trie V) (why : NotInserted V) → IsCanonical t
      → FailsInsert k value t why → FailsInsertInto k value (pairs_of t) why
  fails-insert k value t (not_inserted.Stored back) c s = (s.0, λ none. s.1 (sym (lookup-pairs_of k t c) ∙ none))
  fails-insert k value t (not_inserted.Refused r) c s =
      let none = sym (record_is k t c) ∙ s.3 in
      (s.0, s.1, (some-pairs t c, new-key k (pairs_of t) none, none, sym (allocates-insert k t c) ∙ s.2))
