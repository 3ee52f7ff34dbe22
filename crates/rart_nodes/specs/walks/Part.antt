-- The node at or below a prefix, where it is, with what is kept of the path to it.
use Rattle.std.specs.Prelude.{ℕ, ◌≡◌, List, [], ◌++◌, Option, Some, None, MatchOption, if◌then◌else◌}
use Rattle.rart_keys.specs.ByteStrings.{begins}
use Rattle.rart_keys.specs.declared.partials.Partial.{Ghosts}
use Rattle.rart_nodes.specs.declared.node.seen.Entered.{Entered}
use Rattle.rart_trie.specs.tries.Trie.{Trie, Descent, descend_tree, prefix_of}
use Rattle.rart_trie.specs.walks.Walk.{SegmentList, Grown, segments_after, entries_of}

-- the node, and what is kept of the path to it, without its own prefix, after what was kept before
abbrev pub finds : {V : Type 0} → Grown → Descent V (SegmentList → Option (SegmentList × Trie V))
finds g = record {
  left = λ p t k. if begins p (prefix_of t) then Some (k, t) else None;
  ended = λ t k. Some (k, t);
  absent = λ k. None;
  on = λ t f k. f (k ++ g (prefix_of t));
}

abbrev pub tree_part : {V : Type 0} → Grown → SegmentList → List ℕ → Option (Trie V) → Option (SegmentList × Trie V)
tree_part g k p o = descend_tree (finds g) p o k

-- that node was entered, and the path keeps k' then; or there is none
abbrev pub EntersPart : {P V C : Type 0} {G : Ghosts P} → Grown → SegmentList → List ℕ → Option (Trie V)
    → Option (Entered P V C G) → SegmentList → Type 0
EntersPart g k p o r k' = MatchOption r (tree_part g k p o ≡ None) (λ e. tree_part g k p o ≡ Some (k', e.node.now))

-- the values at and below it, with what is kept of the path to each
abbrev pub part_entries : {V : Type 0} → Grown → Option (SegmentList × Trie V) → List (SegmentList × V)
part_entries g None = []
part_entries g (Some e) = segments_after e.0 (entries_of g e.1)
