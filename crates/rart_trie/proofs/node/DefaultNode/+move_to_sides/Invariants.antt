use Rattle.std.proofs.Common.{◌≡◌, Bool, ℕ, List, ◌∷◌, length}
use Rattle.std.specs.Prelude.{reverse}
use Rattle.rart_trie.specs.declared.node.edits.split.Step.TheVariants.{Split}
use Rattle.rart_trie.specs.edits.Splits.{SplitsBy}
use Rattle.rart_trie.specs.storages.Stored.{child_entries, stored_prefix}
use Rattle.rart_trie.specs.tries.Trie.{prefix_of}
use Rattle.rart_trie.proofs.splits.SideSteps.{Moving}
use Rattle.rart_trie.proofs.node.DefaultNode.+move_to_sides.Given as goal

abbrev pub decreases-move_to_sides : goal.decreases-move_to_sides
decreases-move_to_sides g l = goal.size-move_to_sides g l

abbrev pub invariant-loop-byte : goal.invariant-loop-byte
invariant-loop-byte g l = record {
  prefix : g.P.Partial.bytes (stored_prefix l.self-inside.storage) ≡ prefix_of l.fn.self;
  moving : (t : List ℕ → Bool) (rest : List _)
      → SplitsBy t l.fn.self (Split l.fn.sides ∷ reverse l.fn.steps.items) rest
      → Moving t l.fn.self rest (child_entries l.self-inside.storage) (reverse l.steps.items) l.sides;
}

abbrev pub decreases-loop-byte : goal.decreases-loop-byte
decreases-loop-byte g l = length (child_entries l.self-inside.storage)
