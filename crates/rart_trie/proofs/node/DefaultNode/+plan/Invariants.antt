use Rattle.std.proofs.Common.{length}
use Rattle.rart_trie.specs.ranges.Parts.{is_in_part}
use Rattle.rart_trie.specs.storages.Stored.{child_entries}
use Rattle.rart_trie.specs.walks.Walks.{to_come}
use Rattle.rart_trie.proofs.splits.PlanSteps.{Planning}
use Rattle.rart_trie.proofs.node.DefaultNode.+plan.Given as goal

abbrev pub decreases-plan : goal.decreases-plan
decreases-plan g l = goal.size-plan g l

abbrev pub invariant-loop-byte : goal.invariant-loop-byte
invariant-loop-byte g l = record {
  planning : Planning (is_in_part l.within) (child_entries l.self-inside.storage) (to_come l.children) l.inside
      l.outside l.steps.items l.fn.steps.items;
}

abbrev pub decreases-loop-byte : goal.decreases-loop-byte
decreases-loop-byte g l = length (to_come l.children)
