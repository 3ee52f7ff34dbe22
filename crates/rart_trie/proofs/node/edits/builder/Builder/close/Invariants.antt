use Rattle.std.proofs.Common.{◌≤◌, ◌++◌, ◌∷◌, [], length}
use Rattle.std.specs.Prelude.{reverse}
use Rattle.rart_trie.specs.build.Built.{built}
use Rattle.rart_trie.specs.build.Spine.{IsClosed, spine_pairs}
use Rattle.rart_trie.proofs.node.edits.builder.Builder.close.Given as goal

abbrev pub invariant-loop-frame : goal.invariant-loop-frame
invariant-loop-frame g l = record {
  closed : IsClosed l.last (reverse l.self.spine.items) l.self.waiting.items l.end (built [] l.storage)
      (spine_pairs l.last (reverse l.fn.self.spine.items) l.fn.self.waiting.items ++ (l.last, l.fn.value) ∷ []);
  low : l.low ≤ l.end;
}

abbrev pub decreases-loop-frame : goal.decreases-loop-frame
decreases-loop-frame g l = length l.self.spine.items
