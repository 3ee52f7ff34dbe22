use Rattle.std.proofs.Common.{◌∙◌, sym}
use Rattle.std.proofs.lemmas.Result.{on_err_weaker}
use Rattle.rart_trie.proofs.removals.RemoveAllocationLemmas.{allocates-remove}
use Rattle.rart_trie.proofs.node.DefaultNode.take_from.Goals as goal

pub returns-then-not-is_leaf_at-clause-allocates : goal.returns-then-not-is_leaf_at-clause-allocates
returns-then-not-is_leaf_at-clause-allocates g c =
    let canonical = rw c.in-Some.is at c.requires.canonical in
    rw c.in-Some.is (on_err_weaker c.remove_below.result
    (λ a. (sym (allocates-remove c.args.key.now _ canonical) ∙ a.0, a.1)) c.remove_below.ensures.allocates)
