use Rattle.std.proofs.Common.{◌∙◌, sym}
use Rattle.rart_trie.proofs.removals.PrefixSteps.{below-whole, without_prefix-whole}
use Rattle.rart_trie.proofs.node.DefaultNode.take_prefix_from.Goals as goal

pub returns-clause-ok : goal.returns-clause-ok
returns-clause-ok g c = rw c.in-Some.is (c.take.ensures.after
    ∙ without_prefix-whole c.args.prefix.now _ (sym c.is_below.ensures.value ∙ c.if-not-is_below.false))

pub returns-clause-taken : goal.returns-clause-taken
returns-clause-taken g c = c.take.ensures.value ∙ rw c.in-Some.is
    (sym (below-whole c.args.prefix.now _ (sym c.is_below.ensures.value ∙ c.if-not-is_below.false)))
