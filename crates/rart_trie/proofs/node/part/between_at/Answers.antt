use Rattle.std.proofs.Common.{sym, ◌∙◌}
use Rattle.rart_trie.specs.ranges.LentBounds.{lent_bound}
use Rattle.rart_trie.proofs.ranges.BetweenLemmas.{at-between}
use Rattle.rart_trie.proofs.node.part.between_at.Goals as goal

pub returns : goal.returns
returns c = λ k f. c.part_between.ensures k ∙ sym (at-between (lent_bound c.args.start) (lent_bound c.args.end)
    (lent_bound c.in-Some.low) (lent_bound c.in-Some-at_child.high) c.args.byte k f c.in-Some.ensures
    c.in-Some-at_child.ensures)
