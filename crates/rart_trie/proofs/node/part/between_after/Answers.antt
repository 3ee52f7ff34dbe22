use Rattle.std.proofs.Common.{sym, ◌∙◌}
use Rattle.rart_trie.specs.ranges.LentBounds.{lent_bound}
use Rattle.rart_trie.proofs.ranges.BetweenLemmas.{past-between, past-end, past-start}
use Rattle.rart_trie.proofs.node.part.between_after.Goals as goal

pub returns-in_default : goal.returns-in_default
returns-in_default g c = λ k. sym (past-start (lent_bound c.args.start) (lent_bound c.args.end)
    (g.P.Partial.bytes c.args.prefix.now) k (sym c.in_default.ensures))

pub returns-in_default-after_prefix : goal.returns-in_default-after_prefix
returns-in_default-after_prefix g c = λ k. sym (past-end (lent_bound c.args.start) (lent_bound c.args.end)
    (g.P.Partial.bytes c.args.prefix.now) k (sym c.in_default-after_prefix.ensures))

pub returns : goal.returns
returns g c = λ k. c.part_between.ensures k ∙ sym (past-between (lent_bound c.args.start) (lent_bound c.args.end)
    (lent_bound c.in-Some.low) (lent_bound c.in-Some-after_prefix.high) (g.P.Partial.bytes c.args.prefix.now) k
    (sym c.in-Some.ensures) (sym c.in-Some-after_prefix.ensures))
