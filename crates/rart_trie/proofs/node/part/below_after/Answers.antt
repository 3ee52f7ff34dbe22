use Rattle.std.proofs.Common.{sym, ◌∙◌}
use Rattle.rart_trie.proofs.tries.BelowLemmas.{starts_with-begins}
use Rattle.rart_trie.proofs.tries.PrefixedStrings.{begins-after, begins-apart}
use Rattle.rart_trie.proofs.node.part.below_after.Goals as goal

pub returns-in-Some : goal.returns-in-Some
returns-in-Some g c = λ k. sym (begins-after (g.P.Partial.bytes c.args.prefix.now) c.args.bytes.now
    c.in-Some.rest.now k (sym c.in-Some.ensures))

pub returns-then-starts_with : goal.returns-then-starts_with
returns-then-starts_with g c = λ k. sym (begins-apart (g.P.Partial.bytes c.args.prefix.now) c.args.bytes.now k
    (sym c.in_default.ensures) ∙ sym (starts_with-begins c.args.bytes.now (g.P.Partial.bytes c.args.prefix.now))
    ∙ sym c.starts_with.ensures ∙ c.if-starts_with.true)

pub returns : goal.returns
returns g c = λ k. sym (begins-apart (g.P.Partial.bytes c.args.prefix.now) c.args.bytes.now k
    (sym c.in_default.ensures) ∙ sym (starts_with-begins c.args.bytes.now (g.P.Partial.bytes c.args.prefix.now))
    ∙ sym c.starts_with.ensures ∙ c.if-starts_with.false)
