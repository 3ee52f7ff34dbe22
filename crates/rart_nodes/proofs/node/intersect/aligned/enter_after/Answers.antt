use Rattle.std.proofs.Common.{◌≡◌, rules, Some, sym, ◌∙◌}
use Rattle.rart_trie.specs.tries.Trie.{child_in}
use Rattle.rart_nodes.proofs.joins.AlignmentLemmas.{child-starts}
use Rattle.rart_nodes.proofs.node.intersect.aligned.enter_after.Goals as goal

pub unreachable-requires : goal.unreachable-requires
unreachable-requires g c =
    let there : child_in c.args.byte c.args.at.node.now ≡ Some c.enter-child.result.node.now = search rules in
    let starts = child-starts c.args.byte c.args.at.node.now c.enter-child.result.node.now c.to_slice.result.now
    c.args.at.canonical there (c.to_slice.ensures ∙ c.prefix.ensures) in
    absurd (cc (starts, c.in_default.ensures))

pub returns-clause-shown : goal.returns-clause-shown
returns-clause-shown g c =
    let there : child_in c.args.byte c.args.at.node.now ≡ Some c.enter-child.result.node.now = search rules in
    let starts = child-starts c.args.byte c.args.at.node.now c.enter-child.result.node.now c.to_slice.result.now
    c.args.at.canonical there (c.to_slice.ensures ∙ c.prefix.ensures) in
    let whole = sym (c.to_slice.ensures ∙ c.prefix.ensures) ∙ c.in-Some.ensures.0 in
    let same : c.in-Some.field-0-0 ≡ c.args.byte = cc (starts, c.in-Some.ensures.0) in
    (there, rw (← same) c.in-Some.ensures.1, rw (← same) whole)
