use Rattle.std.proofs.Common.{◌≡◌, ◌∙◌, None, Some, ap, refl, sym}
use Rattle.std.specs.Cmp.Lexicographic.{slice_cmp}
use Rattle.std.specs.Ordering.{nat_cmp}
use Rattle.rart_keys.specs.ByteStrings.{strip_prefix}
use Rattle.rart_keys.proofs.maps.RangeLemmas.{lower-apart}
use Rattle.rart_nodes.specs.ranges.Steps.{in_child}
use Rattle.rart_trie.specs.tries.Trie.{prefix_of}
use Rattle.rart_nodes.proofs.node.path_walk.ascending.seek_start.step_from.Goals as goal

pub returns-in_default : goal.returns-in_default
returns-in_default g c =
    let q = prefix_of c.args.at.node.now in
    let s = c.args.start.now in
    let apart : None ≡ strip_prefix q s = rw c.prefix-prefix.ensures at c.in_default.ensures in
    let compared : c.cmp.result ≡ slice_cmp nat_cmp q s
    = c.cmp.ensures ∙ ap (λ z. slice_cmp nat_cmp z s) (c.to_slice.ensures ∙ c.prefix-prefix.ensures) in
    (sym apart, lower-apart q s (sym apart) (λ z. c.in_default-cmp.not-Greater (compared ∙ z)))

pub returns : goal.returns
returns g c =
    let t = c.args.at.node.now in
    let rest : Some c.in-Some.rest.now ≡ strip_prefix (prefix_of t) c.args.start.now
    = rw c.prefix-prefix.ensures at c.in-Some.ensures in
    in_child c.in-Some-first.byte.now (sym rest) (sym c.in-Some-first.ensures.value) refl refl c.child.ensures
