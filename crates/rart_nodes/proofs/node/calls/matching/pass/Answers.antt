use Rattle.std.proofs.Common.{◌≡◌, ◌-◌, List, ℕ, length, take, drop, Some, refl}
use Rattle.rart_keys.specs.ByteStrings.{strip_prefix}
use Rattle.rart_trie.specs.tries.Trie.{prefix_of}
use Rattle.rart_trie.proofs.tries.PrefixedStrings.{slice_from-is}
use Rattle.rart_nodes.proofs.walks.MatchLemmas.{pass-ended, pass-on, rest-fits}
use Rattle.rart_nodes.proofs.node.calls.matching.pass.Goals as goal

pub overflow_sub-passed : goal.overflow_sub-passed
overflow_sub-passed g c = rest-fits _ c.args.probe.now _ _ c.args.depth (slice_from-is c.args.probe.now c.args.depth)
    c.in_ok-rest.ensures

pub returns-in_default : goal.returns-in_default
returns-in_default g c =
    let k : List ℕ = take (length c.args.probe.now - c.args.depth) (drop c.args.depth c.args.probe.now) in
    let e : Some c.in_ok-rest.rest.now ≡ strip_prefix (prefix_of c.args.at.node.now) k
    = rw c.prefix.ensures at c.in_ok-rest.ensures in
    pass-ended c.args.at.node.now c.args.probe.now k _ c.args.depth _ c.requires
    (slice_from-is c.args.probe.now c.args.depth) e refl c.in_default.ensures.value

pub returns : goal.returns
returns g c =
    let k : List ℕ = take (length c.args.probe.now - c.args.depth) (drop c.args.depth c.args.probe.now) in
    let e : Some c.in_ok-rest.rest.now ≡ strip_prefix (prefix_of c.args.at.node.now) k
    = rw c.prefix.ensures at c.in_ok-rest.ensures in
    pass-on c.args.at.node.now c.args.probe.now k _ c.in-Some.byte.now c.args.depth _ _ c.args.at.canonical c.requires
    (slice_from-is c.args.probe.now c.args.depth) e refl c.in-Some.ensures.value c.child.ensures
