use Rattle.std.proofs.Common.{◌≡◌, arith, sym, ◌∙◌, ap, Some}
use Rattle.rart_keys.specs.ByteStrings.{strip_prefix}
use Rattle.rart_trie.specs.walks.ProbeCount.{tree_entered}
use Rattle.rart_trie.specs.tries.Tree.{tree_lookup}
use Rattle.rart_trie.specs.tries.Trie.{prefix_of}
use Rattle.rart_trie.proofs.tries.StepLemmas.{step-on, next-falls}
use Rattle.rart_nodes.proofs.node.seen.Seen.descend.Goals as goal

pub loop-next-smaller : goal.loop-next-smaller
loop-next-smaller g c = next-falls _ _ _ _ _ _ c.in-Some.is c.enter-at.ensures.shown c.child-next.ensures

pub loop-next-preserved : goal.loop-next-preserved
loop-next-preserved g c =
    let t = c.enter-at.result.node.now in
    let rest : Some c.in-Some-strip_prefix.after.now ≡ strip_prefix (prefix_of t) c.loop-next.rest.now
    = rw c.prefix.ensures at c.in-Some-strip_prefix.ensures in
    let h = step-on t c.loop-next.rest.now c.in-Some-strip_prefix.after.now c.in-Some-first.byte.now
    c.enter-at.result.canonical rest c.in-Some-first.ensures.value in
    record {
      value = ap (tree_lookup c.in-Some-strip_prefix.after.now) c.child-next.ensures ∙ sym h.0
          ∙ rw (c.in-Some.is, ← c.enter-at.ensures.shown) at c.loop-next.invariant.value;
      visits = omega (
        arith,
        h.1,
        ap (tree_entered c.in-Some-strip_prefix.after.now) c.child-next.ensures,
        c.enter-at.ensures.counted,
        rw (c.in-Some.is, ← c.enter-at.ensures.shown) at c.loop-next.invariant.visits,
      );
    }
