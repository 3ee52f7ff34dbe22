use Rattle.std.proofs.Common.{rules, ◌≡◌, ◌∷◌, sym, ◌∙◌, arith}
use Rattle.std.specs.Slice.Iter.{iter_rest}
use Rattle.rart_trie.specs.walks.Walk.{joined_bytes}
use Rattle.rart_nodes.specs.walks.PathParts.{lent_segments}
use Rattle.rart_nodes.proofs.walks.SegmentLemmas.{cmp-short, segment-apart, segment-same}
use Rattle.rart_nodes.proofs.node.view.LendingKeyView.cmp_slice.Goals as goal

pub returns-then-left-segment : goal.returns-then-left-segment
returns-then-left-segment c =
    let e : iter_rest c.loop-segment.segments ≡ c.in-Some.segment.now ∷ iter_rest c.next.new.self = search rules in
    let i = rw e at c.loop-segment.invariant in
    c.cmp.ensures ∙ sym (cmp-short c.in-Some.segment.now.now (joined_bytes (lent_segments (iter_rest c.next.new.self)))
    c.loop-segment.left.now c.if-left-segment.true) ∙ i.2

pub returns-in_default-cmp : goal.returns-in_default-cmp
returns-in_default-cmp c =
    let e : iter_rest c.loop-segment.segments ≡ c.in-Some.segment.now ∷ iter_rest c.next.new.self = search rules in
    let i = rw e at c.loop-segment.invariant in
    sym (segment-apart c.in-Some.segment.now.now (joined_bytes (lent_segments (iter_rest c.next.new.self)))
    c.loop-segment.left.now _ _ (omega (arith, c.if-left-segment.false)) c.split_at.ensures.front
    c.cmp-in-Some.ensures c.in_default-cmp.not-Equal) ∙ i.2

pub loop-segment-preserved : goal.loop-segment-preserved
loop-segment-preserved c =
    let e : iter_rest c.loop-segment.segments ≡ c.in-Some.segment.now ∷ iter_rest c.next.new.self = search rules in
    let i = rw e at c.loop-segment.invariant in (
      tt,
      tt,
      sym (segment-same c.in-Some.segment.now.now (joined_bytes (lent_segments (iter_rest c.next.new.self)))
          c.loop-segment.left.now _ _ _ (omega (arith, c.if-left-segment.false)) c.split_at.ensures.front
          c.split_at.ensures.back c.cmp-in-Some.ensures c.in-Equal.is) ∙ i.2,
    )
