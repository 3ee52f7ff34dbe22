use Rattle.std.proofs.Common.{◌≡◌, ℕ, ◌+◌, List, [], ◌∷◌, ◌++◌, length, length-append, ap, arith, sym, ◌∙◌}
use Rattle.rart_keys.specs.SortedMap.{longest_key}
use Rattle.rart_trie.specs.tries.Trie.{pairs_of, prefix_of}
use Rattle.rart_trie.specs.tries.TrieCode.{node_count}
use Rattle.rart_nodes.proofs.joins.AlignmentLemmas.{nil-when, some-when, place-start, place-common, place-parted}
use Rattle.rart_nodes.proofs.joins.AlignmentLemmas.{place-left_none, place-right_none, place-left, place-right}
use Rattle.rart_nodes.proofs.joins.AlignmentLemmas.{place-aligned, place-equal, Aligned, Step}
use Rattle.rart_nodes.proofs.joins.JoinPathLemmas.{path-stays, path-on}
use Rattle.rart_nodes.specs.joins.Visitors.{path-reserved}
use Rattle.rart_nodes.proofs.node.intersect.aligned.next_aligned.Given.{Over}
use Rattle.rart_nodes.proofs.node.intersect.aligned.next_aligned.Goals.{In-Some-enter_after, In-Some-enter_other_after}
use Rattle.rart_nodes.proofs.node.intersect.aligned.next_aligned.Goals.{Then-same_prefixes}
use Rattle.rart_nodes.proofs.node.intersect.aligned.next_aligned.Goals as goal

-- the prefixes are equal
whole : (g : Over) (c : Then-same_prefixes g) (l : List ℕ) → l ≡ prefix_of c.args.left.node.now
    → Aligned c.args.left.node.now c.args.right.node.now l c.args.left.node.now c.args.right.node.now
    (g.C.Count.number c.args.counter.now) (g.C.Count.number c.args.counter.now)
whole g c l e = place-equal c.args.left.node.now c.args.right.node.now l _ c.args.left.canonical e
    (sym c.prefix.ensures ∙ c.same_prefixes.ensures.0 c.if-same_prefixes.true ∙ c.prefix-2.ensures)

pub grow-requires : goal.grow-requires
grow-requires g c =
    let end = whole g (goal.at.grow-requires g c).Then-same_prefixes c.to_slice.result.now
    (c.to_slice.ensures ∙ c.prefix-then-same_prefixes.ensures) in
    path-reserved _ _ [] (longest_key (pairs_of c.args.left.node.now)) (length c.to_slice.result.now) (path-stays _)
    c.requires (omega (arith, end.aligned.short))

pub returns-then-same_prefixes : goal.returns-then-same_prefixes
returns-then-same_prefixes g c =
    let end = whole g (goal.at.returns-then-same_prefixes g c).Then-same_prefixes c.to_slice.result.now
    (c.to_slice.ensures ∙ c.prefix-then-same_prefixes.ensures) in
    record { aligned = (c.to_slice.result.now, c.grow.ensures, end.aligned); visits = end.visits }

pub loop-byte-init : goal.loop-byte-init
loop-byte-init g c = (
  [],
  path-stays _,
  place-start _ _ _ _ _ c.args.left.canonical (c.to_slice-left_rest.ensures ∙ c.prefix-3.ensures)
      (c.to_slice-right_rest.ensures ∙ c.prefix-4.ensures),
)

pub grow-requires-in-loop-byte : goal.grow-requires-in-loop-byte
grow-requires-in-loop-byte g c =
    let inv = c.loop-byte.invariant in
    path-reserved _ _ inv.0 (longest_key (pairs_of c.args.left.node.now)) (length c.part.result.0.now) inv.1 c.requires
    (omega (
      arith,
      inv.2.short,
      ap length c.part.ensures.left_is,
      length-append c.part.result.0.now
          c.part.result.1.now,
    ))

-- both prefixes end
pub returns-in_default : goal.returns-in_default
returns-in_default g c =
    let inv = c.loop-byte.invariant in
    let end = place-aligned c.loop-byte.left.canonical c.in-None.ensures c.in_default.ensures
    (place-common _ c.part.ensures.left_is c.part.ensures.right_is inv.2) in
    record {
      aligned = (inv.0 ++ c.part.result.0.now, path-on _ _ _ inv.0 _ inv.1 c.grow-in-loop-byte.ensures, end.aligned);
      visits = end.visits;
    }

-- the left prefix ends first
pub returns-in_default-enter_after : goal.returns-in_default-enter_after
returns-in_default-enter_after g c =
    let inv = c.loop-byte.invariant in
    let end = place-left_none _ _ _ _ _ _ c.in-Some-next_byte.byte c.loop-byte.left.node.now _ _ _
    c.loop-byte.left.canonical c.in-None.ensures c.in-Some-next_byte.ensures.0 c.in_default-enter_after.ensures.shown
    (place-common _ c.part.ensures.left_is c.part.ensures.right_is inv.2) in
    record {
      aligned = (inv.0 ++ c.part.result.0.now, path-on _ _ _ inv.0 _ inv.1 c.grow-in-loop-byte.ensures, end.given);
      visits = omega (arith, end.visits, c.in_default-enter_after.ensures.counted);
    }

left-on : (g : Over) (c : In-Some-enter_after g) → Step c.args.left.node.now c.args.right.node.now
    ((c.loop-byte.invariant.0 ++ c.part.result.0.now) ++ c.in-Some-next_byte.byte ∷ [])
    c.in-Some-enter_after.child.node.now c.in-Some-enter_after.rest.now c.loop-byte.right.node.now
    c.in-Some-next_byte.after.now (g.C.Count.number c.loop-byte.counter + 1) (g.C.Count.number c.args.counter.now)
    (node_count c.loop-byte.left.node.now + node_count c.loop-byte.right.node.now)
left-on g c = place-left c.loop-byte.left.canonical c.in-Some-enter_after.child.canonical
    c.in-None.ensures c.in-Some-next_byte.ensures.0 c.in-Some-enter_after.ensures.shown.0
    c.in-Some-enter_after.ensures.shown.2
    (place-common _ c.part.ensures.left_is c.part.ensures.right_is c.loop-byte.invariant.2)

pub grow-requires-in-None : goal.grow-requires-in-None
grow-requires-in-None g c =
    let inv = c.loop-byte.invariant in
    let step = left-on g (goal.at.grow-requires-in-None g c).In-Some-enter_after in
    path-reserved _ _ (inv.0 ++ c.part.result.0.now) (longest_key (pairs_of c.args.left.node.now))
    (length c.in-Some-enter_after.edge.now) (path-on _ _ _ inv.0 _ inv.1 c.grow-in-loop-byte.ensures) c.requires
    (omega (
      arith,
      step.place.short,
      length-append (inv.0 ++ c.part.result.0.now) (c.in-Some-next_byte.byte ∷ []),
      ap length c.in-Some-enter_after.ensures.shown.1,
    ))

pub loop-byte-smaller-in-None : goal.loop-byte-smaller-in-None
loop-byte-smaller-in-None g c = (left-on g (goal.at.loop-byte-smaller-in-None g c).In-Some-enter_after).falls

pub loop-byte-preserved-in-None : goal.loop-byte-preserved-in-None
loop-byte-preserved-in-None g c =
    let inv = c.loop-byte.invariant in (
      (inv.0 ++ c.part.result.0.now) ++ c.in-Some-enter_after.edge.now,
      path-on _ _ _ (inv.0 ++ c.part.result.0.now) _ (path-on _ _ _ inv.0 _ inv.1 c.grow-in-loop-byte.ensures)
          c.grow-in-None.ensures,
      rw (c.in-Some-enter_after.ensures.shown.1, c.in-Some-enter_after.ensures.counted)
          (left-on g (goal.at.loop-byte-preserved-in-None g c).In-Some-enter_after).place,
    )

-- they part
pub returns-then-not-is_empty : goal.returns-then-not-is_empty
returns-then-not-is_empty g c =
    let inv = c.loop-byte.invariant in
    let end = place-parted c.in-Some.ensures.0
    (some-when _ _ c.is_empty.ensures c.if-not-is_empty.true) c.part.ensures.apart
    (place-common _ c.part.ensures.left_is c.part.ensures.right_is inv.2) in
    record {
      aligned = (inv.0 ++ c.part.result.0.now, path-on _ _ _ inv.0 _ inv.1 c.grow-in-loop-byte.ensures, end.given);
      visits = end.visits;
    }

-- the right prefix ends first
pub returns-in_default-enter_other_after : goal.returns-in_default-enter_other_after
returns-in_default-enter_other_after g c =
    let inv = c.loop-byte.invariant in
    let end = place-right_none _ _ _ _ _ _ c.in-Some.byte _ c.loop-byte.right.node.now _ _
    c.loop-byte.right.canonical c.in-Some.ensures.0 (nil-when _ _ c.is_empty.ensures c.if-not-is_empty.false)
    c.in_default-enter_other_after.ensures.shown
    (place-common _ c.part.ensures.left_is c.part.ensures.right_is inv.2) in
    record {
      aligned = (inv.0 ++ c.part.result.0.now, path-on _ _ _ inv.0 _ inv.1 c.grow-in-loop-byte.ensures, end.given);
      visits = omega (arith, end.visits, c.in_default-enter_other_after.ensures.counted);
    }

right-on : (g : Over) (c : In-Some-enter_other_after g) → Step c.args.left.node.now c.args.right.node.now
    ((c.loop-byte.invariant.0 ++ c.part.result.0.now) ++ c.in-Some.byte ∷ [])
    c.loop-byte.left.node.now c.in-Some.after.now c.in-Some-enter_other_after.child.node.now
    c.in-Some-enter_other_after.rest.now (g.C.Count.number c.loop-byte.counter + 1)
    (g.C.Count.number c.args.counter.now)
    (node_count c.loop-byte.left.node.now + node_count c.loop-byte.right.node.now)
right-on g c = place-right c.loop-byte.right.canonical c.in-Some.ensures.0
    (nil-when _ _ c.is_empty.ensures c.if-not-is_empty.false) c.in-Some-enter_other_after.ensures.shown.0
    c.in-Some-enter_other_after.ensures.shown.2
    (place-common _ c.part.ensures.left_is c.part.ensures.right_is c.loop-byte.invariant.2)

pub grow-requires-in-Some : goal.grow-requires-in-Some
grow-requires-in-Some g c =
    let inv = c.loop-byte.invariant in
    let step = right-on g (goal.at.grow-requires-in-Some g c).In-Some-enter_other_after in
    path-reserved _ _ (inv.0 ++ c.part.result.0.now) (longest_key (pairs_of c.args.left.node.now))
    (length c.in-Some.edge.now) (path-on _ _ _ inv.0 _ inv.1 c.grow-in-loop-byte.ensures) c.requires
    (omega (
      arith,
      step.place.short,
      length-append (inv.0 ++ c.part.result.0.now) (c.in-Some.byte ∷ []),
      ap length
          c.in-Some.ensures.1,
    ))

pub loop-byte-smaller : goal.loop-byte-smaller
loop-byte-smaller g c = (right-on g (goal.at.loop-byte-smaller g c).In-Some-enter_other_after).falls

pub loop-byte-preserved : goal.loop-byte-preserved
loop-byte-preserved g c =
    let inv = c.loop-byte.invariant in (
      (inv.0 ++ c.part.result.0.now) ++ c.in-Some.edge.now,
      path-on _ _ _ (inv.0 ++ c.part.result.0.now) _ (path-on _ _ _ inv.0 _ inv.1 c.grow-in-loop-byte.ensures)
          c.grow-in-Some.ensures,
      rw (c.in-Some.ensures.1, c.in-Some-enter_other_after.ensures.counted)
          (right-on g (goal.at.loop-byte-preserved g c).In-Some-enter_other_after).place,
    )
