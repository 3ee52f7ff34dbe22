use Rattle.std.proofs.Common.{◌≡◌, ◌∙◌, ap, arith, nat_eq, refl, rules, true}
use Rattle.std.specs.Cmp.Lexicographic.{pointwise}
use Rattle.rart_nodes.specs.tries.Equal.{same_tries, same_value}
use Rattle.rart_trie.specs.tries.Trie.{child, prefix_of, value_of}
use Rattle.rart_trie.specs.tries.TrieCode.{node_count}
use Rattle.rart_nodes.proofs.joins.AlignmentLemmas.{counted-next, fewer-below, fewer-left}
use Rattle.rart_nodes.proofs.joins.EqualLemmas.{end-together, next-differ}
use Rattle.rart_nodes.proofs.node.equal.+same_nodes.Goals as goal

pub loop-byte-smaller : goal.loop-byte-smaller
loop-byte-smaller g t c = fewer-left _ _ _ _ c.in-Some.ensures

pub returns-clause-value : goal.returns-clause-value
returns-clause-value g t c =
    let prefixes : pointwise nat_eq (prefix_of c.args.left.node.now) (prefix_of c.args.right.node.now) ≡ true
    = search rules in
    let values : same_value g.V.PartialEq.eq (value_of c.args.left.node.now) (value_of c.args.right.node.now) ≡ true
    = search rules in
    end-together g.V.PartialEq.eq c.args.left.node.now c.args.right.node.now _ _ _ _ _
    (λ e. child e.0 e.1.node.now c.next_child-2.new.self) prefixes values c.loop-byte.invariant.same
    c.in_default.ensures.0 c.is_none.ensures c.next_child-2.ensures (λ e. refl)

pub same_nodes-requires : goal.same_nodes-requires
same_nodes-requires g t c κs within =
    let fewer = fewer-below c.args.left.node.now _ _ _ _ c.in-Some.ensures c.loop-byte.invariant.within in
    (omega (arith, c.decreases, fewer, ap node_count c.enter_pair.ensures.left), within)

pub returns-then-not-same_nodes-clause-value : goal.returns-then-not-same_nodes-clause-value
returns-then-not-same_nodes-clause-value g t c =
    let differ = c.if-not-same_nodes.ensures.value
    ∙ ap (λ z. same_tries g.V.PartialEq.eq z c.enter_pair.result.1.node.now) c.enter_pair.ensures.left
    ∙ ap (λ z. same_tries g.V.PartialEq.eq c.in-Some.child.node.now z) c.enter_pair.ensures.right in
    next-differ g.V.PartialEq.eq c.args.left.node.now c.args.right.node.now _ c.loop-byte.invariant.same
    c.in-Some.ensures c.in-Some-next_child.ensures differ

pub returns-then-not-same_nodes-clause-left_visits : goal.returns-then-not-same_nodes-clause-left_visits
returns-then-not-same_nodes-clause-left_visits g t c =
    counted-next c.args.left.node.now _ _ _ _ _ _ _ c.in-Some.ensures c.loop-byte.invariant.left (omega (
      arith,
      c.if-not-same_nodes.ensures.left_visits,
      c.enter_pair.ensures.counted,
      ap node_count c.enter_pair.ensures.left,
    ))

pub returns-then-not-same_nodes-clause-right_visits : goal.returns-then-not-same_nodes-clause-right_visits
returns-then-not-same_nodes-clause-right_visits g t c =
    counted-next c.args.right.node.now _ _ _ _ _ _ _ c.in-Some-next_child.ensures c.loop-byte.invariant.right (omega (
      arith,
      c.if-not-same_nodes.ensures.right_visits,
      c.enter_pair.ensures.counted,
      ap node_count c.enter_pair.ensures.right,
    ))
