use Rattle.std.proofs.Common.{◌≡◌, ◌∙◌, ◌++◌, ap, arith, length, length-append, refl, sym, Some}
use Rattle.rart_trie.specs.tries.Trie.{prefix_of}
use Rattle.rart_trie.proofs.tries.EndLemmas.{end-falls}
use Rattle.rart_nodes.proofs.ranges.EndPaths.{PathAfter, PathEnd, path-end, path-fits, path-start, path-step}
use Rattle.rart_nodes.proofs.node.ends.end_below.Given.{Over}
use Rattle.rart_nodes.proofs.node.ends.end_below.Goals.{In_default}
use Rattle.rart_nodes.proofs.node.ends.end_below.Goals as goal

-- the path after the prefix of the first node
pub partial_extended_with-path-requires : goal.partial_extended_with-path-requires
partial_extended_with-path-requires g c =
    let k = g.P.Partial.bytes c.args.start in
    let t = c.enter-at.result.node.now in
    let from : PathAfter k c.args.end c.args.top.node.now _ (k ++ prefix_of t) t _
    = path-start k c.args.end _ t _ _ _ c.enter-at.result.canonical c.enter-at.ensures.shown refl
    c.enter-at.ensures.counted in
    path-fits _ k c.args.end _ t _ _ _ _ from c.requires.within
    (omega (arith, length-append k (prefix_of t), ap length c.prefix.ensures))

pub loop-child-init : goal.loop-child-init
loop-child-init g c = path-start _ c.args.end _ c.enter-at.result.node.now _ _ _ c.enter-at.result.canonical
    c.enter-at.ensures.shown (c.partial_extended_with-path.ensures
    ∙ ap (λ p. g.P.Partial.bytes c.args.start ++ p) c.prefix.ensures) c.enter-at.ensures.counted

pub partial_extended_with-path-requires-in-Some : goal.partial_extended_with-path-requires-in-Some
partial_extended_with-path-requires-in-Some g c =
    let k = g.P.Partial.bytes c.args.start in
    let child = c.in-Some.child.node.now in
    let path = g.P.Partial.bytes c.loop-child.path in
    let on : PathAfter k c.args.end c.args.top.node.now _ (path ++ prefix_of child) child _
    = path-step k c.args.end _ _ child _ _ _ path _ c.loop-child.at.canonical c.loop-child.invariant
    (sym c.in-Some.ensures) refl refl in
    path-fits _ k c.args.end _ child _ _ _ _ on c.requires.within (omega (
      arith,
      length-append path (prefix_of child),
      ap length c.prefix-in-Some.ensures,
      ap (λ t. length (prefix_of t)) c.enter-at-in-Some.ensures.shown,
    ))

pub loop-child-smaller : goal.loop-child-smaller
loop-child-smaller g c = rw c.enter-at-in-Some.ensures.shown
    (end-falls c.args.end c.loop-child.at.node.now c.in-Some.child.node.now c.loop-child.at.canonical
    (sym c.in-Some.ensures))

pub loop-child-preserved : goal.loop-child-preserved
loop-child-preserved g c = path-step _ c.args.end _ c.loop-child.at.node.now c.enter-at-in-Some.result.node.now _ _ _
    (g.P.Partial.bytes c.loop-child.path) _ c.loop-child.at.canonical c.loop-child.invariant
    (sym c.in-Some.ensures ∙ ap Some (sym c.enter-at-in-Some.ensures.shown))
    (c.partial_extended_with-path-in-Some.ensures
    ∙ ap (λ p. g.P.Partial.bytes c.loop-child.path ++ p) c.prefix-in-Some.ensures)
    c.enter-at-in-Some.ensures.counted

-- where no child is left
ended : (g : Over) (c : In_default g) → PathEnd (g.P.Partial.bytes c.args.start) c.args.end c.args.top.node.now
    (g.C.Count.number c.args.counter.now) (g.P.Partial.bytes c.loop-child.path) c.loop-child.at.node.now
    (g.C.Count.number c.loop-child.counter)
ended g c = path-end _ c.args.end _ _ _ _ _ c.args.top.canonical c.loop-child.at.canonical c.loop-child.invariant
    (sym c.in_default.ensures)

pub unreachable-requires : goal.unreachable-requires
unreachable-requires g c =
    let end = ended g (goal.at.unreachable-requires g c).In_default in
    let none = c.in_default-value.ensures ∙ end.own in cc

pub returns-clause-pair : goal.returns-clause-pair
returns-clause-pair g c =
    let end = ended g (goal.at.returns-clause-pair g c).In_default in
    let value : Some c.in-Some-value.value.now ≡ Some end.value = c.in-Some-value.ensures ∙ end.own in
    let same : c.in-Some-value.value.now ≡ end.value = cc in
    end.pair ∙ ap (λ v. Some (g.P.Partial.bytes c.loop-child.path, v)) (sym same)

pub returns-clause-visits : goal.returns-clause-visits
returns-clause-visits g c = (ended g (goal.at.returns-clause-visits g c).In_default).visits
