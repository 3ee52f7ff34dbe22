use Rattle.std.proofs.Common.{◌≡◌, ◌+◌, ◌≤◌, ◌∙◌, sym, refl, ap, arith, length}
use Rattle.rart_trie.specs.tries.Trie.{prefix_of}
use Rattle.rart_trie.proofs.edits.JoinLemmas.{joins-unbounded, within-most, most-within}
use Rattle.rart_trie.proofs.node.DefaultNode.children_fit.Goals as goal

pub returns-in_default : goal.returns-in_default
returns-in_default g c = (λ _. joins-unbounded _ _ _ (sym c.MAXIMUM_SIZE.ensures ∙ c.in_default.is), λ _. refl)

pub overflow_sub-spare : goal.overflow_sub-spare
overflow_sub-spare g c = rw c.len.ensures
    (within-most _ c.in-Some.most _ (sym c.MAXIMUM_SIZE.ensures ∙ c.in-Some.is)
    (g.met.P.Partial.within c.prefix.result.now))

pub loop-byte-init : goal.loop-byte-init
loop-byte-init g c = record {
  to_all = λ h. rw c.iter-children.ensures.children at h;
  of_all
      = λ h. rw (sym c.iter-children.ensures.children) at h;
}

pub loop-byte-init-derived : goal.loop-byte-init-derived
loop-byte-init-derived g c = (tt, tt)

pub loop-byte-preserved : goal.loop-byte-preserved
loop-byte-preserved g c =
    let maximum = sym c.MAXIMUM_SIZE.ensures ∙ c.in-Some.is in
    let own : g.P.Partial.bytes c.prefix.result.now ≡ prefix_of c.args.self.now = c.prefix.ensures in
    let lengths : length (prefix_of c.args.self.now) + length (prefix_of c.in-Some-next.child.now) ≤ c.in-Some.most
    = omega (
      arith,
      ap length own,
      c.len.ensures,
      c.len-in-Some-next.ensures,
      ap length c.prefix-in-Some-next.ensures,
      c.if-len-spare.false,
      within-most _ c.in-Some.most _ maximum (g.met.P.Partial.within c.prefix.result.now),
    ) in
    record {
      to_all = λ h. c.loop-byte.invariant.to_all
          (rw c.in-Some-next.ensures.steps (most-within _ c.in-Some.most _ maximum lengths, h));
      of_all = λ h. (rw c.in-Some-next.ensures.steps at c.loop-byte.invariant.of_all h).1;
    }

pub returns-then-len-spare : goal.returns-then-len-spare
returns-then-len-spare g c =
    let maximum = sym c.MAXIMUM_SIZE.ensures ∙ c.in-Some.is in
    let own : g.P.Partial.bytes c.prefix.result.now ≡ prefix_of c.args.self.now = c.prefix.ensures in (
      λ t. absurd (cc),
      λ h. absurd (omega (
        arith,
        ap length own,
        c.len.ensures,
        c.len-in-Some-next.ensures,
        ap length c.prefix-in-Some-next.ensures,
        c.if-len-spare.true,
        within-most _ c.in-Some.most _ maximum
            (rw c.in-Some-next.ensures.steps at c.loop-byte.invariant.of_all h).0,
      )),
    )

pub returns : goal.returns
returns g c = (λ _. c.loop-byte.invariant.to_all (rw c.in_default-next.ensures.steps.0 tt), λ _. refl)
