use Rattle.std.proofs.Common.{refl, subst, sym, ◌∙◌}
use Rattle.std.proofs.lemmas.List.{append-nil}
use Rattle.rart_nodes.specs.joins.PairCalls.{CalledAt, TakesAtKey}
use Rattle.rart_nodes.proofs.node.intersect.visitor.ByKeysVisitor.give.Goals as goal

pub call_with_key-requires-clause-callable : goal.call_with_key-requires-clause-callable
call_with_key-requires-clause-callable g c
    = subst (λ k. TakesAtKey g.F.FnMut g.K.KeyTrait.bytes c.args.f.now (k, (c.args.left.now, c.args.right.now)))
    (append-nil c.in-Bytes.bytes.items ∙ sym c.as_slice.ensures.value) (rw c.in-Bytes.is at c.requires.callable)

pub returns : goal.returns
returns g c =
    let called = subst (λ k. CalledAt g.F.FnMut g.K.KeyTrait.bytes c.args.f.now
    (k, (c.args.left.now, c.args.right.now)) c.call_with_key.new.f)
    (c.as_slice.ensures.value ∙ sym (append-nil c.in-Bytes.bytes.items)) c.call_with_key.ensures in
    record { calls = rw c.in-Bytes.is (refl, (c.call_with_key.new.f, called, refl)) }
