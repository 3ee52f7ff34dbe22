use Rattle.std.proofs.Common.{subst, sym, ◌∙◌, [], ◌∷◌}
use Rattle.std.proofs.lemmas.List.{append-nil}
use Rattle.rart_nodes.specs.joins.TriedPairs.{AnsweredAt, TakesPairAt, TriesEach}
use Rattle.rart_nodes.proofs.node.intersect.visitor.ByTriedKeysVisitorResultUnit.give.Goals as goal

pub try_with_key-requires-clause-callable : goal.try_with_key-requires-clause-callable
try_with_key-requires-clause-callable g c
    = subst (λ k. TakesPairAt g.F.FnMut g.K.KeyTrait.bytes c.args.f.now (k, (c.args.left.now, c.args.right.now)))
    (append-nil c.in-Bytes.bytes.items ∙ sym c.as_slice.ensures.value) (rw c.in-Bytes.is at c.requires.callable)

pub returns : goal.returns
returns g c =
    let called = subst (λ k. TriesEach (λ p x a q. AnsweredAt g.F.FnMut g.K.KeyTrait.bytes p x a q) c.args.f.now
    ((k, (c.args.left.now, c.args.right.now)) ∷ []) c.try_with_key.result c.try_with_key.new.f)
    (c.as_slice.ensures.value ∙ sym (append-nil c.in-Bytes.bytes.items)) c.try_with_key.ensures in
    record { calls = rw c.in-Bytes.is called }
