use Rattle.std.proofs.Common.{◌∙◌, ◌++◌, ◌∷◌, []}
use Rattle.std.specs.Vec.Iter.{into_iter_steps}
use Rattle.std.proofs.iter.Next.{Yields-more}
use Rattle.rart.proofs.bulks.BulkLawLemmas.{one-refused, vec-begun}
use Rattle.rart.proofs.bulks.ExtensionLemmas.{put-more}
use Rattle.rart.proofs.laws.bulk_loads.inserted_tree.Goals as goal

pub loop-key-preserved-in-Ok : goal.loop-key-preserved-in-Ok
loop-key-preserved-in-Ok g c = put-more g.K.KeyTrait.bytes c.loop-key.yielded (c.in-Some.key, c.in-Some.value) [] _ _
    c.loop-key.invariant c.in-Ok.ensures.inserts.2

pub loop-key-preserved : goal.loop-key-preserved
loop-key-preserved g c = put-more g.K.KeyTrait.bytes c.loop-key.yielded (c.in-Some.key, c.in-Some.value) [] _ _
    c.loop-key.invariant c.in-Ok.ensures.inserts.2

pub returns-in-Err-clause-refused : goal.returns-in-Err-clause-refused
returns-in-Err-clause-refused g c =
    let item : g.row.K.Denot × g.row.V.Denot = (c.in-Some.key, c.in-Some.value) in
    let given = c.into_iter-key-iterator.ensures.into_iter_gives in
    let begun = vec-begun _ c.args.pairs.items given.0 (given.1 ∙ c.args.pairs.ok.0) (c.loop-key.yielded ++ item ∷ [])
    c.next.new.self
    (Yields-more into_iter_steps _ c.loop-key.yielded _ item _ c.loop-key.yielded_by
    (rw c.in-Some.is at c.next.ensures.steps)) in
    one-refused g.K.KeyTrait.bytes c.args.pairs.items c.loop-key.yielded item begun.0 _ c.in-Err.refused.error begun.1
    c.loop-key.invariant c.in-Err.ensures.inserts.1
