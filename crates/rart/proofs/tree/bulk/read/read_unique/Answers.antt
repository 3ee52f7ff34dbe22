use Rattle.std.proofs.Common.{rules, ◌∙◌, [], ◌∷◌, ◌++◌, ap, sym}
use Rattle.std.proofs.iter.Next.{Yields-more}
use Rattle.rart_keys.specs.SortedMap.{keys_of}
use Rattle.rart.specs.BulkLoads.{FailsUnique}
use Rattle.rart.specs.Steps.{pairs_in}
use Rattle.rart.proofs.bulks.BulkEndLemmas.{ascending-by-keys}
use Rattle.rart.proofs.bulks.BulkLoadLemmas.{keys-at-end, last-below, pairs-more, reads-more, unique-fails}
use Rattle.rart.proofs.tree.bulk.read.read_unique.Goals as goal

pub append-requires : goal.append-requires
append-requires g c =
    let bytes = g.K.KeyTrait.bytes in
    let all = (c.requires c.into_iter-key-iterator.result c.into_iter-key-iterator.ensures.into_iter_gives).2
    (c.loop-key.yielded ++ (c.in-Some.key, c.in-Some.value) ∷ []) c.next.new.self
    (Yields-more g.I.IntoIter.Iterator.next_gives c.into_iter-key-iterator.result c.loop-key.yielded
    c.loop-key.key-iterator (c.in-Some.key, c.in-Some.value) c.next.new.self c.loop-key.yielded_by
    (rw c.in-Some.is at c.next.ensures.steps)) in
    record {
      later = rw c.loop-key.invariant.pairs (last-below (keys_of (pairs_in bytes c.loop-key.yielded))
          (bytes c.in-Some.key) []
          (rw (← keys-at-end (pairs_in bytes c.loop-key.yielded) (bytes c.in-Some.key) c.in-Some.value)
          (ascending-by-keys _ (rw (pairs-more bytes c.loop-key.yielded (c.in-Some.key, c.in-Some.value)) at all))));
    }

pub returns-in-Err-clause-refused : goal.returns-in-Err-clause-refused
returns-in-Err-clause-refused g c =
    let bytes = g.K.KeyTrait.bytes in
    reads-more g.I.IntoIterator.into_iter_gives g.I.IntoIter.Iterator.next_gives _
    (λ xs. FailsUnique (pairs_in bytes xs) c.in-Err.error) _ _ _ _ (c.in-Some.key, c.in-Some.value) _
    c.into_iter-key-iterator.ensures.into_iter_gives c.loop-key.yielded_by c.in-Some.is c.next.ensures.steps
    (unique-fails bytes _ (c.in-Some.key, c.in-Some.value) _ c.loop-key.invariant.pairs _ c.in-Err.ensures.refused)

pub loop-key-preserved : goal.loop-key-preserved
loop-key-preserved g c = record {
  can = search rules;
  finite = (rw c.in-Some.is at (c.next.ensures.goes.on c.loop-key.invariant.finite)).1;
  pairs = c.in_default.ensures.pairs ∙ ap (λ z. z ++ (g.K.KeyTrait.bytes c.in-Some.key, c.in-Some.value) ∷ [])
      c.loop-key.invariant.pairs
      ∙ sym (pairs-more g.K.KeyTrait.bytes c.loop-key.yielded (c.in-Some.key, c.in-Some.value));
}
