use Rattle.std.proofs.Common.{rules, ap}
use Rattle.rart.specs.Extensions.{PutsUntil}
use Rattle.rart.proofs.bulks.BulkLoadLemmas.{reads-more}
use Rattle.rart.proofs.bulks.ExtensionLemmas.{put-more, until-refused}
use Rattle.rart.proofs.tree.AdaptiveRadixTree.extend.Goals as goal

pub returns-in-Err-clause-refused : goal.returns-in-Err-clause-refused
returns-in-Err-clause-refused g c =
    reads-more g.I.IntoIterator.into_iter_gives g.I.IntoIter.Iterator.next_gives _
    (λ xs. PutsUntil g.K.KeyTrait.bytes c.args.self.now.pairs xs c.in-Err.refused c.put_item.new.self.pairs) _ _ _ _
    (c.in-Some.key, c.in-Some.value) _ c.into_iter-key-iterator.ensures.into_iter_gives c.loop-key.yielded_by
    c.in-Some.is c.next.ensures.steps (until-refused g.K.KeyTrait.bytes _ _ _ _ _ _ c.loop-key.invariant.put
    (ap (λ z. z.pairs) c.in-Err.ensures.unchanged) c.in-Err.ensures.item c.in-Err.ensures.refused)

pub loop-key-preserved : goal.loop-key-preserved
loop-key-preserved g c = record {
  can = search rules;
  finite = search rules;
  put = put-more g.K.KeyTrait.bytes c.loop-key.yielded (c.in-Some.key, c.in-Some.value) c.args.self.now.pairs
      c.loop-key.self.pairs c.put_item.new.self.pairs c.loop-key.invariant.put c.in_default.ensures.pairs;
}
