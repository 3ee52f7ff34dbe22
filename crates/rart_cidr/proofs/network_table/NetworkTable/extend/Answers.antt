use Rattle.std.proofs.Common.{rules}
use Rattle.rart.proofs.bulks.BulkLoadLemmas.{reads-more}
use Rattle.rart.proofs.bulks.ExtensionLemmas.{put-more}
use Rattle.rart_cidr.specs.tables.ManyEdits.{PutsRoutesUntil}
use Rattle.rart_cidr.proofs.routes.ExtensionLemmas.{until_refused}
use Rattle.rart_cidr.proofs.network_table.NetworkTable.extend.Goals as goal

pub returns-in-Err-clause-refused : goal.returns-in-Err-clause-refused
returns-in-Err-clause-refused g c =
    reads-more g.I.IntoIterator.into_iter_gives g.I.IntoIter.Iterator.next_gives _
    (λ xs. PutsRoutesUntil g.N.Network.bits c.args.self.now xs c.in-Err.refused c.put_route.new.self) _ _ _ _
    (c.in-Some.net, c.in-Some.target) _ c.into_iter-net-iterator.ensures.into_iter_gives c.loop-net.yielded_by
    c.in-Some.is c.next.ensures.steps (until_refused g.N.Network.bits _ _ _ _ _ _ c.loop-net.invariant.put
    c.in-Err.ensures.unchanged c.in-Err.ensures.route c.in-Err.ensures.refused)

pub loop-net-preserved : goal.loop-net-preserved
loop-net-preserved g c = record {
  can = search rules;
  finite = search rules;
  put = put-more g.N.Network.bits c.loop-net.yielded (c.in-Some.net, c.in-Some.target) c.args.self.now
      c.loop-net.self c.put_route.new.self c.loop-net.invariant.put c.in_default.ensures.routes;
}
