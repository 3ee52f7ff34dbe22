use Rattle.std.proofs.Common.{◌≡◌}
use Rattle.rart_keys.specs.BulkLists.{put_all}
use Rattle.rart.specs.Steps.{pairs_in}
use Rattle.rart_cidr.proofs.network_table.NetworkTable.extend.Given as goal

abbrev pub invariant-loop-net : goal.invariant-loop-net
invariant-loop-net g l = record {
  can : (goal.iterator-loop-net g).can_next l.net-iterator;
  finite : (goal.iterator-loop-net g).is_finite l.net-iterator;
  put : l.self ≡ put_all (pairs_in g.N.Network.bits l.yielded) l.fn.self;
}
