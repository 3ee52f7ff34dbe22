use Rattle.std.proofs.Common.{length}
use Rattle.std.specs.Fn.{always_mut}
use Rattle.std.specs.Prelude.{option_map}
use Rattle.rart_cidr.specs.tables.TwoTables.{routes_from}
use Rattle.rart_cidr.proofs.walks.RouteCallLemmas.{Visiting}
use Rattle.rart_cidr.proofs.network_table.NetworkTable.retain_by_ref.Given as goal

abbrev pub invariant-loop-at : goal.invariant-loop-at
invariant-loop-at g l = record {
  visiting : Visiting g.F.FnMut g.N.Network.bits (λ r. r) l.fn.f l.fn.self l.self (option_map g.N.Network.bits l.at)
      l.f;
  always : always_mut g.F.FnMut l.fn.f → always_mut g.F.FnMut l.f;
}

abbrev pub decreases-loop-at : goal.decreases-loop-at
decreases-loop-at g l = length (routes_from (option_map g.N.Network.bits l.at) l.self)
