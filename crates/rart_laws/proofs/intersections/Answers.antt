use Rattle.rart_nodes.proofs.joins.IntersectLemmas.{intersect_nodes-join}
use Rattle.rart_nodes.proofs.joins.IntersectVisits.{visits-shared, visits_below_nodes}
use Rattle.rart_nodes.proofs.joins.SharedLemmas.{shared-each, shared-ascends}
use Rattle.rart_laws.proofs.intersections.Goals as goal

pub returns : goal.returns
returns g c = record {
  intersection = intersect_nodes-join;
  visits = visits-shared;
  visits_below_nodes
      = visits_below_nodes;
  edges = shared-each;
  edges_ascend = shared-ascends;
}
