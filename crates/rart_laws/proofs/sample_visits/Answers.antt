use Rattle.rart_laws.proofs.ShapeExamples.{visits-deepest, visits-absent, visits-root, visits-both, edges-both}
use Rattle.rart_laws.proofs.ShapeExamples.{visits-no_keys, visits-no_left, visits-no_right}
use Rattle.rart_laws.proofs.sample_visits.Goals as goal

pub returns : goal.returns
returns c = record {
  deepest_visits = visits-deepest;
  absent_visits = visits-absent;
  root_visits = visits-root;
  both = visits-both;
  edges = edges-both;
  no_keys = visits-no_keys;
  no_left = visits-no_left;
  no_right = visits-no_right;
}
