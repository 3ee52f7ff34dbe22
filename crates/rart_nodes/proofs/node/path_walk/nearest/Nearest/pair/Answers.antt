use Rattle.std.proofs.Common.{◌++◌, arith, ap, length, length-append, take}
use Rattle.rart_trie.proofs.tries.CanonicalTests.{IsCanonical-test}
use Rattle.rart_nodes.proofs.ranges.NearestPlaces.{pair-visits, place-within}
use Rattle.rart_nodes.proofs.node.path_walk.nearest.Nearest.pair.Goals as goal

pub from_slice-requires : goal.from_slice-requires
from_slice-requires g c =
    let start = take c.args.self.depth c.args.bound.now in
    let prefix = g.P.Partial.bytes c.args.self.prefix.now in
    place-within _ c.args.end c.args.self.place (start ++ prefix) (length start) c.requires.within
    (omega (arith, length-append start prefix))

pub partial_extended_with-start-requires : goal.partial_extended_with-start-requires
partial_extended_with-start-requires g c =
    let start = take c.args.self.depth c.args.bound.now in
    let prefix = g.P.Partial.bytes c.args.self.prefix.now in
    place-within _ c.args.end c.args.self.place (start ++ prefix) _ c.requires.within
    (omega (arith, length-append start prefix, ap length c.from_slice.ensures))

pub returns-in-Below-clause-visits : goal.returns-in-Below-clause-visits
returns-in-Below-clause-visits g c = omega (
  arith,
  c.end_below.ensures.visits,
  pair-visits (g.P.Partial.bytes c.partial_extended_with-start.result) _ _ c.args.end c.in-Below.child.node.now
      (IsCanonical-test c.in-Below.child.node.now c.in-Below.child.canonical) (rw c.in-Below.is at c.requires.below)
      c.end_below.ensures.pair,
)
