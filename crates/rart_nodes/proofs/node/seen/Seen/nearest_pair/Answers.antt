use Rattle.std.proofs.Common.{ap, arith, length}
use Rattle.std.specs.Option.{option_copied}
use Rattle.rart_trie.specs.tries.Tree.{tree_pairs}
use Rattle.rart_trie.proofs.tries.CanonicalTests.{IsCanonicalTree-test}
use Rattle.rart_trie.proofs.tries.EndLemmas.{few-probes}
use Rattle.rart_nodes.specs.ranges.Nearest.{pairs_toward}
use Rattle.rart_nodes.proofs.ranges.EndPaths.{ends-within}
use Rattle.rart_nodes.proofs.ranges.NearestPlaces.{longest-toward}
use Rattle.rart_nodes.proofs.node.seen.Seen.nearest_pair.Goals as goal

pub returns-in_err-found-clause-bound : goal.returns-in_err-found-clause-bound
returns-in_err-found-clause-bound g c = rw c.from_residual.ensures (omega (
  arith,
  c.seek_nearest.ensures.visits,
  few-probes (option_copied c.args.self.root) c.args.bound.now (IsCanonicalTree-test _ c.args.self.canonical),
))

pub pair-path-requires-clause-within : goal.pair-path-requires-clause-within
pair-path-requires-clause-within g c =
    let es = tree_pairs (option_copied c.args.self.root) in
    let few = longest-toward c.args.end c.args.included c.args.bound.now es in
    rw (c.in_ok-found.ensures.pair, g.met.K.KeyTrait.same_maximum) (ends-within _ c.args.end
    (pairs_toward c.args.end c.args.included c.args.bound.now es) (λ x. length x.0) c.args.self.longest
    (λ x h. omega (arith, h, few, c.args.self.short)) c.args.self.fits)

pub returns-clause-bound : goal.returns-clause-bound
returns-clause-bound g c = omega (
  arith,
  c.seek_nearest.ensures.visits,
  few-probes (option_copied c.args.self.root) c.args.bound.now (IsCanonicalTree-test _ c.args.self.canonical),
  c.pair-path.ensures.visits,
  ap length c.new_from_partial.ensures,
)
