use Rattle.std.proofs.Common.{◌≡◌, []}
use Rattle.rart_keys.specs.BulkLists.{put_all}
use Rattle.rart.specs.Steps.{pairs_in}
use Rattle.rart.proofs.laws.bulk_loads.inserted_tree.Given as goal

abbrev pub invariant-loop-key : goal.invariant-loop-key
invariant-loop-key g l = l.tree.pairs ≡ put_all (pairs_in g.K.KeyTrait.bytes l.yielded) []
