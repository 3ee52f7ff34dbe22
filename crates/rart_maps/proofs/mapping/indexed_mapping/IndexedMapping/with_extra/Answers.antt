use Rattle.std.proofs.Common.{replicate}
use Rattle.rart_maps.proofs.DenseLemmas.{dense_start, nothing_yet}
use Rattle.rart_maps.proofs.mapping.indexed_mapping.IndexedMapping.with_extra.Goals as goal

pub invariant_of-result : goal.invariant_of-result
invariant_of-result g c = rw (c.in-Ok.ensures.ok, c.new.ensures) (dense_start g.row.N.Denot g.row.W c.requires.narrow)

pub returns-in-Ok-clause-ok : goal.returns-in-Ok-clause-ok
returns-in-Ok-clause-ok g c = rw c.in-Ok.ensures.ok (nothing_yet g.row.N.Denot c.args.extra (replicate g.row.W 0))
