use Rattle.rart_maps.proofs.ByteIndexLemmas.{no_slots, index_start}
use Rattle.rart_maps.proofs.mapping.byte_index.ByteIndex.new.Goals as goal

pub invariant_of-result : goal.invariant_of-result
invariant_of-result c = index_start _ c.new.ensures

pub returns : goal.returns
returns c = no_slots 256
