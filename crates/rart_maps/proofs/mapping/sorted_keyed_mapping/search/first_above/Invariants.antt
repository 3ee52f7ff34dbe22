use Rattle.rart_maps.proofs.FirstAbove.{CountsBelow}
use Rattle.rart_maps.proofs.mapping.sorted_keyed_mapping.search.first_above.Given as goal

abbrev pub invariant-loop-i : goal.invariant-loop-i
invariant-loop-i g l = CountsBelow l.keys l.count l.key l.i l.place
