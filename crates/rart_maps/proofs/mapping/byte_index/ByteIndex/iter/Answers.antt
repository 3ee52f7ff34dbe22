use Rattle.std.proofs.Common.{◌∙◌, ap, sym, subst, arith}
use Rattle.rart_parts.specs.Bits.{words_have}
use Rattle.rart_parts.specs.Places.{numbered_values}
use Rattle.rart_maps.specs.ByteIndex.{with_slots, AreBytes}
use Rattle.rart_maps.proofs.ByteIndexLemmas.{walked_all, members-bytes}
use Rattle.rart_maps.proofs.mapping.byte_index.ByteIndex.iter.Goals as goal

pub invariant_of-result : goal.invariant_of-result
invariant_of-result c = (
  c.self.invariant.whole,
  subst AreBytes (sym c.iter.ensures)
      (members-bytes (words_have 64 (λ w. w) c.self.inside.used.words) 0 256 (omega arith)),
)

pub returns : goal.returns
returns c = ap (with_slots c.self.inside.slots) c.iter.ensures ∙ walked_all c.self.invariant
    ∙ ap (numbered_values 0) c.self.view_is
