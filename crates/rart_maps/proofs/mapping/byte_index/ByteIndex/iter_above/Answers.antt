use Rattle.std.proofs.Common.{◌∙◌, ap, sym, subst, arith}
use Rattle.rart_parts.specs.Bits.{words_have, positions_above}
use Rattle.rart_parts.specs.Entries.{entries_above}
use Rattle.rart_parts.specs.Places.{numbered_values}
use Rattle.rart_maps.specs.ByteIndex.{with_slots, AreBytes}
use Rattle.rart_maps.proofs.ByteIndexLemmas.{above-bytes, with_slots-above, walked_all, members-bytes}
use Rattle.rart_maps.proofs.mapping.byte_index.ByteIndex.iter_above.Goals as goal

pub invariant_of-result : goal.invariant_of-result
invariant_of-result c = (
  c.self.invariant.whole,
  subst AreBytes (sym (c.pass.ensures
      ∙ ap (positions_above c.args.byte) c.iter-bytes.ensures))
      (above-bytes c.args.byte _ (members-bytes (words_have 64 (λ w. w) c.self.inside.used.words) 0 256
      (omega arith))),
)

pub returns : goal.returns
returns c =
    ap (with_slots c.self.inside.slots) (c.pass.ensures ∙ ap (positions_above c.args.byte) c.iter-bytes.ensures)
    ∙ with_slots-above c.args.byte c.self.inside.slots _
    ∙ ap (entries_above c.args.byte) (walked_all c.self.invariant ∙ ap (numbered_values 0) c.self.view_is)
