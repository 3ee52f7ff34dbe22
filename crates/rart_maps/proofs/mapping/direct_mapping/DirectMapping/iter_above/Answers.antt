use Rattle.std.proofs.Common.{◌∙◌, ap, subst}
use Rattle.rart_parts.specs.Bits.{members_from}
use Rattle.rart_parts.specs.Entries.{BytesAscend, entries_above}
use Rattle.rart_parts.proofs.entries.EntryLemmas.{above-ascends}
use Rattle.rart_maps.proofs.DirectLemmas.{numbered-ascends}
use Rattle.rart_maps.proofs.DirectPlaces.{above_filled, all_filled, has_byte, places_above, walk_all}
use Rattle.rart_maps.proofs.mapping.direct_mapping.DirectMapping.iter_above.Goals as goal

pub invariant_of-result : goal.invariant_of-result
invariant_of-result g c = rw (c.slots.ensures, c.pass.ensures, c.iter-bytes.ensures, c.keys.ensures)
    (above_filled c.args.byte c.self.inside.block.items _ (all_filled c.self.inside.block.keys.bytes.words
    c.self.inside.block.items c.self.invariant.0.full c.self.invariant.1))

pub returns-clause-entries : goal.returns-clause-entries
returns-clause-entries g c = rw (c.slots.ensures, c.pass.ensures, c.iter-bytes.ensures, c.keys.ensures)
    (places_above c.args.byte c.self.inside.block.items
    (members_from (has_byte c.self.inside.block.keys.bytes.words) 0 256)
    ∙ ap (entries_above c.args.byte) (walk_all c.self.inside.block.keys.bytes.words c.self.inside.block.items
    c.self.invariant.0.full c.self.invariant.1 ∙ ap (λ d. d.entries) c.self.view_is))

pub returns-clause-ascending : goal.returns-clause-ascending
returns-clause-ascending g c = above-ascends c.args.byte _ (subst (λ d. BytesAscend d.entries) c.self.view_is
    (numbered-ascends 0 c.self.inside.block.items))
