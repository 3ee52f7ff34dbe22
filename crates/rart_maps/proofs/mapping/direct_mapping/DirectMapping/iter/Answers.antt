use Rattle.std.proofs.Common.{◌∙◌, ap, subst}
use Rattle.rart_parts.specs.Entries.{BytesAscend}
use Rattle.rart_maps.proofs.DirectLemmas.{numbered-ascends}
use Rattle.rart_maps.proofs.DirectPlaces.{all_filled, walk_all}
use Rattle.rart_maps.proofs.mapping.direct_mapping.DirectMapping.iter.Goals as goal

pub invariant_of-result : goal.invariant_of-result
invariant_of-result g c = rw (c.slots.ensures, c.iter.ensures, c.keys.ensures)
    (all_filled c.self.inside.block.keys.bytes.words c.self.inside.block.items c.self.invariant.0.full
    c.self.invariant.1)

pub returns-clause-entries : goal.returns-clause-entries
returns-clause-entries g c = rw (c.slots.ensures, c.iter.ensures, c.keys.ensures)
    (walk_all c.self.inside.block.keys.bytes.words c.self.inside.block.items c.self.invariant.0.full c.self.invariant.1
    ∙ ap (λ d. d.entries) c.self.view_is)

pub returns-clause-ascending : goal.returns-clause-ascending
returns-clause-ascending g c = subst (λ d. BytesAscend d.entries) c.self.view_is
    (numbered-ascends 0 c.self.inside.block.items)
