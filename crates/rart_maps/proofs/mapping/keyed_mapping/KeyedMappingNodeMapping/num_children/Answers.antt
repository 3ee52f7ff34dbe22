use Rattle.std.proofs.Common.{◌∙◌, sym, ap, subst, arith}
use Rattle.rart_parts.specs.Entries.{BytesAscend, sorted_entries, child_at}
use Rattle.rart_maps.proofs.KeyedLemmas.{keyed_few, slots_ascend, keyed_absent}
use Rattle.rart_maps.proofs.mapping.keyed_mapping.KeyedMappingNodeMapping.num_children.Goals as goal

pub returns-clause-at_most : goal.returns-clause-at_most
returns-clause-at_most g c = rw (← c.self.view_is) (keyed_few c.self.invariant)

pub returns-clause-ascending : goal.returns-clause-ascending
returns-clause-ascending g c = subst BytesAscend (ap sorted_entries c.self.view_is)
    (slots_ascend c.self.invariant.slots)

pub returns-clause-bytes : goal.returns-clause-bytes
returns-clause-bytes g c b h = ap (λ es. child_at b (sorted_entries es)) (sym c.self.view_is)
    ∙ keyed_absent c.self.invariant.slots b (λ j e. omega (arith, h, e, c.keys_are_bytes.ensures j))
