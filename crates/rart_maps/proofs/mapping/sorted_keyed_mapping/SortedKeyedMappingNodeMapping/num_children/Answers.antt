use Rattle.std.proofs.Common.{◌∙◌, get_or, sym, ap, arith}
use Rattle.rart_parts.specs.Entries.{child_at}
use Rattle.rart_maps.proofs.Zipped.{child_none}
use Rattle.rart_maps.proofs.SortedLemmas.{counted}
use Rattle.rart_maps.proofs.mapping.sorted_keyed_mapping.SortedKeyedMappingNodeMapping.num_children.Goals as goal

pub returns-clause-count : goal.returns-clause-count
returns-clause-count g c = c.len.ensures.count ∙ sym (counted c.self.invariant _ (ap (λ d. d.entries) c.self.view_is))

pub returns-clause-at_most : goal.returns-clause-at_most
returns-clause-at_most g c = omega (
  arith,
  counted c.self.invariant _ (ap (λ d. d.entries) c.self.view_is),
  c.self.invariant.few,
)

pub returns-clause-bytes : goal.returns-clause-bytes
returns-clause-bytes g c b h = sym (ap (λ d. child_at b d.entries) c.self.view_is)
    ∙ child_none b c.self.inside.block.keys c.self.inside.block.items
    (λ j l e. omega (arith, h, e, c.keys_are_bytes.ensures j, ap (λ ks. get_or ks j 0) c.keys.ensures))
