use Rattle.std.proofs.Common.{None, length, ◌∙◌, sym, ap, subst, arith}
use Rattle.std.proofs.lemmas.List.{get_or_past}
use Rattle.rart_parts.specs.Entries.{BytesAscend, child_at}
use Rattle.rart_maps.proofs.DirectLemmas.{numbered-ascends, numbered_child, length-numbered}
use Rattle.rart_maps.proofs.mapping.direct_mapping.DirectMappingNodeMapping256.num_children.Goals as goal

pub returns-clause-at_most : goal.returns-clause-at_most
returns-clause-at_most g c = omega (
  arith,
  ap (λ d. length d.entries) c.self.view_is,
  length-numbered 0 c.self.inside.block.items,
  c.self.invariant.0.full,
)

pub returns-clause-ascending : goal.returns-clause-ascending
returns-clause-ascending g c = subst (λ d. BytesAscend d.entries) c.self.view_is
    (numbered-ascends 0 c.self.inside.block.items)

pub returns-clause-bytes : goal.returns-clause-bytes
returns-clause-bytes g c b h = sym (ap (λ d. child_at b d.entries) c.self.view_is)
    ∙ numbered_child c.self.inside.block.items b
    ∙ get_or_past c.self.inside.block.items b None (omega (arith, h, c.self.invariant.0.full))
