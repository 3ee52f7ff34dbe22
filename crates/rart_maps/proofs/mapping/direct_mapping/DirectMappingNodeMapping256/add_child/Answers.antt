use Rattle.std.proofs.Common.{◌≡◌, None, get_or, sym, ap, ◌∙◌, arith}
use Rattle.rart_parts.specs.Entries.{child_at, with_entry}
use Rattle.rart_maps.proofs.DirectLemmas.{numbered_child, numbered-put, direct_put}
use Rattle.rart_maps.proofs.DirectPlaces.{agrees_put}
use Rattle.rart_maps.proofs.mapping.direct_mapping.DirectMappingNodeMapping256.add_child.Goals as goal

pub put-requires : goal.put-requires
put-requires g c = (
  omega arith,
  (
    omega (arith, c.ranges.key.fits),
    sym (numbered_child c.self.inside.block.items c.args.key)
        ∙ ap (λ d. child_at c.args.key d.entries) c.self.view_is ∙ c.requires.absent,
  ),
)

pub invariant_of-self : goal.invariant_of-self
invariant_of-self g c =
    let free : get_or c.self.inside.block.items c.args.key None ≡ None = sym (numbered_child c.self.inside.block.items
    c.args.key)
    ∙ ap (λ d. child_at c.args.key d.entries) c.self.view_is ∙ c.requires.absent in
    let more = rw c.keys_mut-used.ensures.value at c.set.ensures in
    rw (c.put.ensures, c.keys_mut-used.ensures.value) (
      direct_put c.self.invariant.0 c.args.key (omega (arith, c.ranges.key.fits)) c.args.node free,
      agrees_put c.self.inside.block.keys.bytes.words c.self.inside.block.items c.self.invariant.1 c.args.key (omega
          (arith, c.ranges.key.fits, c.self.invariant.0.full))
          c.set.new.self.words more c.args.node,
    )

pub returns-clause-entries : goal.returns-clause-entries
returns-clause-entries g c = rw c.put.ensures
    (numbered-put c.self.inside.block.items c.args.key (omega (arith, c.ranges.key.fits, c.self.invariant.0.full))
    c.args.node
    ∙ ap (λ d. with_entry c.args.key c.args.node d.entries) c.self.view_is)
