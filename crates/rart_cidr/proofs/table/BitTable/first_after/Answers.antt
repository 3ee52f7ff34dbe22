use Rattle.rart_cidr.proofs.walks.MatchLemmas.{first_in_stride, none_after, none_in_stride_after}
use Rattle.rart_cidr.proofs.table.BitTable.first_after.Goals as goal

pub returns-in-Some-shortest : goal.returns-in-Some-shortest
returns-in-Some-shortest g c = rw (← c.self.view_is)
    (first_in_stride c.self.inside.strides.pairs c.args.octets.now _ c.args.bits c.args.low _ c.bits_after-most.result
    c.in-Some-shortest.count c.in-Some-shortest.target.now c.in-Some.stride.now c.canonical.ensures.ascending
    c.self.invariant.formed (λ k. (c.type_inv.octets k).fits) c.requires.bits c.first_octets.ensures c.in-Some.ensures
    c.octet_at.ensures c.bits_after-most.ensures.small c.bits_after-most.ensures.at_most c.in-Some-shortest.ensures)

pub returns-in-None-shortest : goal.returns-in-None-shortest
returns-in-None-shortest g c = rw (← c.self.view_is)
    (none_in_stride_after c.self.inside.strides.pairs c.args.octets.now _ c.args.bits c.args.low _
    c.bits_after-most.result c.in-Some.stride.now c.canonical.ensures.ascending c.self.invariant.formed
    (λ k. (c.type_inv.octets k).fits) c.requires.bits c.first_octets.ensures c.in-Some.ensures c.octet_at.ensures
    c.bits_after-most.ensures.all c.in-None-shortest.ensures)

pub returns-in-None : goal.returns-in-None
returns-in-None g c = rw (← c.self.view_is)
    (none_after c.self.inside.strides.pairs c.args.octets.now _ c.args.bits c.args.low c.canonical.ensures.ascending
    c.self.invariant.formed (λ k. (c.type_inv.octets k).fits) c.requires.bits c.first_octets.ensures c.in-None.ensures)
