use Rattle.std.proofs.Common.{◌∙◌, ◌+◌, ◌*◌, None, Some, ap, arith, refl, take}
use Rattle.rart_keys.specs.Filters.{longest_match}
use Rattle.rart_cidr.proofs.walks.LongestLemmas.{last-none, last-some, none_in_stride, some_in_stride}
use Rattle.rart_cidr.proofs.table.BitTable.last_stride.Goals as goal

pub returns-in_err-count-clause-value : goal.returns-in_err-count-clause-value
returns-in_err-count-clause-value g c = rw (c.from_residual.ensures, ← c.self.view_is)
    (last-none c.self.inside.strides.pairs c.args.octets.now c.first_octets.result.now c.args.bits c.args.at
    c.canonical.ensures.ascending c.self.invariant.formed (λ k. (c.type_inv.octets k).fits) c.requires.bits
    c.first_octets.ensures
    (c.in_err-count.ensures.pair ∙ ap (longest_match c.first_octets.result.now) c.seen.ensures.pairs))

pub returns-in-Some-clause-value : goal.returns-in-Some-clause-value
returns-in-Some-clause-value g c = rw (← c.self.view_is)
    (last-some c.self.inside.strides.pairs c.args.octets.now c.first_octets.result.now c.args.bits c.args.at
    c.in_ok-count.count c.in_ok-count.stride.now
    (Some (8 * c.in_ok-count.count + c.in-Some.more, c.in-Some.target.now)) c.canonical.ensures.ascending
    c.self.invariant.formed (λ k. (c.type_inv.octets k).fits) c.requires.bits
    (omega (arith, c.requires.at, c.requires.bits)) c.first_octets.ensures c.in_ok-count.ensures.at_most
    (c.in_ok-count.ensures.pair ∙ ap (longest_match c.first_octets.result.now) c.seen.ensures.pairs)
    (λ stored. some_in_stride c.self.inside.strides.pairs c.args.octets.now (take c.in_ok-count.count c.args.octets.now)
    c.args.bits c.in_ok-count.count c.octet_at.result c.bits_after.result c.in-Some.more c.in-Some.target.now
    c.in_ok-count.stride.now c.canonical.ensures.ascending c.self.invariant.formed (λ k. (c.type_inv.octets k).fits)
    c.requires.bits refl stored c.octet_at.ensures c.bits_after.ensures.small c.bits_after.ensures.at_most
    c.bits_after.ensures.all c.in-Some.ensures))

pub returns-in-None-clause-value : goal.returns-in-None-clause-value
returns-in-None-clause-value g c = rw (← c.self.view_is)
    (last-some c.self.inside.strides.pairs c.args.octets.now c.first_octets.result.now c.args.bits c.args.at
    c.in_ok-count.count c.in_ok-count.stride.now None c.canonical.ensures.ascending
    c.self.invariant.formed (λ k. (c.type_inv.octets k).fits) c.requires.bits
    (omega (arith, c.requires.at, c.requires.bits)) c.first_octets.ensures c.in_ok-count.ensures.at_most
    (c.in_ok-count.ensures.pair ∙ ap (longest_match c.first_octets.result.now) c.seen.ensures.pairs)
    (λ stored. none_in_stride c.self.inside.strides.pairs c.args.octets.now (take c.in_ok-count.count c.args.octets.now)
    c.args.bits c.in_ok-count.count c.octet_at.result c.bits_after.result c.in_ok-count.stride.now
    c.canonical.ensures.ascending c.self.invariant.formed (λ k. (c.type_inv.octets k).fits) c.requires.bits refl stored
    c.octet_at.ensures c.bits_after.ensures.all c.in-None.ensures))
