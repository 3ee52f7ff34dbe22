use Rattle.std.proofs.Common.{true, ap, ◌∙◌}
use Rattle.rart_keys.specs.Ranges.{pairs_from}
use Rattle.rart_cidr.specs.Bits.{network}
use Rattle.rart_cidr.specs.Routes.{routes_of}
use Rattle.rart_cidr.proofs.walks.AheadLemmas.{some_routes, walk_started}
use Rattle.rart_cidr.proofs.table.BitTable.walk_from.Goals as goal

pub returns-in-Err-clause-memory : goal.returns-in-Err-clause-memory
returns-in-Err-clause-memory g c = (
  c.in-Err.ensures.memory.0,
  λ e. some_routes c.self.inside.strides.pairs c.self.invariant.formed c.in-Err.ensures.memory.1 (c.self.view_is ∙ e),
)

pub invariant_of-result : goal.invariant_of-result
invariant_of-result g c =
    let s = walk_started c.self.inside.strides.pairs c.args.octets.now (g.K.KeyTrait.bytes c.new_from_slice.result)
    c.args.bits _ c.code_of.result _ _ _ c.canonical.ensures.ascending c.self.invariant.formed
    (λ k. (c.type_inv.octets k).fits) c.requires.bits (c.new_from_slice.ensures ∙ c.first_octets.ensures)
    c.octet_at.ensures c.code_of.ensures.value c.start_after.ensures c.in-Ok.ensures.pairs c.next_key-ahead.ensures in
    record { formed = c.self.invariant.formed; is_code = s.0; ahead = s.2 }

pub returns-clause-routes : goal.returns-clause-routes
returns-clause-routes g c =
    let s = walk_started c.self.inside.strides.pairs c.args.octets.now (g.K.KeyTrait.bytes c.new_from_slice.result)
    c.args.bits _ c.code_of.result _ _ _ c.canonical.ensures.ascending c.self.invariant.formed
    (λ k. (c.type_inv.octets k).fits) c.requires.bits (c.new_from_slice.ensures ∙ c.first_octets.ensures)
    c.octet_at.ensures c.code_of.ensures.value c.start_after.ensures c.in-Ok.ensures.pairs c.next_key-ahead.ensures in
    ap (λ z. pairs_from true z (routes_of c.self.inside.strides.pairs)) s.1
    ∙ ap (pairs_from true (network c.args.octets.now c.args.bits)) c.self.view_is
