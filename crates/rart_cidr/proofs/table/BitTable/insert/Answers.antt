use Rattle.std.proofs.Common.{◌≤◌, arith, length, sym, ap, ◌∙◌}
use Rattle.rart.specs.declared.tree.TheConstants.{MAX_PAIRS}
use Rattle.rart_cidr.specs.Routes.{routes_of}
use Rattle.rart_cidr.proofs.routes.EditLemmas.{inserted-answer, new-route, old-route, refused-answer}
use Rattle.rart_cidr.proofs.table.BitTable.insert.Goals as goal

pub invariant_of-self : goal.invariant_of-self
invariant_of-self g c = new-route _ _ c.args.octets.now c.args.bits _ _ _ c.args.target c.in-Ok-None.field-0
    c.args.self.now c.self.inside.len c.canonical.ensures.ascending c.self.invariant.formed
    (λ k. (c.type_inv.octets k).fits) c.requires.bits (c.new_from_slice-key.ensures ∙ c.first_octets.ensures)
    c.octet_at.ensures c.code_of-code.ensures.value c.in-Ok-None.ensures c.in-Ok-None.field-0-is c.self.view_is
    c.self.invariant.counted c.self.invariant.few (λ r. absurd (let full = c.if-is_full_for.ensures.1 r in cc))

pub returns-in-Ok-None : goal.returns-in-Ok-None
returns-in-Ok-None g c =
    let r = inserted-answer _ _ c.args.octets.now c.args.bits _ _ _ c.args.target c.in-Ok-None.field-0 c.args.self.now
    c.canonical.ensures.ascending c.self.invariant.formed (λ k. (c.type_inv.octets k).fits) c.requires.bits
    (c.new_from_slice-key.ensures ∙ c.first_octets.ensures) c.octet_at.ensures c.code_of-code.ensures.value
    c.in-Ok-None.ensures c.self.view_is (λ r. absurd (let full = c.if-is_full_for.ensures.1 r in cc)) in
    (sym c.in-Ok-None.field-0-is ∙ r.0, r.1, r.2)

pub invariant_of-self-in-Ok-Some : goal.invariant_of-self-in-Ok-Some
invariant_of-self-in-Ok-Some g c = old-route _ _ c.args.octets.now c.args.bits _ _ _ c.args.target c.in-Ok-Some.old
    c.in-Ok-Some.field-0 c.self.inside.len c.canonical.ensures.ascending c.self.invariant.formed
    (λ k. (c.type_inv.octets k).fits) c.requires.bits (c.new_from_slice-key.ensures ∙ c.first_octets.ensures)
    c.octet_at.ensures c.code_of-code.ensures.value c.in-Ok-Some.ensures c.in-Ok-Some.field-0-is
    c.self.invariant.counted c.self.invariant.few

pub returns-in-Ok-Some : goal.returns-in-Ok-Some
returns-in-Ok-Some g c =
    let r = inserted-answer _ _ c.args.octets.now c.args.bits _ _ _ c.args.target c.in-Ok-Some.field-0 c.args.self.now
    c.canonical.ensures.ascending c.self.invariant.formed (λ k. (c.type_inv.octets k).fits) c.requires.bits
    (c.new_from_slice-key.ensures ∙ c.first_octets.ensures) c.octet_at.ensures c.code_of-code.ensures.value
    c.in-Ok-Some.ensures c.self.view_is (λ r. absurd (let full = c.if-is_full_for.ensures.1 r in cc)) in
    (sym c.in-Ok-Some.field-0-is ∙ r.0, r.1, r.2)

pub returns : goal.returns
returns g c =
    let most : length (routes_of c.self.inside.strides.pairs) ≤ MAX_PAIRS
    = omega (arith, c.self.invariant.counted, c.self.invariant.few) in (
      c.in-Err.ensures.0,
      refused-answer _ c.args.octets.now c.args.bits _ _ _ c.in-Err.refused.error c.args.self.now
          c.canonical.ensures.ascending c.self.invariant.formed (λ k. (c.type_inv.octets k).fits) c.requires.bits
          (c.new_from_slice-key.ensures ∙ c.first_octets.ensures) c.octet_at.ensures c.code_of-code.ensures.value most
          c.self.view_is (λ r. absurd (let full = c.if-is_full_for.ensures.1 r in cc)) c.in-Err.ensures.1,
      ap routes_of
          c.in-Err.ensures.2 ∙ c.self.view_is,
    )
