use Rattle.std.proofs.Common.{arith, sym, ap, ◌∙◌}
use Rattle.rart_keys.specs.SortedMap.{lookup, without}
use Rattle.rart_cidr.specs.Bits.{network}
use Rattle.rart_cidr.specs.Routes.{routes_of}
use Rattle.rart_cidr.proofs.routes.EditLemmas.{absent-without, at-key, five-routes, removed}
use Rattle.rart_cidr.proofs.table.BitTable.remove.Goals as goal

pub overflow_sub-self : goal.overflow_sub-self
overflow_sub-self g c =
    let i = removed _ _ c.args.octets.now c.args.bits _ _ _ c.in-Ok-Some.target c.canonical.ensures.ascending
    c.self.invariant.formed (λ k. (c.type_inv.octets k).fits) c.requires.bits (c.new_from_slice-key.ensures
    ∙ c.first_octets.ensures) c.octet_at.ensures c.code_of-code.ensures.value
    (rw c.in-Ok-Some.field-0-is at c.in-Ok-Some.ensures) in
    omega (arith, i.3, c.self.invariant.counted)

pub invariant_of-self : goal.invariant_of-self
invariant_of-self g c =
    let i = removed _ _ c.args.octets.now c.args.bits _ _ _ c.in-Ok-Some.target c.canonical.ensures.ascending
    c.self.invariant.formed (λ k. (c.type_inv.octets k).fits) c.requires.bits (c.new_from_slice-key.ensures
    ∙ c.first_octets.ensures) c.octet_at.ensures c.code_of-code.ensures.value
    (rw c.in-Ok-Some.field-0-is at c.in-Ok-Some.ensures) in
    record {
      formed = i.0;
      counted = omega (arith, i.3, c.self.invariant.counted);
      few = omega (arith, c.self.invariant.few);
    }

pub returns-in-Ok-Some : goal.returns-in-Ok-Some
returns-in-Ok-Some g c =
    let i = removed _ _ c.args.octets.now c.args.bits _ _ _ c.in-Ok-Some.target c.canonical.ensures.ascending
    c.self.invariant.formed (λ k. (c.type_inv.octets k).fits) c.requires.bits (c.new_from_slice-key.ensures
    ∙ c.first_octets.ensures) c.octet_at.ensures c.code_of-code.ensures.value
    (rw c.in-Ok-Some.field-0-is at c.in-Ok-Some.ensures) in (
      i.1 ∙ ap (lookup (network c.args.octets.now c.args.bits)) c.self.view_is,
      i.2
          ∙ ap (without (network c.args.octets.now c.args.bits)) c.self.view_is,
    )

pub returns-in-Ok-None : goal.returns-in-Ok-None
returns-in-Ok-None g c =
    let p = rw c.in-Ok-None.field-0-is at c.in-Ok-None.ensures in
    let i = absent-without _ c.args.octets.now c.args.bits _ _ _ c.canonical.ensures.ascending c.self.invariant.formed
    (λ k. (c.type_inv.octets k).fits) c.requires.bits (c.new_from_slice-key.ensures ∙ c.first_octets.ensures)
    c.octet_at.ensures c.code_of-code.ensures.value p.0 in (
      i.0 ∙ ap (lookup (network c.args.octets.now c.args.bits)) c.self.view_is,
      ap routes_of p.1 ∙ i.1
          ∙ ap (without (network c.args.octets.now c.args.bits)) c.self.view_is,
    )

pub returns : goal.returns
returns g c = (
  c.in-Err.ensures.0,
  λ m. c.in-Err.ensures.1
      (sym (at-key _ c.args.octets.now c.args.bits _ _ _ c.canonical.ensures.ascending c.self.invariant.formed
      (λ k. (c.type_inv.octets k).fits) c.requires.bits (c.new_from_slice-key.ensures ∙ c.first_octets.ensures)
      c.octet_at.ensures c.code_of-code.ensures.value)
      ∙ ap (lookup (network c.args.octets.now c.args.bits)) c.self.view_is ∙ m),
  rw (← c.self.view_is) (five-routes _ _ c.canonical.ensures.ascending c.self.invariant.formed c.in-Err.ensures.2),
  ap routes_of c.in-Err.ensures.3
      ∙ c.self.view_is,
)
