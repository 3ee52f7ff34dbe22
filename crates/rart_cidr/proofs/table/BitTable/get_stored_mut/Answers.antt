use Rattle.std.proofs.Common.{refl, ap, subst, sym, ◌∙◌, length}
use Rattle.rart_keys.specs.SortedMap.{lookup}
use Rattle.rart_cidr.specs.Bits.{network}
use Rattle.rart_cidr.specs.Routes.{AreStrides, routes_of}
use Rattle.rart_cidr.proofs.routes.EditLemmas.{get-none, get-some}
use Rattle.rart_cidr.proofs.routes.LoanLemmas.{code_stored, lent_back, lent_route, lent_some, on_some}
use Rattle.rart_cidr.proofs.table.BitTable.get_stored_mut.Goals as goal

pub invariant_of-self-lent : goal.invariant_of-self-lent
invariant_of-self-lent g c =
    let code_at = code_stored _ c.args.octets.now c.args.bits _ _ _ c.in-Some.stride.now c.args.self.now
    c.canonical.ensures.ascending c.self.invariant.formed (λ k. (c.type_inv.octets k).fits) c.requires.bits
    (c.new_from_slice-key.ensures ∙ c.first_octets.ensures) c.octet_at.ensures c.code_of-code.ensures.value
    c.in-Some.ensures.value c.self.view_is c.requires.stored in
    let back = lent_back _ _ _ c.in-Some.stride.now _ c.canonical.ensures.ascending c.in-Some.ensures.value
    (rw c.in-Some.is at c.get_mut_k.follows.holds c.get_stored_mut.follows.lender-at-none).0
    c.get_stored_mut.follows.holds-at-none in
    λ _. (
      λ w.
          let left = lent_some c.get_stored_mut.result _ c.get_stored_mut.ensures.value code_at
          (c.get_stored_mut.follows.holds w) in
          let r = lent_route _ _ c.args.octets.now c.args.bits _ _ _ w c.in-Some.stride.now _ c.args.self.now
          c.self.inside.len c.canonical.ensures.ascending c.self.invariant.formed (λ k. (c.type_inv.octets k).fits)
          c.requires.bits (c.new_from_slice-key.ensures ∙ c.first_octets.ensures) c.octet_at.ensures
          c.code_of-code.ensures.value c.in-Some.ensures.value
          (rw c.in-Some.is at c.get_mut_k.follows.holds (c.get_stored_mut.follows.lender w)).0 left c.self.view_is
          c.requires.stored c.self.invariant.counted in
          record { formed = r.0; counted = r.1; few = c.self.invariant.few },
      record {
        formed = subst AreStrides (sym back) c.self.invariant.formed;
        counted = c.self.invariant.counted ∙ ap (λ z. length (routes_of z)) (sym back);
        few = c.self.invariant.few;
      },
    )

pub returns : goal.returns
returns g c =
    let code_at = code_stored _ c.args.octets.now c.args.bits _ _ _ c.in-Some.stride.now c.args.self.now
    c.canonical.ensures.ascending c.self.invariant.formed (λ k. (c.type_inv.octets k).fits) c.requires.bits
    (c.new_from_slice-key.ensures ∙ c.first_octets.ensures) c.octet_at.ensures c.code_of-code.ensures.value
    c.in-Some.ensures.value c.self.view_is c.requires.stored in
    let back = lent_back _ _ _ c.in-Some.stride.now _ c.canonical.ensures.ascending c.in-Some.ensures.value
    (rw c.in-Some.is at c.get_mut_k.follows.holds c.get_stored_mut.follows.lender-at-none).0
    c.get_stored_mut.follows.holds-at-none in (
      (
        refl,
        λ w.
            let left = lent_some c.get_stored_mut.result _ c.get_stored_mut.ensures.value code_at
            (c.get_stored_mut.follows.holds w) in
            let r = lent_route _ _ c.args.octets.now c.args.bits _ _ _ w c.in-Some.stride.now _ c.args.self.now
            c.self.inside.len c.canonical.ensures.ascending c.self.invariant.formed (λ k. (c.type_inv.octets k).fits)
            c.requires.bits (c.new_from_slice-key.ensures ∙ c.first_octets.ensures) c.octet_at.ensures
            c.code_of-code.ensures.value c.in-Some.ensures.value
            (rw c.in-Some.is at c.get_mut_k.follows.holds (c.get_stored_mut.follows.lender w)).0 left c.self.view_is
            c.requires.stored c.self.invariant.counted in
            on_some c.get_stored_mut.result (λ _. r.2) (c.get_stored_mut.follows.holds w),
        ap routes_of back ∙ c.self.view_is,
      ),
      record {
        writes_back = tt;
        value = c.get_stored_mut.ensures.value ∙ get-some _ c.args.octets.now c.args.bits
            c.canonical.ensures.ascending c.self.invariant.formed (λ k. (c.type_inv.octets k).fits) c.requires.bits
            c.in-Some.stride.now _ _ _ _ (c.new_from_slice-key.ensures ∙ c.first_octets.ensures)
            c.in-Some.ensures.value c.octet_at.ensures c.code_of-code.ensures.value refl
            ∙ ap (lookup (network c.args.octets.now c.args.bits)) c.self.view_is;
      },
    )

pub unreachable-requires : goal.unreachable-requires
unreachable-requires g c = c.requires.stored
    (sym (get-none _ c.args.octets.now c.args.bits c.canonical.ensures.ascending c.self.invariant.formed
    (λ k. (c.type_inv.octets k).fits) c.requires.bits _ (c.new_from_slice-key.ensures ∙ c.first_octets.ensures)
    c.in-None.ensures.value ∙ ap (lookup (network c.args.octets.now c.args.bits)) c.self.view_is))

pub get_stored_mut-requires : goal.get_stored_mut-requires
get_stored_mut-requires g c = record {
  stored = code_stored _ c.args.octets.now c.args.bits _ _ _ c.in-Some.stride.now c.args.self.now
      c.canonical.ensures.ascending c.self.invariant.formed (λ k. (c.type_inv.octets k).fits) c.requires.bits
      (c.new_from_slice-key.ensures ∙ c.first_octets.ensures) c.octet_at.ensures c.code_of-code.ensures.value
      c.in-Some.ensures.value c.self.view_is c.requires.stored;
}
