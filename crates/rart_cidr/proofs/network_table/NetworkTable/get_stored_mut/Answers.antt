use Rattle.std.proofs.Common.{◌*◌, ◌≡◌, ◌≤◌, arith, ap, length, subst, sym, ◌∙◌}
use Rattle.rart_cidr.specs.Bits.{network}
use Rattle.rart_keys.specs.SortedMap.{lookup}
use Rattle.rart_cidr.specs.Walks.{AreWithin}
use Rattle.rart_cidr.proofs.routes.LoanLemmas.{lent_some}
use Rattle.rart_cidr.proofs.routes.WidthLemmas.{put_within}
use Rattle.rart_cidr.proofs.network_table.NetworkTable.get_stored_mut.Goals as goal

pub invariant_of-self-lent : goal.invariant_of-self-lent
invariant_of-self-lent g c =
    let w = 8 * g.N.Network.address_len in
    let n : network c.octets.result.now c.from.result ≡ g.N.Network.bits c.args.net.now
    = ap (network c.octets.result.now) (c.from.ensures ∙ c.len.ensures.value) ∙ c.octets.ensures.value in
    let few : length (network c.octets.result.now c.from.result) ≤ 8 * g.N.Network.address_len
    = omega (arith, ap length n, c.len.ensures.value, c.len.ensures.at_most) in
    λ _. (
      λ t.
          let left = lent_some c.get_mut.result _ c.get_mut.ensures.value
          (λ e. c.requires.stored (sym (ap (λ z. lookup z c.args.self.now) n)
          ∙ ap (lookup (network c.octets.result.now c.from.result)) (sym c.self.view_is) ∙ e))
          (c.get_mut.follows.holds t) in
          subst (AreWithin w) (sym left) (put_within w (network c.octets.result.now c.from.result) t
          c.self.inside.routes few c.self.invariant),
      subst (AreWithin w) (sym c.get_mut.follows.holds-at-none) c.self.invariant,
    )
