use Rattle.std.proofs.Common.{◌≡◌, ◌≤◌, None, Some, ap, subst, sym, ◌∙◌, arith}
use Rattle.rart_cidr.specs.Bits.{code}
use Rattle.rart_cidr.specs.Routes.{IsLongestIn}
use Rattle.rart_cidr.specs.Targets.{pairs_of}
use Rattle.rart_cidr.proofs.routes.OneLemmas.{one-longest, one-no_longest}
use Rattle.rart_cidr.proofs.stride.Stride.longest.Goals as goal
use Rattle.rart_cidr.proofs.stride.Stride.longest.Goals.{else-bits-most-via-then-bits-most+else-code_of-stored}
use Rattle.rart_cidr.proofs.stride.Stride.longest.Goals.{else-bits-most-via-else-bits-most}

pub returns-then-code_of-stored : goal.returns-then-code_of-stored
returns-then-code_of-stored g c =
    let seen = sym (ap pairs_of c.in-One.is) ∙ c.self.view_is in
    subst (λ s. IsLongestIn s c.args.byte c.args.most (Some (c.from-bits.result, c.in-One.target))) seen
    (one-longest c.in-One.stored c.args.byte c.args.most c.from-bits.result c.in-One.target
    (omega (arith, c.ranges.byte.fits)) c.requires (c.from-bits.ensures ∙ c.code_len.ensures) c.if-bits-most.true
    (sym c.code_of.ensures.value ∙ c.if-code_of-stored.true))

pub returns-else-bits-most : goal.returns-else-bits-most
returns-else-bits-most g c =
    let seen = sym (ap pairs_of c.in-One.is) ∙ c.self.view_is in
    subst (λ s. IsLongestIn s c.args.byte c.args.most None) seen
    (one-no_longest c.in-One.stored c.args.byte c.args.most c.from-bits.result c.in-One.target
    (omega (arith, c.ranges.byte.fits)) c.requires (c.from-bits.ensures ∙ c.code_len.ensures)
    (elim c.else-bits-most.branch as (λ _. c.from-bits.result ≤ c.args.most
    → code c.args.byte c.from-bits.result ≡ c.in-One.stored → ⊥) [
      | else-bits-most-via-then-bits-most+else-code_of-stored w ↦ λ m s. w.if-code_of-stored.false
          (w.code_of.ensures.value ∙ s)
      | else-bits-most-via-else-bits-most w ↦ λ m s. let over = w.if-bits-most.false in omega (arith, m, over)
    ]))
