use Rattle.std.proofs.Common.{◌≡◌, ◌≤◌, None, Some, ap, subst, sym, ◌∙◌, arith}
use Rattle.rart_cidr.specs.Bits.{code}
use Rattle.rart_cidr.specs.Routes.{IsShortestIn}
use Rattle.rart_cidr.specs.Targets.{pairs_of}
use Rattle.rart_cidr.proofs.routes.OneLemmas.{one-no_shortest, one-shortest}
use Rattle.rart_cidr.proofs.stride.Stride.shortest.Goals as goal
use Rattle.rart_cidr.proofs.stride.Stride.shortest.Goals.{
  else-least-bits-via-then-least-bits+then-bits-most+else-code_of-stored,
}
use Rattle.rart_cidr.proofs.stride.Stride.shortest.Goals.{else-least-bits-via-then-least-bits+else-bits-most}
use Rattle.rart_cidr.proofs.stride.Stride.shortest.Goals.{else-least-bits-via-else-least-bits}

pub returns-then-code_of-stored : goal.returns-then-code_of-stored
returns-then-code_of-stored g c =
    let seen = sym (ap pairs_of c.in-One.is) ∙ c.self.view_is in
    subst (λ s. IsShortestIn s c.args.byte c.args.least c.args.most (Some (c.from-bits.result, c.in-One.target))) seen
    (one-shortest c.in-One.stored c.args.byte c.args.least c.args.most c.from-bits.result c.in-One.target
    (omega (arith, c.ranges.byte.fits)) c.requires (c.from-bits.ensures ∙ c.code_len.ensures) c.if-least-bits.true
    c.if-bits-most.true (sym c.code_of.ensures.value ∙ c.if-code_of-stored.true))

pub returns-else-least-bits : goal.returns-else-least-bits
returns-else-least-bits g c =
    let seen = sym (ap pairs_of c.in-One.is) ∙ c.self.view_is in
    subst (λ s. IsShortestIn s c.args.byte c.args.least c.args.most None) seen
    (one-no_shortest c.in-One.stored c.args.byte c.args.least c.args.most c.from-bits.result c.in-One.target
    (omega (arith, c.ranges.byte.fits)) c.requires (c.from-bits.ensures ∙ c.code_len.ensures)
    (elim c.else-least-bits.branch as (λ _. c.args.least ≤ c.from-bits.result → c.from-bits.result ≤ c.args.most
    → code c.args.byte c.from-bits.result ≡ c.in-One.stored → ⊥) [
      | else-least-bits-via-then-least-bits+then-bits-most+else-code_of-stored w ↦ λ l m s. w.if-code_of-stored.false
          (w.code_of.ensures.value ∙ s)
      | else-least-bits-via-then-least-bits+else-bits-most w ↦ λ l m s. let over = w.if-bits-most.false in
          omega (arith, m, over)
      | else-least-bits-via-else-least-bits w ↦ λ l m s. let under = w.if-least-bits.false in omega (arith, l, under)
    ]))
