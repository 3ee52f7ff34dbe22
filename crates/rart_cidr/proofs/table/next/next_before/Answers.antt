use Rattle.std.proofs.Common.{◌≡◌, ◌+◌, ◌-◌, ◌≤◌, suc, arith, length, subst}
use Rattle.std.specs.Prelude.{option_map}
use Rattle.rart_cidr.specs.Walks.{HasNoneDownTo, net_at}
use Rattle.rart_cidr.proofs.walks.NextLemmas.{found_before, none_at_one_more}
use Rattle.rart_cidr.proofs.table.next.next_before.Goals as goal

pub returns-in-Some : goal.returns-in-Some
returns-in-Some g c =
    let ahead = option_map g.K.KeyTrait.bytes c.args.ahead.now in
    let q = net_at c.args.octets.now c.args.code in
    let next : c.loop-found.at + 1 ≡ suc c.loop-found.at = omega arith in
    found_before c.args.strides.now.pairs c.args.octets.now c.args.code c.loop-found.at c.in-Some.found
    c.in-Some.target.now ahead c.loop-found.invariant.0
    (subst (λ z. HasNoneDownTo c.args.strides.now.pairs c.args.octets.now q ahead z) next c.loop-found.invariant.1)
    c.in-Some.ensures

pub returns-then-at-eq0 : goal.returns-then-at-eq0
returns-then-at-eq0 g c =
    let ahead = option_map g.K.KeyTrait.bytes c.args.ahead.now in
    let q = net_at c.args.octets.now c.args.code in
    let next : c.loop-found.at + 1 ≡ suc c.loop-found.at = omega arith in
    subst (λ z. HasNoneDownTo c.args.strides.now.pairs c.args.octets.now q ahead z) c.if-at-eq0.true
    (none_at_one_more c.args.strides.now.pairs c.args.octets.now q c.loop-found.at ahead
    (subst (λ z. HasNoneDownTo c.args.strides.now.pairs c.args.octets.now q ahead z) next c.loop-found.invariant.1)
    c.in_default.ensures)

pub loop-found-preserved : goal.loop-found-preserved
loop-found-preserved g c =
    let ahead = option_map g.K.KeyTrait.bytes c.args.ahead.now in
    let q = net_at c.args.octets.now c.args.code in
    let next : c.loop-found.at + 1 ≡ suc c.loop-found.at = omega arith in
    let most : c.loop-found.at ≤ length c.args.octets.now = c.loop-found.invariant.0 in
    let back : c.loop-found.at ≡ c.loop-found.at - 1 + 1 = omega (arith, c.if-at-eq0.false) in (
      omega (arith, most),
      subst (λ z. HasNoneDownTo c.args.strides.now.pairs c.args.octets.now q ahead z) back
          (none_at_one_more c.args.strides.now.pairs c.args.octets.now q c.loop-found.at ahead
          (subst (λ z. HasNoneDownTo c.args.strides.now.pairs c.args.octets.now q ahead z) next
          c.loop-found.invariant.1) c.in_default.ensures),
    )
