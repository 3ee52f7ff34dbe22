use Rattle.std.proofs.Common.{◌≡◌, ◌≤◌, ◌+◌, suc, length, ◌∙◌, ap, arith}
use Rattle.std.specs.Prelude.{slice_index, slice_set}
use Rattle.rart_cidr.specs.Bits.{masked_byte}
use Rattle.rart_cidr.proofs.networks.NetworkLemmas.{before-all, before-next, cleared_before}
use Rattle.rart_cidr.proofs.bits.clear_after.Goals as goal

pub loop-at-preserved : goal.loop-at-preserved
loop-at-preserved c =
    let next : suc c.loop-at.at ≡ c.loop-at.at + 1 = omega arith in
    ap (λ z. slice_set z c.loop-at.at c.keep_bits.result) c.loop-at.invariant
    ∙ before-next c.args.octets.now c.args.bits c.loop-at.at c.keep_bits.result c.loop-at-test.true
    (c.keep_bits.ensures
    ∙ ap (λ z. masked_byte (slice_index z c.loop-at.at) c.saturating_sub.result) c.loop-at.invariant
    ∙ ap (masked_byte (slice_index (cleared_before c.args.octets.now c.args.bits c.loop-at.at) c.loop-at.at))
    c.saturating_sub.ensures)
    ∙ ap (cleared_before c.args.octets.now c.args.bits) next

pub returns : goal.returns
returns c = c.loop-at.invariant ∙ before-all c.args.octets.now c.args.bits c.loop-at.at
    (let h : length c.args.octets.now ≤ c.loop-at.at = omega (arith, c.loop-at-test.false) in h)
