use Rattle.std.proofs.Common.{ap, ◌∙◌, ℕ, ◌^◌}
use Rattle.std.proofs.lemmas.Int.{to_z-of_z}
use Rattle.std.specs.Int.{bytes_high_first, w128}
use Rattle.std.specs.Int.Bits.{bit_xor}
use Rattle.rart_keys.proofs.strings.NumberOrder.{bit_xor-sign_128}
use Rattle.rart_keys.proofs.keys.array_key.ArrayKey.from_i128.Goals as goal
use mir.Val.{of_z}

pub returns : goal.returns
returns g c =
    let flip = λ (k : ℕ). bit_xor k (2 ^ 127) in
    c.from_u128.ensures
    ∙ ap (bytes_high_first 16) (ap flip (c.cast_unsigned.ensures ∙ ap (of_z w128) (to_z-of_z w128 c.args.x c.ranges.x))
    ∙ bit_xor-sign_128 c.args.x c.ranges.x)
