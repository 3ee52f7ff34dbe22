use Rattle.std.proofs.Common.{◌<◌, Fits, w8, arith, rules, slice_index_or, take, length-take}
use Rattle.rart_keys.proofs.strings.NumberOrder.{seven_digits}
use Rattle.rart_keys.proofs.keys.array_key.ArrayKey.to_be_u64.Goals as goal

pub overflow_mul-number : goal.overflow_mul-number
overflow_mul-number g c =
    let k : c.loop-byte.byte-index < 8 = omega (arith, length-take c.min.result c.as_slice-bytes.result.now) in
    let h = seven_digits _ _ k c.loop-byte.invariant.below in omega (arith, h)

pub overflow_add-number : goal.overflow_add-number
overflow_add-number g c =
    let k : c.loop-byte.byte-index < 8 = omega (arith, length-take c.min.result c.as_slice-bytes.result.now) in
    let h = seven_digits _ _ k c.loop-byte.invariant.below in
    let f : Fits w8 (slice_index_or (take c.min.result c.as_slice-bytes.result.now) c.loop-byte.byte-index 0)
    = search rules in
    let b = f.fits in
    omega (arith, h, b)
