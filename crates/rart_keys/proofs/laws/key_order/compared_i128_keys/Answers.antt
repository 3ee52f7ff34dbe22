use Rattle.std.proofs.Common.{refl}
use Rattle.std.specs.Int.{w128}
use Rattle.rart_keys.proofs.strings.KeyComparisons.{signed_keys}
use Rattle.rart_keys.proofs.laws.key_order.compared_i128_keys.Goals as goal

pub returns : goal.returns
returns g c = signed_keys _ _ _ c.compared_keys.ensures w128 16 c.args.x c.args.y c.ranges.x c.ranges.y refl
    c.from_i128.ensures c.from_i128-2.ensures
