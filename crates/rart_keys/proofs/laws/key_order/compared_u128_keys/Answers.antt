use Rattle.rart_keys.proofs.strings.KeyComparisons.{unsigned_keys}
use Rattle.rart_keys.proofs.laws.key_order.compared_u128_keys.Goals as goal

pub returns : goal.returns
returns g c = unsigned_keys _ _ _ c.compared_keys.ensures 16 c.args.x c.args.y c.ranges.x.fits c.ranges.y.fits
    c.from_u128.ensures c.from_u128-2.ensures
