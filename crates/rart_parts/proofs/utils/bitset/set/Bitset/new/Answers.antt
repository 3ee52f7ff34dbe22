use Rattle.rart_parts.proofs.sets.Words.{none_have}
use Rattle.rart_parts.proofs.utils.bitset.set.Bitset.new.Goals as goal

pub returns : goal.returns
returns g c k h = none_have g.W.BitsetWord.WIDTH g.W.BitsetWord.number g.met.W.BitsetWord.wide _ _ k c.from_u64.ensures
    h
