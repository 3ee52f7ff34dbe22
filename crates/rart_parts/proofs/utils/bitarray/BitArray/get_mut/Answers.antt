use Rattle.std.proofs.Common.{◌≡◌, true, sym, arith, subst}
use Rattle.rart_parts.specs.Places.{is_used, IsBitArray}
use Rattle.rart_parts.proofs.PlaceLemmas.{array_replaced, read_true, set_same}
use Rattle.rart_parts.proofs.utils.bitarray.BitArray.get_mut.Goals as goal

pub invariant_of-self-lent : goal.invariant_of-self-lent
invariant_of-self-lent g c =
    let os = c.self.inside.places.items in
    let used : is_used os c.args.position ≡ true
    = read_true os c.args.position c.index.result.now (omega (arith, c.requires, c.self.invariant.full)) c.index.ensures
    c.if-is_some.ensures in
    λ _. (
      λ w. array_replaced c.self.invariant c.args.position w c.requires used,
      subst (IsBitArray g.row.RANGE_WIDTH g.B.BitsetTrait.CAPACITY (g.B.BitsetTrait.has c.self.inside.bitset))
          (sym (set_same os c.args.position c.index_mut.result.now c.index_mut.ensures.value)) c.self.invariant,
    )
