use Rattle.std.proofs.Common.{ap, length, arith}
use Rattle.rart_maps.proofs.FourLemmas.{keys_length}
use Rattle.rart_maps.proofs.SortedLemmas.{no_items}
use Rattle.rart_maps.proofs.mapping.four_keys.FourKeys.destroy_empty.Goals as goal

pub destroy_empty-extra-requires : goal.destroy_empty-extra-requires
destroy_empty-extra-requires g c = (
  omega arith,
  no_items c.args.children.items (omega (
    arith,
    keys_length c.args.children.items c.self.invariant c.self.view_is c.requires.each,
    ap length c.requires.empty,
  )),
)
