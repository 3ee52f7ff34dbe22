use Rattle.std.proofs.Common.{◌∙◌, sym, arith}
use Rattle.rart_maps.proofs.FourLemmas.{keys_count, keys_length}
use Rattle.rart_maps.proofs.mapping.four_keys.FourKeys.num_children.Goals as goal

pub returns-clause-count : goal.returns-clause-count
returns-clause-count g c = keys_count c.args.children.now.items c.self.invariant c.self.view_is c.requires.each
    ∙ sym (keys_length c.args.children.now.items c.self.invariant c.self.view_is c.requires.each)

pub returns-clause-at_most : goal.returns-clause-at_most
returns-clause-at_most g c = omega (
  arith,
  c.self.invariant.few,
  keys_count c.args.children.now.items c.self.invariant c.self.view_is c.requires.each,
  keys_length c.args.children.now.items c.self.invariant c.self.view_is c.requires.each,
)
