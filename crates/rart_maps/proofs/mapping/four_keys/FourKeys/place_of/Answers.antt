use Rattle.rart_maps.proofs.FourLemmas.{place_found}
use Rattle.rart_maps.proofs.mapping.four_keys.FourKeys.place_of.Goals as goal

pub returns : goal.returns
returns g c = place_found c.args.children.now.items c.self.invariant c.self.view_is c.requires.each c.args.key
    c.place_of.result c.place_of.ensures
