use Rattle.std.proofs.Common.{◌∙◌, sym, arith}
use Rattle.rart_maps.proofs.KeyedLemmas.{keyed_some, keyed_none}
use Rattle.rart_maps.proofs.mapping.keyed_mapping.KeyedMappingNodeMapping.seek_child.Goals as goal

pub returns-in-Some : goal.returns-in-Some
returns-in-Some g c =
    let f = c.in-Some.ensures in
    let x = keyed_some c.self.invariant.slots c.args.key c.in-Some.slot (omega (arith, f.0, c.self.invariant.full))
    f.1 in
    rw (← c.self.view_is) (c.get.ensures ∙ x.1.2 ∙ sym x.1.3)

pub returns-in-None : goal.returns-in-None
returns-in-None g c = rw (← c.self.view_is)
    (sym (keyed_none c.self.invariant.slots c.args.key
    (λ k h. c.in-None.ensures k (omega (arith, h, c.self.invariant.full)))))
