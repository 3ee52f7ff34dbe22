use Rattle.std.proofs.Common.{◌∙◌, ◌∷◌, [], arith, ap, sym}
use Rattle.rart_keys.specs.SortedMap.{lookup}
use Rattle.rart_cidr.specs.Routes.{coded_network}
use Rattle.rart_cidr.proofs.walks.LastLemmas.{in-last}
use Rattle.rart_cidr.proofs.table.BitTable.late_route.Goals as goal

pub returns-in-Some-get-clause-stored : goal.returns-in-Some-get-clause-stored
returns-in-Some-get-clause-stored g c =
    let k = g.K.KeyTrait.bytes c.in-Some.key in
    ap (lookup (coded_network k (1 ∷ []))) (sym c.self.view_is)
    ∙ in-last k 1 c.self.inside.strides.pairs c.in-Some.stride.now _ c.canonical.ensures.ascending
    c.self.invariant.formed (omega arith, omega arith) c.in-Some.ensures (sym c.in-Some-get.ensures)

pub returns-in-Some-next-clause-stored : goal.returns-in-Some-next-clause-stored
returns-in-Some-next-clause-stored g c =
    let k = g.K.KeyTrait.bytes c.in-Some.key in
    ap (lookup (coded_network k (c.in-Some-next.code ∷ []))) (sym c.self.view_is)
    ∙ in-last k c.in-Some-next.code c.self.inside.strides.pairs c.in-Some.stride.now _ c.canonical.ensures.ascending
    c.self.invariant.formed c.in-Some-next.ensures.0 c.in-Some.ensures c.in-Some-next.ensures.3
