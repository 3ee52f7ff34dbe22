use Rattle.rart.proofs.trees.UnionLawLemmas.{lookup-union, union-ascends, union-swapped}
use Rattle.rart.proofs.laws.unions.unions.Goals as goal

pub returns-clause-ascending : goal.returns-clause-ascending
returns-clause-ascending g c = union-ascends c.sorted_map.ensures.put_ascends

pub returns-clause-looks : goal.returns-clause-looks
returns-clause-looks g c = lookup-union c.sorted_map.ensures.put_at c.sorted_map.ensures.put_elsewhere

pub returns-clause-other_way : goal.returns-clause-other_way
returns-clause-other_way g c l m up-l up-m =
    union-swapped c.sorted_map-2.ensures.one_list l m (returns-clause-ascending g c l m up-m)
    (union-ascends c.sorted_map-2.ensures.put_ascends m l up-l) (λ k. returns-clause-looks g c k l m)
    (λ k. lookup-union c.sorted_map-2.ensures.put_at c.sorted_map-2.ensures.put_elsewhere k m l)
