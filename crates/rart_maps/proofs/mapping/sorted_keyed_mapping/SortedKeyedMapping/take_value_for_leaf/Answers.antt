use Rattle.std.proofs.Common.{◌≡◌, ◌∙◌, ap, refl, set, remove, length, arith}
use Rattle.std.proofs.lemmas.List.{length-set}
use Rattle.rart_maps.proofs.SortedLemmas.{counted, emptied, padded_alone, no_entries}
use Rattle.rart_maps.proofs.SortedEdits.{kept_by, same_zip, one_removed}
use Rattle.rart_maps.proofs.mapping.sorted_keyed_mapping.SortedKeyedMapping.take_value_for_leaf.Goals as goal

pub invariant_of-self : goal.invariant_of-self
invariant_of-self g c =
    let one : length c.self.inside.block.items ≡ 1
    = omega (arith, counted c.self.invariant _ (ap (λ d. d.entries) c.self.view_is), c.requires) in
    kept_by c.remove.ensures.rest (rw c.keys_mut-keys.ensures.value
    (emptied c.self.invariant (set c.self.inside.block.keys 0 255) (remove c.self.inside.block.items 0)
    (length-set c.self.inside.block.keys 0 255 ∙ c.self.invariant.full) (one_removed c.self.inside.block.items one) _
    refl (padded_alone c.self.invariant one)))

pub returns-clause-emptied : goal.returns-clause-emptied
returns-clause-emptied g c =
    let one : length c.self.inside.block.items ≡ 1
    = omega (arith, counted c.self.invariant _ (ap (λ d. d.entries) c.self.view_is), c.requires) in
    same_zip c.remove.ensures.rest ∙ no_entries _ _ (one_removed c.self.inside.block.items one)
