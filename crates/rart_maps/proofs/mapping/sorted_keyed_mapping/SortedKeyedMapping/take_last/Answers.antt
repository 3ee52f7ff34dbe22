use Rattle.std.proofs.Common.{◌∙◌, ◌++◌, ◌∷◌, [], get_or, length, sym, ap, refl}
use Rattle.rart_maps.proofs.SortedLemmas.{last_entry, popped, popped_zip}
use Rattle.rart_maps.proofs.mapping.sorted_keyed_mapping.SortedKeyedMapping.take_last.Goals as goal

pub invariant_of-self-2 : goal.invariant_of-self-2
invariant_of-self-2 g c = rw
    (c.len-last.ensures.count, c.keys_mut-keys.ensures.value, ← ap (λ b. b.keys) c.in-Some.ensures)
    (popped c.self.invariant c.pop.new.self.items c.in-Some.child (ap (λ b. b.items) c.in-Some.ensures) _ refl)

pub returns-clause-entries : goal.returns-clause-entries
returns-clause-entries g c =
    let ks = c.self.inside.block.keys in
    let rest = c.pop.new.self.items in
    let items = ap (λ b. b.items) c.in-Some.ensures in
    rw (c.len-last.ensures.count, c.keys_mut-keys.ensures.value, ← ap (λ b. b.keys) c.in-Some.ensures)
    (sym (ap (λ d. d.entries) c.self.view_is) ∙ last_entry c.self.invariant rest c.in-Some.child items
    ∙ ap (λ es. es ++ (get_or ks (length rest) 0, c.in-Some.child) ∷ [])
    (sym (popped_zip c.self.invariant rest c.in-Some.child items)))
