use Rattle.std.proofs.Common.{◌∙◌, Some, length, subst, sym, ap}
use Rattle.rart_parts.specs.Keys.{IsPlaceOf}
use Rattle.rart_parts.specs.Entries.{child_at, without_byte}
use Rattle.rart_parts.proofs.entries.EntryLemmas.{without_absent}
use Rattle.rart_maps.proofs.SortedEdits.{kept_by, removed_kept, removed_zip}
use Rattle.rart_maps.proofs.SortedSearch.{searched, found, not_found}
use Rattle.std.proofs.lemmas.Option.{get_or_from_slice_get}
use Rattle.rart_maps.proofs.mapping.sorted_keyed_mapping.SortedKeyedMappingNodeMapping.delete_child.Goals as goal

pub place_of-requires : goal.place_of-requires
place_of-requires g c = searched c.keys.ensures c.self.invariant _ c.len-count.ensures.count

pub invariant_of-self : goal.invariant_of-self
invariant_of-self g c =
    let by = rw c.keys_mut-keys.ensures.value at c.copy_within.ensures.by_index in
    let f = subst (λ k. IsPlaceOf k c.len-count.result c.args.key
    (Some c.in-Some.at)) c.keys.ensures c.in-Some.ensures in
    kept_by c.remove.ensures.rest (removed_kept c.self.invariant c.len-count.result c.args.key c.in-Some.at
    c.len-count.ensures.count f.0 f.1 f.2 c.copy_within.new.self
    (c.copy_within.ensures.len ∙ ap length c.keys_mut-keys.ensures.value) by.0 by.1 by.2)

pub returns-in-Some-clause-taken : goal.returns-in-Some-clause-taken
returns-in-Some-clause-taken g c = found c.keys.ensures c.self.invariant _ c.len-count.ensures.count c.args.key
    c.in-Some.at c.remove.result c.in-Some.ensures
    (sym (get_or_from_slice_get c.self.inside.block.items c.in-Some.at c.remove.result c.remove.result
    c.remove.ensures.taken))
    ∙ ap (λ d. child_at c.args.key d.entries) c.self.view_is

pub returns-in-Some-clause-rest : goal.returns-in-Some-clause-rest
returns-in-Some-clause-rest g c =
    let by = rw c.keys_mut-keys.ensures.value at c.copy_within.ensures.by_index in
    let f = subst (λ k. IsPlaceOf k c.len-count.result c.args.key
    (Some c.in-Some.at)) c.keys.ensures c.in-Some.ensures in
    rw c.remove.ensures.rest (removed_zip c.self.invariant c.len-count.result c.args.key c.in-Some.at
    c.len-count.ensures.count f.0 f.1 f.2 c.copy_within.new.self
    (c.copy_within.ensures.len ∙ ap length c.keys_mut-keys.ensures.value) by.0 by.1 by.2
    ∙ ap (λ d. without_byte c.args.key d.entries) c.self.view_is)

pub returns-in-None-clause-taken : goal.returns-in-None-clause-taken
returns-in-None-clause-taken g c = not_found c.keys.ensures c.self.invariant _ c.len-count.ensures.count c.args.key
    c.in-None.ensures ∙ ap (λ d. child_at c.args.key d.entries) c.self.view_is

pub returns-in-None-clause-rest : goal.returns-in-None-clause-rest
returns-in-None-clause-rest g c = sym (without_absent c.args.key c.args.self.now.entries
    (sym (not_found c.keys.ensures c.self.invariant _ c.len-count.ensures.count c.args.key c.in-None.ensures
    ∙ ap (λ d. child_at c.args.key d.entries) c.self.view_is)))
