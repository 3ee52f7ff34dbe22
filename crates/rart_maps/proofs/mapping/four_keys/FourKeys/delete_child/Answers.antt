use Rattle.std.proofs.Common.{◌∙◌, ap, sym, arith, refl}
use Rattle.std.proofs.lemmas.List.Edits.{length-remove}
use Rattle.std.proofs.lemmas.Option.{get_or_from_slice_get}
use Rattle.rart_parts.specs.Entries.{child_at, without_byte}
use Rattle.rart_parts.proofs.entries.EntryLemmas.{without_absent}
use Rattle.rart_maps.specs.FourKeys.{four_entries}
use Rattle.rart_maps.proofs.FourLemmas.{keyed-sorted, keys_count, keys_entries, keys_sorted, of_sorted}
use Rattle.rart_maps.proofs.SortedEdits.{removed_kept, removed_zip}
use Rattle.rart_maps.proofs.SortedSearch.{found, not_found}
use Rattle.rart_maps.proofs.mapping.four_keys.FourKeys.delete_child.Goals as goal

pub invariant_of-self : goal.invariant_of-self
invariant_of-self g c =
    let s = keys_sorted c.args.children.now.items c.self.invariant c.self.view_is c.requires.each in
    let n = keys_count c.args.children.now.items c.self.invariant c.self.view_is c.requires.each in
    let by = c.copy_within.ensures.by_index in
    let f = c.in-Some.ensures in
    of_sorted (removed_kept s c.self.inside.count c.args.key c.in-Some.at n f.0 f.1 f.2 c.copy_within.new.self
    c.copy_within.ensures.len by.0 by.1 by.2) _
    (omega (arith, n, length-remove c.args.children.now.items c.in-Some.at (omega (arith, f.0, n))))

pub returns-in-Some-clause-taken : goal.returns-in-Some-clause-taken
returns-in-Some-clause-taken g c =
    let s = keys_sorted c.args.children.now.items c.self.invariant c.self.view_is c.requires.each in
    let n = keys_count c.args.children.now.items c.self.invariant c.self.view_is c.requires.each in
    let old = keys_entries c.args.children.now.items c.self.invariant c.self.view_is c.requires.each in
    found refl s _ n c.args.key c.in-Some.at c.remove.result c.in-Some.ensures
    (sym (get_or_from_slice_get c.args.children.now.items c.in-Some.at c.remove.result c.remove.result
    c.remove.ensures.taken))
    ∙ ap (child_at c.args.key) old

pub returns-in-Some-clause-rest : goal.returns-in-Some-clause-rest
returns-in-Some-clause-rest g c =
    let s = keys_sorted c.args.children.now.items c.self.invariant c.self.view_is c.requires.each in
    let n = keys_count c.args.children.now.items c.self.invariant c.self.view_is c.requires.each in
    let old = keys_entries c.args.children.now.items c.self.invariant c.self.view_is c.requires.each in
    let by = c.copy_within.ensures.by_index in
    let f = c.in-Some.ensures in
    rw c.remove.ensures.rest
    (keyed-sorted (removed_kept s c.self.inside.count c.args.key c.in-Some.at n f.0 f.1 f.2 c.copy_within.new.self
    c.copy_within.ensures.len by.0 by.1 by.2) _
    (omega (arith, n, length-remove c.args.children.now.items c.in-Some.at (omega (arith, f.0, n))))
    ∙ removed_zip s c.self.inside.count c.args.key c.in-Some.at n f.0 f.1 f.2 c.copy_within.new.self
    c.copy_within.ensures.len by.0 by.1 by.2 ∙ ap (without_byte c.args.key) old)

pub returns-in-None-clause-taken : goal.returns-in-None-clause-taken
returns-in-None-clause-taken g c =
    let s = keys_sorted c.args.children.now.items c.self.invariant c.self.view_is c.requires.each in
    let n = keys_count c.args.children.now.items c.self.invariant c.self.view_is c.requires.each in
    let old = keys_entries c.args.children.now.items c.self.invariant c.self.view_is c.requires.each in
    not_found refl s _ n c.args.key c.in-None.ensures ∙ ap (child_at c.args.key) old

pub returns-in-None-clause-rest : goal.returns-in-None-clause-rest
returns-in-None-clause-rest g c =
    let s = keys_sorted c.args.children.now.items c.self.invariant c.self.view_is c.requires.each in
    let n = keys_count c.args.children.now.items c.self.invariant c.self.view_is c.requires.each in
    let old = keys_entries c.args.children.now.items c.self.invariant c.self.view_is c.requires.each in
    sym (without_absent c.args.key (four_entries c.args.self.now c.args.children.now)
    (sym (not_found refl s _ n c.args.key c.in-None.ensures ∙ ap (child_at c.args.key) old)))
