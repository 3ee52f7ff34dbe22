use Rattle.std.proofs.Common.{◌∙◌, List, ap, get_or, refl}
use Rattle.rart_parts.specs.Entries.{child_at}
use Rattle.rart_maps.proofs.FourLemmas.{keys_count, keys_entries, keys_sorted}
use Rattle.rart_maps.proofs.SortedSearch.{found, not_found}
use Rattle.rart_maps.proofs.mapping.four_keys.FourKeys.seek_child.Goals as goal

pub returns-in-Some : goal.returns-in-Some
returns-in-Some g c =
    let s = keys_sorted c.args.children.now.items c.self.invariant c.self.view_is c.requires.each in
    let n = keys_count c.args.children.now.items c.self.invariant c.self.view_is c.requires.each in
    let old = keys_entries c.args.children.now.items c.self.invariant c.self.view_is c.requires.each in
    found refl s _ n c.args.key c.in-Some.at c.index-as_slice-at.result c.in-Some.ensures (c.index-as_slice-at.is
    ∙ ap (λ (l : List g.row.N.Denot). get_or l c.in-Some.at c.index-as_slice-at.result) c.as_slice.ensures)
    ∙ ap (child_at c.args.key) old

pub returns-in-None : goal.returns-in-None
returns-in-None g c =
    let s = keys_sorted c.args.children.now.items c.self.invariant c.self.view_is c.requires.each in
    let n = keys_count c.args.children.now.items c.self.invariant c.self.view_is c.requires.each in
    let old = keys_entries c.args.children.now.items c.self.invariant c.self.view_is c.requires.each in
    not_found refl s _ n c.args.key c.in-None.ensures ∙ ap (child_at c.args.key) old
