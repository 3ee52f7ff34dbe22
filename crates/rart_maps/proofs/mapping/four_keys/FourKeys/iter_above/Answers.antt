use Rattle.std.proofs.Common.{◌∙◌, ap, subst, arith}
use Rattle.rart_parts.specs.Entries.{BytesAscend, entries_above}
use Rattle.rart_parts.proofs.entries.EntryLemmas.{above-ascends, from_place}
use Rattle.rart_maps.proofs.FourLemmas.{keys_count, keys_entries, keys_sorted}
use Rattle.rart_maps.proofs.SortedLemmas.{fits, zip_above}
use Rattle.rart_maps.proofs.mapping.four_keys.FourKeys.iter_above.Goals as goal

pub returns-clause-entries : goal.returns-clause-entries
returns-clause-entries g c =
    let s = keys_sorted c.args.children.now.items c.self.invariant c.self.view_is c.requires.each in
    let n = keys_count c.args.children.now.items c.self.invariant c.self.view_is c.requires.each in
    let old = keys_entries c.args.children.now.items c.self.invariant c.self.view_is c.requires.each in
    let place = c.first_above-at.ensures in
    rw (
      c.as_slice.ensures,
      from_place c.first_above-at.result c.self.inside.keys,
      from_place c.first_above-at.result c.args.children.now.items,
    ) (zip_above c.args.byte c.first_above-at.result c.self.inside.keys c.args.children.now.items (fits s) s.ascends
    (omega (arith, place.0, n)) place.1 (λ l. place.2 (omega (arith, l, n)))
    ∙ ap (entries_above c.args.byte) old)

pub returns-clause-ascending : goal.returns-clause-ascending
returns-clause-ascending g c =
    let s = keys_sorted c.args.children.now.items c.self.invariant c.self.view_is c.requires.each in
    above-ascends c.args.byte _
    (subst BytesAscend (keys_entries c.args.children.now.items c.self.invariant c.self.view_is c.requires.each)
    s.ascends)
