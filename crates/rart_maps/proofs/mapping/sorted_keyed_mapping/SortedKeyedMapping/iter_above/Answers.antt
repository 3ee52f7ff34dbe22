use Rattle.std.proofs.Common.{◌∙◌, ap, subst, arith}
use Rattle.rart_parts.specs.Entries.{BytesAscend, entries_above}
use Rattle.rart_parts.specs.Keys.{IsFirstAbove}
use Rattle.rart_parts.proofs.entries.EntryLemmas.{above-ascends, from_place}
use Rattle.rart_maps.proofs.SortedLemmas.{fits, zip_above}
use Rattle.rart_maps.proofs.SortedSearch.{searched}
use Rattle.rart_maps.proofs.mapping.sorted_keyed_mapping.SortedKeyedMapping.iter_above.Goals as goal

pub first_above-at-requires : goal.first_above-at-requires
first_above-at-requires g c = searched c.keys-2.ensures c.self.invariant _ c.len.ensures.count

pub returns-clause-entries : goal.returns-clause-entries
returns-clause-entries g c =
    let place = subst (λ k. IsFirstAbove k c.len.result c.args.byte c.first_above-at.result) c.keys-2.ensures
    c.first_above-at.ensures in
    rw (
      c.as_slice.ensures,
      c.keys.ensures,
      from_place c.first_above-at.result c.self.inside.block.keys,
      from_place c.first_above-at.result c.self.inside.block.items,
    ) (zip_above c.args.byte c.first_above-at.result c.self.inside.block.keys c.self.inside.block.items
    (fits c.self.invariant) c.self.invariant.ascends (omega (arith, place.0, c.len.ensures.count))
    place.1 (λ l. place.2 (omega (arith, l, c.len.ensures.count)))
    ∙ ap (λ d. entries_above c.args.byte d.entries) c.self.view_is)

pub returns-clause-ascending : goal.returns-clause-ascending
returns-clause-ascending g c = above-ascends c.args.byte _
    (subst (λ d. BytesAscend d.entries) c.self.view_is c.self.invariant.ascends)
