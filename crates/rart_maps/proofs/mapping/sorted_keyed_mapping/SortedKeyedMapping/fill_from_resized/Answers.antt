use Rattle.std.proofs.Common.{◌∙◌, [], replicate, length, ap, refl, arith}
use Rattle.std.proofs.lemmas.List.{length-replicate, get_or-replicate}
use Rattle.rart_maps.proofs.SortedLemmas.{counted, no_items, emptied, resized, resized_zip}
use Rattle.rart_maps.proofs.SortedEdits.{kept_by}
use Rattle.rart_maps.proofs.mapping.sorted_keyed_mapping.SortedKeyedMapping.fill_from_resized.Goals as goal

pub whole_as_front-copy_from_slice : goal.whole_as_front-copy_from_slice
whole_as_front-copy_from_slice g c = (
  omega (
    arith,
    c.len-count.ensures.count,
    counted c.source.invariant _ (ap (λ d. d.entries) c.source.view_is),
    c.requires.at_most,
  ),
  omega (arith, c.self.invariant.narrow),
)

pub append-requires : goal.append-requires
append-requires g c = (
  omega arith,
  (
    omega arith,
    omega (
      arith,
      counted c.source.invariant _ (ap (λ d. d.entries) c.source.view_is),
      counted c.self.invariant _ (ap (λ d. d.entries) c.self.view_is),
      ap length c.requires.empty,
      c.requires.at_most,
    ),
  ),
)

pub invariant_of-self : goal.invariant_of-self
invariant_of-self g c =
    let none = no_items c.self.inside.block.items
    (omega (arith, counted c.self.invariant _ (ap (λ d. d.entries) c.self.view_is), ap length c.requires.empty)) in
    kept_by c.append.ensures.filled (rw (none, c.copy_from_slice.ensures.after, c.keys-2.ensures, c.keys.ensures)
    (resized c.source.invariant _ c.len-count.ensures.count c.self.inside.block.keys g.row.W g.row.W
    (omega (arith, counted c.source.invariant _ (ap (λ d. d.entries) c.source.view_is), c.requires.at_most))
    (omega arith) c.self.invariant.narrow c.self.invariant.full
    (λ k l m. c.self.invariant.padded k (omega (arith, ap length none)) m)))

pub invariant_of-source : goal.invariant_of-source
invariant_of-source g c = kept_by c.append.ensures.emptied
    (emptied c.source.invariant (replicate g.row.U 255) [] (length-replicate g.row.U 255) refl g.row.U refl
    (λ k l m. get_or-replicate g.row.U k 255 0 m))

pub returns-clause-filled : goal.returns-clause-filled
returns-clause-filled g c =
    let none = no_items c.self.inside.block.items
    (omega (arith, counted c.self.invariant _ (ap (λ d. d.entries) c.self.view_is), ap length c.requires.empty)) in
    rw (c.append.ensures.filled, none, c.copy_from_slice.ensures.after, c.keys-2.ensures, c.keys.ensures)
    (resized_zip c.source.invariant _ c.len-count.ensures.count c.self.inside.block.keys
    ∙ ap (λ d. d.entries) c.source.view_is)
