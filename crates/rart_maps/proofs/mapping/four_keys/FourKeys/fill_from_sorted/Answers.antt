use Rattle.std.proofs.Common.{◌≡◌, ◌∙◌, [], replicate, length, ap, refl, arith}
use Rattle.std.proofs.lemmas.List.{length-replicate, get_or-replicate, length-take}
use Rattle.rart_maps.proofs.FourLemmas.{keyed-sorted, of_sorted}
use Rattle.rart_maps.proofs.SortedLemmas.{counted, no_items, emptied, resized, resized_zip}
use Rattle.rart_maps.proofs.SortedEdits.{kept_by}
use Rattle.rart_maps.proofs.mapping.four_keys.FourKeys.fill_from_sorted.Goals as goal

pub shared_whole_as_front-copy_from_slice : goal.shared_whole_as_front-copy_from_slice
shared_whole_as_front-copy_from_slice g c = (
  omega (
    arith,
    c.len-count.ensures.count,
    counted c.source.invariant _ (ap (λ d. d.entries) c.source.view_is),
    c.requires.at_most,
  ),
  omega arith,
)

pub slice_bounds-keys-end : goal.slice_bounds-keys-end
slice_bounds-keys-end g c = omega (
  arith,
  c.len-count.ensures.count,
  counted c.source.invariant _ (ap (λ d. d.entries) c.source.view_is),
  c.requires.at_most,
  c.self.invariant.full,
)

pub slice_bounds-copy_from_slice-end : goal.slice_bounds-copy_from_slice-end
slice_bounds-copy_from_slice-end g c = omega (
  arith,
  length-take c.len-count.result c.self.inside.keys,
  c.len-count.ensures.count,
  counted c.source.invariant _ (ap (λ d. d.entries) c.source.view_is),
  c.requires.at_most,
  c.self.invariant.full,
)

pub copy_from_slice-requires : goal.copy_from_slice-requires
copy_from_slice-requires g c = omega (
  arith,
  length-take c.len-count.result c.self.inside.keys,
  length-take c.len-count.result c.keys.result.now,
  ap length c.keys.ensures,
  c.source.invariant.full,
  c.source.invariant.few,
  c.len-count.ensures.count,
  counted c.source.invariant _ (ap (λ d. d.entries) c.source.view_is),
  c.requires.at_most,
  c.self.invariant.full,
)

pub invariant_of-self : goal.invariant_of-self
invariant_of-self g c =
    let none = no_items c.args.children.now.items (omega (arith, c.requires.each, ap length c.requires.empty)) in
    let unused : c.self.inside.count ≡ 0 = omega (
      arith,
      length-take c.self.inside.count c.self.inside.keys,
      ap length c.self.view_is,
      ap length c.requires.empty,
      c.self.invariant.full,
      c.self.invariant.few,
    ) in
    rw (c.copy_from_slice.ensures.after, c.keys.ensures)
    (of_sorted (resized c.source.invariant _ c.len-count.ensures.count c.self.inside.keys 4 4
    (omega (arith, counted c.source.invariant _ (ap (λ d. d.entries) c.source.view_is), c.requires.at_most))
    (omega arith) (omega arith) c.self.invariant.full (λ k l m. c.self.invariant.padded k (omega (arith, unused)) m))
    _ c.len-count.ensures.count)

pub invariant_of-source : goal.invariant_of-source
invariant_of-source g c = kept_by c.append.ensures.emptied
    (emptied c.source.invariant (replicate g.row.W 255) [] (length-replicate g.row.W 255) refl g.row.W refl
    (λ k l m. get_or-replicate g.row.W k 255 0 m))

pub returns-clause-filled : goal.returns-clause-filled
returns-clause-filled g c =
    let none = no_items c.args.children.now.items (omega (arith, c.requires.each, ap length c.requires.empty)) in
    let unused : c.self.inside.count ≡ 0 = omega (
      arith,
      length-take c.self.inside.count c.self.inside.keys,
      ap length c.self.view_is,
      ap length c.requires.empty,
      c.self.invariant.full,
      c.self.invariant.few,
    ) in
    rw (c.append.ensures.filled, none, c.copy_from_slice.ensures.after, c.keys.ensures)
    (keyed-sorted
    (resized c.source.invariant _ c.len-count.ensures.count c.self.inside.keys 4 4
    (omega (arith, counted c.source.invariant _ (ap (λ d. d.entries) c.source.view_is), c.requires.at_most))
    (omega arith) (omega arith) c.self.invariant.full (λ k l m. c.self.invariant.padded k (omega (
      arith,
      unused,
    )) m)) _ c.len-count.ensures.count
    ∙ resized_zip c.source.invariant _ c.len-count.ensures.count c.self.inside.keys
    ∙ ap (λ d. d.entries) c.source.view_is)
