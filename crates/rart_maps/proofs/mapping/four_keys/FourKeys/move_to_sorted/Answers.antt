use Rattle.std.proofs.Common.{◌∙◌, length, ap, arith}
use Rattle.rart_maps.proofs.FourLemmas.{keys_count, keys_entries, keys_length, keys_sorted}
use Rattle.rart_maps.proofs.SortedLemmas.{counted, no_items, resized, resized_zip}
use Rattle.rart_maps.proofs.SortedEdits.{kept_by}
use Rattle.rart_maps.proofs.mapping.four_keys.FourKeys.move_to_sorted.Goals as goal

pub whole_as_front-copy_from_slice : goal.whole_as_front-copy_from_slice
whole_as_front-copy_from_slice g c = (
  omega (
    arith,
    keys_count c.args.children.now.items c.self.invariant c.self.view_is c.requires.each,
    keys_length c.args.children.now.items c.self.invariant c.self.view_is c.requires.each,
    c.requires.at_most,
  ),
  omega (arith, c.target.invariant.narrow),
)

pub invariant_of-target : goal.invariant_of-target
invariant_of-target g c =
    let s = keys_sorted c.args.children.now.items c.self.invariant c.self.view_is c.requires.each in
    let n = keys_count c.args.children.now.items c.self.invariant c.self.view_is c.requires.each in
    let none = no_items c.target.inside.block.items
    (omega (arith, counted c.target.invariant _ (ap (λ d. d.entries) c.target.view_is), ap length c.requires.empty)) in
    kept_by c.append.ensures.filled (rw (none, c.copy_from_slice.ensures.after, c.keys.ensures)
    (resized s _ n c.target.inside.block.keys g.row.W g.row.W (omega (
      arith,
      c.requires.each,
      c.requires.at_most,
      keys_length c.args.children.now.items c.self.invariant c.self.view_is c.requires.each,
    ))
    (omega arith) c.target.invariant.narrow c.target.invariant.full
    (λ k l m. c.target.invariant.padded k (omega (arith, ap length none)) m)))

pub returns-clause-filled : goal.returns-clause-filled
returns-clause-filled g c =
    let s = keys_sorted c.args.children.now.items c.self.invariant c.self.view_is c.requires.each in
    let n = keys_count c.args.children.now.items c.self.invariant c.self.view_is c.requires.each in
    let none = no_items c.target.inside.block.items
    (omega (arith, counted c.target.invariant _ (ap (λ d. d.entries) c.target.view_is), ap length c.requires.empty)) in
    rw (c.append.ensures.filled, none, c.copy_from_slice.ensures.after, c.keys.ensures)
    (resized_zip s _ n c.target.inside.block.keys
    ∙ keys_entries c.args.children.now.items c.self.invariant c.self.view_is c.requires.each)
