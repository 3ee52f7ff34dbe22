use Rattle.std.proofs.Common.{◌<◌, ◌+◌, ◌∙◌, ◌∷◌, [], length, ap, arith, set}
use Rattle.std.proofs.lemmas.List.{length-append, length-set, length-take}
use Rattle.std.proofs.lemmas.List.Edits.{length-insert}
use Rattle.rart_parts.specs.Entries.{child_at, with_entry}
use Rattle.rart_maps.proofs.FourLemmas.{keyed-sorted, keys_count, keys_entries, keys_length, keys_sorted, of_sorted}
use Rattle.rart_maps.proofs.SortedEdits.{last_kept, last_zip, put_kept, put_zip}
use Rattle.rart_maps.proofs.mapping.four_keys.FourKeys.add_child.Goals as goal

pub bounds-self-inside-count : goal.bounds-self-inside-count
bounds-self-inside-count g c = omega (
  arith,
  keys_count c.args.children.now.items c.self.invariant c.self.view_is c.requires.each,
  keys_length c.args.children.now.items c.self.invariant c.self.view_is c.requires.each,
  c.requires.not_full,
)

pub push-requires : goal.push-requires
push-requires g c = (
  omega arith,
  omega (
    arith,
    keys_length c.args.children.now.items c.self.invariant c.self.view_is c.requires.each,
    c.requires.not_full,
  ),
)

pub invariant_of-self : goal.invariant_of-self
invariant_of-self g c =
    let s = keys_sorted c.args.children.now.items c.self.invariant c.self.view_is c.requires.each in
    let n = keys_count c.args.children.now.items c.self.invariant c.self.view_is c.requires.each in
    let old = keys_entries c.args.children.now.items c.self.invariant c.self.view_is c.requires.each in
    let free : length c.args.children.now.items < 4
    = omega (
      arith,
      c.requires.each,
      c.requires.not_full,
      keys_length c.args.children.now.items c.self.invariant c.self.view_is c.requires.each,
    ) in
    of_sorted (last_kept s c.self.inside.count c.args.key c.args.node n free
    (ap (child_at c.args.key) old ∙ c.requires.absent) (c.goes_last.ensures.0 c.if-goes_last.true)) _
    (omega (arith, n, length-append c.args.children.now.items (c.args.node ∷ [])))

pub returns-then-goes_last-clause-each : goal.returns-then-goes_last-clause-each
returns-then-goes_last-clause-each g c =
    let n = keys_count c.args.children.now.items c.self.invariant c.self.view_is c.requires.each in
    let free : length c.args.children.now.items < 4
    = omega (
      arith,
      c.requires.each,
      c.requires.not_full,
      keys_length c.args.children.now.items c.self.invariant c.self.view_is c.requires.each,
    ) in
    rw c.push.ensures (omega (
      arith,
      n,
      free,
      c.self.invariant.full,
      length-take (c.self.inside.count + 1) (set c.self.inside.keys c.self.inside.count c.args.key),
      length-set c.self.inside.keys c.self.inside.count c.args.key,
      length-append c.args.children.now.items (c.args.node ∷ []),
    ))

pub copy_within-requires-clause-dest_in_bounds : goal.copy_within-requires-clause-dest_in_bounds
copy_within-requires-clause-dest_in_bounds g c = omega (
  arith,
  c.first_above-at.ensures.0,
  c.self.invariant.full,
  keys_count c.args.children.now.items c.self.invariant c.self.view_is c.requires.each,
  keys_length c.args.children.now.items c.self.invariant c.self.view_is c.requires.each,
  c.requires.not_full,
)

pub returns-then-goes_last-clause-entries : goal.returns-then-goes_last-clause-entries
returns-then-goes_last-clause-entries g c =
    let s = keys_sorted c.args.children.now.items c.self.invariant c.self.view_is c.requires.each in
    let n = keys_count c.args.children.now.items c.self.invariant c.self.view_is c.requires.each in
    let old = keys_entries c.args.children.now.items c.self.invariant c.self.view_is c.requires.each in
    let free : length c.args.children.now.items < 4
    = omega (
      arith,
      c.requires.each,
      c.requires.not_full,
      keys_length c.args.children.now.items c.self.invariant c.self.view_is c.requires.each,
    ) in
    let absent = ap (child_at c.args.key) old ∙ c.requires.absent in
    let place = c.goes_last.ensures.0 c.if-goes_last.true in
    rw c.push.ensures
    (keyed-sorted (last_kept s c.self.inside.count c.args.key c.args.node n free absent place) _
    (omega (arith, n, length-append c.args.children.now.items (c.args.node ∷ [])))
    ∙ last_zip s c.self.inside.count c.args.key c.args.node n free absent place
    ∙ ap (with_entry c.args.key c.args.node) old)

pub invariant_of-self-2 : goal.invariant_of-self-2
invariant_of-self-2 g c =
    let s = keys_sorted c.args.children.now.items c.self.invariant c.self.view_is c.requires.each in
    let n = keys_count c.args.children.now.items c.self.invariant c.self.view_is c.requires.each in
    let old = keys_entries c.args.children.now.items c.self.invariant c.self.view_is c.requires.each in
    let free : length c.args.children.now.items < 4
    = omega (
      arith,
      c.requires.each,
      c.requires.not_full,
      keys_length c.args.children.now.items c.self.invariant c.self.view_is c.requires.each,
    ) in
    let absent = ap (child_at c.args.key) old ∙ c.requires.absent in
    let by = c.copy_within.ensures.by_index in
    of_sorted (put_kept s c.self.inside.count c.args.key c.args.node n free absent c.first_above-at.result
    c.copy_within.new.self c.first_above-at.ensures c.copy_within.ensures.len by.0 by.1 by.2) _
    (omega (
      arith,
      n,
      length-insert c.args.children.now.items c.first_above-at.result c.args.node
          (omega (arith, c.first_above-at.ensures.0, n)),
    ))

pub returns-clause-entries : goal.returns-clause-entries
returns-clause-entries g c =
    let s = keys_sorted c.args.children.now.items c.self.invariant c.self.view_is c.requires.each in
    let n = keys_count c.args.children.now.items c.self.invariant c.self.view_is c.requires.each in
    let old = keys_entries c.args.children.now.items c.self.invariant c.self.view_is c.requires.each in
    let free : length c.args.children.now.items < 4
    = omega (
      arith,
      c.requires.each,
      c.requires.not_full,
      keys_length c.args.children.now.items c.self.invariant c.self.view_is c.requires.each,
    ) in
    let absent = ap (child_at c.args.key) old ∙ c.requires.absent in
    let by = c.copy_within.ensures.by_index in
    rw c.insert.ensures
    (keyed-sorted (put_kept s c.self.inside.count c.args.key c.args.node n free absent c.first_above-at.result
    c.copy_within.new.self c.first_above-at.ensures c.copy_within.ensures.len by.0 by.1 by.2) _
    (omega (
      arith,
      n,
      length-insert c.args.children.now.items c.first_above-at.result c.args.node
          (omega (arith, c.first_above-at.ensures.0, n)),
    ))
    ∙ put_zip s c.self.inside.count c.args.key c.args.node n free absent c.first_above-at.result
    c.copy_within.new.self c.first_above-at.ensures c.copy_within.ensures.len by.0 by.1 by.2
    ∙ ap (with_entry c.args.key c.args.node) old)
