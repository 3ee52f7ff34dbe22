use Rattle.std.proofs.Common.{◌∙◌, ◌-◌, List, get_or, sym, ap, subst, arith, refl}
use Rattle.rart_parts.specs.Entries.{BytesAscend, child_at}
use Rattle.rart_maps.specs.Bounds.{bound_of}
use Rattle.rart_maps.proofs.FourLemmas.{keys_count, keys_entries, keys_sorted}
use Rattle.rart_maps.proofs.SortedSearch.{last_below, none_below}
use Rattle.rart_maps.proofs.Zipped.{child_none}
use Rattle.rart_maps.proofs.mapping.four_keys.FourKeys.last_under.Goals as goal

pub returns-then-end-eq0-clause-last : goal.returns-then-end-eq0-clause-last
returns-then-end-eq0-clause-last g c b l =
    let s = keys_sorted c.args.children.now.items c.self.invariant c.self.view_is c.requires.each in
    let n = keys_count c.args.children.now.items c.self.invariant c.self.view_is c.requires.each in
    let old = keys_entries c.args.children.now.items c.self.invariant c.self.view_is c.requires.each in
    sym (ap (child_at b) old) ∙ none_below refl s _ n (bound_of c.args.above) c.first_not_below-end.result
    c.first_not_below-end.ensures c.if-end-eq0.true b l

pub returns-then-end-eq0-clause-ascending : goal.returns-then-end-eq0-clause-ascending
returns-then-end-eq0-clause-ascending g c =
    let s = keys_sorted c.args.children.now.items c.self.invariant c.self.view_is c.requires.each in
    subst BytesAscend (keys_entries c.args.children.now.items c.self.invariant c.self.view_is c.requires.each) s.ascends

pub returns-then-end-eq0-clause-bytes : goal.returns-then-end-eq0-clause-bytes
returns-then-end-eq0-clause-bytes g c b h
    = sym (ap (child_at b) (keys_entries c.args.children.now.items c.self.invariant c.self.view_is c.requires.each))
    ∙ child_none b c.self.inside.keys c.args.children.now.items (λ j l e. omega (
      arith,
      h,
      e,
      c.keys_are_bytes.ensures j,
    ))

pub returns-clause-last : goal.returns-clause-last
returns-clause-last g c =
    let s = keys_sorted c.args.children.now.items c.self.invariant c.self.view_is c.requires.each in
    let n = keys_count c.args.children.now.items c.self.invariant c.self.view_is c.requires.each in
    let old = keys_entries c.args.children.now.items c.self.invariant c.self.view_is c.requires.each in
    rw (← old) (last_below refl s _ n (bound_of c.args.above) c.first_not_below-end.result c.first_not_below-end.ensures
    c.index-as_slice-end.result (omega (arith, c.if-end-eq0.false)) (c.index-as_slice-end.is
    ∙ ap (λ (l : List g.row.N.Denot). get_or l (c.first_not_below-end.result - 1) c.index-as_slice-end.result)
    c.as_slice.ensures))

pub returns-clause-ascending : goal.returns-clause-ascending
returns-clause-ascending g c =
    let s = keys_sorted c.args.children.now.items c.self.invariant c.self.view_is c.requires.each in
    subst BytesAscend (keys_entries c.args.children.now.items c.self.invariant c.self.view_is c.requires.each) s.ascends

pub returns-clause-bytes : goal.returns-clause-bytes
returns-clause-bytes g c b h
    = sym (ap (child_at b) (keys_entries c.args.children.now.items c.self.invariant c.self.view_is c.requires.each))
    ∙ child_none b c.self.inside.keys c.args.children.now.items (λ j l e. omega (
      arith,
      h,
      e,
      c.keys_are_bytes.ensures j,
    ))
