use Rattle.std.proofs.Common.{◌∙◌, ◌-◌, List, length, get_or, sym, ap, arith}
use Rattle.rart_parts.specs.Entries.{child_at}
use Rattle.rart_maps.proofs.SortedLemmas.{counted}
use Rattle.rart_maps.specs.Bounds.{bound_of}
use Rattle.rart_maps.proofs.SortedSearch.{searched, none_below, last_below}
use Rattle.rart_maps.proofs.mapping.sorted_keyed_mapping.SortedKeyedMapping.last_under.Goals as goal

pub first_not_below-end-requires : goal.first_not_below-end-requires
first_not_below-end-requires g c = searched c.keys-keys.ensures c.self.invariant _
    (c.num_children.ensures.count ∙ counted c.self.invariant _ (ap (λ d. d.entries) c.self.view_is))

pub returns-then-end-eq0-clause-last : goal.returns-then-end-eq0-clause-last
returns-then-end-eq0-clause-last g c b l = sym (ap (λ d. child_at b d.entries) c.self.view_is)
    ∙ none_below c.keys-keys.ensures c.self.invariant _
    (c.num_children.ensures.count ∙ counted c.self.invariant _ (ap (λ d. d.entries) c.self.view_is))
    (bound_of c.args.above) c.first_not_below-end.result c.first_not_below-end.ensures c.if-end-eq0.true b l

pub offset_bounds-as_slice-end : goal.offset_bounds-as_slice-end
offset_bounds-as_slice-end g c = omega (
  arith,
  c.first_not_below-end.ensures.0,
  c.num_children.ensures.count,
  counted c.self.invariant _ (ap (λ d. d.entries) c.self.view_is),
  ap length c.as_slice.ensures,
)

pub bounds-as_slice-end : goal.bounds-as_slice-end
bounds-as_slice-end g c = omega (
  arith,
  c.if-end-eq0.false,
  c.first_not_below-end.ensures.0,
  c.num_children.ensures.count,
  counted c.self.invariant _ (ap (λ d. d.entries) c.self.view_is),
  ap length c.as_slice.ensures,
)

pub returns-clause-last : goal.returns-clause-last
returns-clause-last g c = rw (← ap (λ d. d.entries) c.self.view_is)
    (last_below c.keys-keys.ensures c.self.invariant _
    (c.num_children.ensures.count ∙ counted c.self.invariant _ (ap (λ d. d.entries) c.self.view_is))
    (bound_of c.args.above) c.first_not_below-end.result c.first_not_below-end.ensures c.index-as_slice-end.result
    (omega (arith, c.if-end-eq0.false)) (c.index-as_slice-end.is ∙ ap (λ (l : List g.row.N.Denot).
    get_or l (c.first_not_below-end.result - 1) c.index-as_slice-end.result) c.as_slice.ensures))
