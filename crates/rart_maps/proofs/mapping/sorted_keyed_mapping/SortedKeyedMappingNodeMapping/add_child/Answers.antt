use Rattle.std.proofs.Common.{◌∙◌, length, subst, ap, arith}
use Rattle.rart_parts.specs.Entries.{child_at, with_entry}
use Rattle.rart_parts.specs.Keys.{IsFirstAbove}
use Rattle.rart_maps.proofs.SortedLemmas.{counted}
use Rattle.rart_maps.proofs.SortedEdits.{kept_by, last_kept, last_zip, put_kept, put_zip}
use Rattle.rart_maps.proofs.SortedSearch.{searched}
use Rattle.rart_maps.proofs.mapping.sorted_keyed_mapping.SortedKeyedMappingNodeMapping.add_child.Goals as goal

pub goes_last-requires : goal.goes_last-requires
goes_last-requires g c = let s = searched c.keys.ensures c.self.invariant _ c.len-count.ensures.count in
    (s.0, (s.1.0, s.1.1.0))

pub bounds-keys_mut-count : goal.bounds-keys_mut-count
bounds-keys_mut-count g c = omega (
  arith,
  c.len-count.ensures.count,
  c.requires.not_full,
  counted c.self.invariant _ (ap (λ d. d.entries) c.self.view_is),
)

pub push-requires : goal.push-requires
push-requires g c = (
  omega arith,
  omega (arith, c.requires.not_full, counted c.self.invariant _ (ap (λ d. d.entries) c.self.view_is)),
)

pub invariant_of-self : goal.invariant_of-self
invariant_of-self g c = kept_by c.push.ensures (rw c.keys_mut.ensures.value
    (last_kept c.self.invariant c.len-count.result c.args.key c.args.node c.len-count.ensures.count
    (omega (arith, c.requires.not_full, counted c.self.invariant _ (ap (λ d. d.entries) c.self.view_is)))
    (ap (λ d. child_at c.args.key d.entries) c.self.view_is ∙ c.requires.absent)
    (subst (λ k. IsFirstAbove k c.len-count.result c.args.key c.len-count.result) c.keys.ensures
    (c.goes_last.ensures.0 c.if-goes_last.true))))

pub returns-then-goes_last-clause-entries : goal.returns-then-goes_last-clause-entries
returns-then-goes_last-clause-entries g c = rw (c.push.ensures, c.keys_mut.ensures.value)
    (last_zip c.self.invariant c.len-count.result c.args.key c.args.node c.len-count.ensures.count
    (omega (arith, c.requires.not_full, counted c.self.invariant _ (ap (λ d. d.entries) c.self.view_is)))
    (ap (λ d. child_at c.args.key d.entries) c.self.view_is ∙ c.requires.absent)
    (subst (λ k. IsFirstAbove k c.len-count.result c.args.key c.len-count.result) c.keys.ensures
    (c.goes_last.ensures.0 c.if-goes_last.true))
    ∙ ap (λ d. with_entry c.args.key c.args.node d.entries) c.self.view_is)

pub first_above-at-requires : goal.first_above-at-requires
first_above-at-requires g c = searched c.keys-2.ensures c.self.invariant _ c.len-count.ensures.count

pub copy_within-requires-clause-dest_in_bounds : goal.copy_within-requires-clause-dest_in_bounds
copy_within-requires-clause-dest_in_bounds g c = omega (
  arith,
  c.first_above-at.ensures.0,
  c.len-count.ensures.count,
  ap length c.keys_mut-keys.ensures.value,
  c.self.invariant.full,
  c.requires.not_full,
  counted c.self.invariant _ (ap (λ d. d.entries) c.self.view_is),
)

pub invariant_of-self-2 : goal.invariant_of-self-2
invariant_of-self-2 g c =
    let by = rw c.keys_mut-keys.ensures.value at c.copy_within.ensures.by_index in
    kept_by c.insert.ensures
    (put_kept c.self.invariant c.len-count.result c.args.key c.args.node c.len-count.ensures.count
    (omega (arith, c.requires.not_full, counted c.self.invariant _ (ap (λ d. d.entries) c.self.view_is)))
    (ap (λ d. child_at c.args.key d.entries) c.self.view_is ∙ c.requires.absent)
    c.first_above-at.result c.copy_within.new.self
    (subst (λ k. IsFirstAbove k c.len-count.result c.args.key c.first_above-at.result) c.keys-2.ensures
    c.first_above-at.ensures) (c.copy_within.ensures.len ∙ ap length c.keys_mut-keys.ensures.value) by.0 by.1 by.2)

pub returns-clause-entries : goal.returns-clause-entries
returns-clause-entries g c =
    let by = rw c.keys_mut-keys.ensures.value at c.copy_within.ensures.by_index in
    rw c.insert.ensures
    (put_zip c.self.invariant c.len-count.result c.args.key c.args.node c.len-count.ensures.count
    (omega (arith, c.requires.not_full, counted c.self.invariant _ (ap (λ d. d.entries) c.self.view_is)))
    (ap (λ d. child_at c.args.key d.entries) c.self.view_is ∙ c.requires.absent)
    c.first_above-at.result c.copy_within.new.self
    (subst (λ k. IsFirstAbove k c.len-count.result c.args.key c.first_above-at.result) c.keys-2.ensures
    c.first_above-at.ensures) (c.copy_within.ensures.len ∙ ap length c.keys_mut-keys.ensures.value) by.0 by.1 by.2
    ∙ ap (λ d. with_entry c.args.key c.args.node d.entries) c.self.view_is)
