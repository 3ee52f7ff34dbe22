use Rattle.std.proofs.Common.{◌∙◌, sym, ap, refl, subst, arith}
use Rattle.rart_parts.specs.Entries.{replaced_at, sorted_entries}
use Rattle.rart_maps.specs.Keyed.{with_keys, IsKeyed}
use Rattle.rart_maps.proofs.SortedLemmas.{on_any}
use Rattle.rart_maps.proofs.AnswerReadings.{from_some}
use Rattle.rart_maps.proofs.KeyedLemmas.{keyed_some, keyed_none, keyed_written, mapping_written}
use Rattle.rart_maps.proofs.mapping.keyed_mapping.KeyedMappingNodeMapping.seek_child_mut.Goals as goal

pub invariant_of-self-lent : goal.invariant_of-self-lent
invariant_of-self-lent g c =
    let f = c.in-Some.ensures in
    let x = keyed_some c.self.invariant.slots c.args.key c.in-Some.slot (omega (arith, f.0, c.self.invariant.full))
    f.1 in
    λ _. (
      λ w. subst (λ os. IsKeyed g.row.W c.self.inside.keys os c.self.inside.num_children)
          (sym (from_some c.get_mut.result x.0 (c.get_mut.ensures.value ∙ x.1.2) (c.get_mut.follows.holds w)))
          (mapping_written c.self.invariant c.args.key c.in-Some.slot x.0 x.1.0 x.1.1 x.1.2 w),
      subst (λ os. IsKeyed g.row.W c.self.inside.keys os c.self.inside.num_children)
          (sym c.get_mut.follows.holds-at-none) c.self.invariant,
    )

pub returns-in-Some : goal.returns-in-Some
returns-in-Some g c =
    let f = c.in-Some.ensures in
    let ks = c.self.inside.keys in
    let x = keyed_some c.self.invariant.slots c.args.key c.in-Some.slot (omega (arith, f.0, c.self.invariant.full))
    f.1 in (
      (
        refl,
        λ w. on_any c.get_mut.result (
          ap (λ os. sorted_entries (with_keys ks os))
              (from_some c.get_mut.result x.0 (c.get_mut.ensures.value ∙ x.1.2) (c.get_mut.follows.holds w))
              ∙ keyed_written c.self.invariant.slots c.args.key c.in-Some.slot x.0 x.1.0 x.1.1 x.1.2 w
              ∙ ap (λ es. replaced_at c.args.key w (sorted_entries es)) c.self.view_is,
          tt,
        ),
        (
          ap (λ os. sorted_entries (with_keys ks os)) c.get_mut.follows.holds-at-none
              ∙ ap sorted_entries c.self.view_is,
          tt,
        ),
      ),
      record { writes_back = tt; value = rw (← c.self.view_is) (c.get_mut.ensures.value ∙ x.1.2 ∙ sym x.1.3) },
    )

pub returns-in-None : goal.returns-in-None
returns-in-None g c = (
  (refl, λ w. tt, (ap sorted_entries c.self.view_is, tt)),
  record {
    writes_back = tt;
    value = rw (← c.self.view_is)
        (sym (keyed_none c.self.invariant.slots c.args.key
        (λ k h. c.in-None.ensures k (omega (arith, h, c.self.invariant.full)))));
  },
)
