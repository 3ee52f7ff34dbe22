use Rattle.std.proofs.Common.{◌∙◌, ap, length, set, arith}
use Rattle.rart_parts.specs.Entries.{child_at, with_entry, sorted_entries}
use Rattle.rart_maps.specs.Keyed.{with_keys}
use Rattle.rart_maps.proofs.AnswerReadings.{some_first, not_true}
use Rattle.rart_maps.proofs.KeyedLemmas.{mapping_put, keyed_put, place_left}
use Rattle.rart_maps.proofs.mapping.keyed_mapping.KeyedMappingNodeMapping.add_child.Goals as goal

pub unwrap-slot-requires : goal.unwrap-slot-requires
unwrap-slot-requires g c =
    some_first _ _ c.first_empty.result c.first_empty.ensures
    (place_left c.self.invariant (omega (
      arith,
      c.requires.not_full,
      c.self.invariant.entries,
      ap
          (λ es. length (sorted_entries es)) c.self.view_is,
    )))

pub invariant_of-self : goal.invariant_of-self
invariant_of-self g c =
    let first = rw c.unwrap-slot.ensures at c.first_empty.ensures in
    let absent = ap (λ es. child_at c.args.key (sorted_entries es)) c.self.view_is ∙ c.requires.absent in
    rw c.put.ensures (mapping_put c.self.invariant c.args.key c.unwrap-slot.result c.args.node first.0
    (not_true _ first.1) absent)

pub returns-clause-entries : goal.returns-clause-entries
returns-clause-entries g c =
    let first = rw c.unwrap-slot.ensures at c.first_empty.ensures in
    let absent = ap (λ es. child_at c.args.key (sorted_entries es)) c.self.view_is ∙ c.requires.absent in
    ap (λ os. sorted_entries (with_keys (set c.self.inside.keys c.unwrap-slot.result c.args.key) os)) c.put.ensures
    ∙ keyed_put c.self.invariant.slots c.args.key c.unwrap-slot.result c.args.node
    (omega (arith, first.0, c.self.invariant.full)) (not_true _ first.1) absent
    ∙ ap (λ es. with_entry c.args.key c.args.node (sorted_entries es)) c.self.view_is
