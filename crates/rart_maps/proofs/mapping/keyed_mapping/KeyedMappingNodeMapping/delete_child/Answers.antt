use Rattle.std.proofs.Common.{◌∙◌, sym, ap, set, arith}
use Rattle.rart_parts.specs.Entries.{without_byte, sorted_entries}
use Rattle.rart_maps.specs.Keyed.{with_keys}
use Rattle.rart_parts.proofs.entries.EntryLemmas.{without_absent}
use Rattle.rart_maps.proofs.KeyedLemmas.{keyed_some, keyed_none, keyed_taken, mapping_taken, some_left}
use Rattle.rart_maps.proofs.mapping.keyed_mapping.KeyedMappingNodeMapping.delete_child.Goals as goal

pub returns-in_default-clause-taken : goal.returns-in_default-clause-taken
returns-in_default-clause-taken g c = rw (← c.self.view_is)
    (sym (keyed_none c.self.invariant.slots c.args.key
    (λ k h. c.in_default.ensures k (omega (arith, h, c.self.invariant.full)))))

pub returns-in_default-clause-rest : goal.returns-in_default-clause-rest
returns-in_default-clause-rest g c =
    let none = keyed_none c.self.invariant.slots c.args.key
    (λ k h. c.in_default.ensures k (omega (arith, h, c.self.invariant.full))) in
    ap sorted_entries (sym c.self.view_is) ∙ sym (without_absent c.args.key _ none)
    ∙ ap (λ es. without_byte c.args.key (sorted_entries es)) c.self.view_is

pub overflow_sub-self : goal.overflow_sub-self
overflow_sub-self g c =
    let f = c.in-Some.ensures in
    let x = keyed_some c.self.invariant.slots c.args.key c.in-Some.slot (omega (arith, f.0, c.self.invariant.full))
    f.1 in
    omega (arith, some_left c.self.invariant c.args.key c.in-Some.slot x.0 x.1.0 x.1.1 x.1.2)

pub invariant_of-self : goal.invariant_of-self
invariant_of-self g c =
    let f = c.in-Some.ensures in
    let x = keyed_some c.self.invariant.slots c.args.key c.in-Some.slot (omega (arith, f.0, c.self.invariant.full))
    f.1 in
    rw c.erase.ensures.new (mapping_taken c.self.invariant c.args.key c.in-Some.slot x.0 x.1.0 x.1.1 x.1.2)

pub returns-clause-taken : goal.returns-clause-taken
returns-clause-taken g c =
    let f = c.in-Some.ensures in
    let x = keyed_some c.self.invariant.slots c.args.key c.in-Some.slot (omega (arith, f.0, c.self.invariant.full))
    f.1 in
    rw (← c.self.view_is) (c.erase.ensures.old ∙ x.1.2 ∙ sym x.1.3)

pub returns-clause-rest : goal.returns-clause-rest
returns-clause-rest g c =
    let f = c.in-Some.ensures in
    let x = keyed_some c.self.invariant.slots c.args.key c.in-Some.slot (omega (arith, f.0, c.self.invariant.full))
    f.1 in
    ap (λ os. sorted_entries (with_keys (set c.self.inside.keys c.in-Some.slot 255) os)) c.erase.ensures.new
    ∙ keyed_taken c.self.invariant.slots c.args.key c.in-Some.slot x.0 x.1.0 x.1.1 x.1.2
    ∙ ap (λ es. without_byte c.args.key (sorted_entries es)) c.self.view_is
