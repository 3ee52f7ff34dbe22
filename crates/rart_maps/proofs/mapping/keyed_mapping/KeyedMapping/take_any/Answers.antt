use Rattle.std.proofs.Common.{◌∙◌, Some, get_or, sym, ap, subst, refl}
use Rattle.std.specs.Prelude.{IsSome}
use Rattle.rart_parts.specs.Entries.{child_at, sorted_entries}
use Rattle.rart_parts.proofs.PlaceLemmas.{used_read}
use Rattle.rart_maps.proofs.KeyedLemmas.{keyed_at, keyed_unused}
use Rattle.rart_maps.proofs.mapping.keyed_mapping.KeyedMapping.take_any.Goals as goal

pub returns-in_default : goal.returns-in_default
returns-in_default g c =
    let none = ap sorted_entries (sym c.self.view_is) ∙ keyed_unused c.self.invariant c.in_default.ensures in
    (none, none)

pub unwrap-child-requires : goal.unwrap-child-requires
unwrap-child-requires g c =
    let f = c.in-Some.ensures in
    let x = used_read c.self.inside.children c.in-Some.slot f.1 in
    subst IsSome (sym (c.delete_child.ensures.taken
    ∙ ap (λ es. child_at (get_or c.self.inside.keys c.in-Some.slot 0) (sorted_entries es)) (sym c.self.view_is)
    ∙ keyed_at c.self.invariant.slots (get_or c.self.inside.keys c.in-Some.slot 0) c.in-Some.slot x.0 refl x.1 f.1))
    (is_some x.0)
  where
    is_some : {X : Type 0} (x : X) → IsSome (Some x)
    is_some x = refl

pub returns : goal.returns
returns g c = (sym c.delete_child.ensures.taken ∙ c.unwrap-child.ensures, c.delete_child.ensures.rest)
