use Rattle.std.proofs.Common.{◌≡◌, Option, None, Some, ◌∙◌, sym, ap, arith, refl}
use denote.Bor.{Bor}
use Rattle.std.specs.Option.{option_copied}
use Rattle.std.specs.Prelude.{IsSome}
use Rattle.rart_parts.specs.Entries.{sorted_entries, child_at}
use Rattle.rart_parts.specs.Places.{is_used}
use Rattle.rart_parts.proofs.PlaceLemmas.{free_read, used_read}
use Rattle.rart_maps.proofs.DenseLemmas.{dense_none, dense_some, filled_read}
use Rattle.rart_maps.proofs.mapping.indexed_mapping.IndexedMapping.last_under.Goals as goal

pub returns-in_default-clause-last : goal.returns-in_default-clause-last
returns-in_default-clause-last g c b h = sym (ap (λ d. child_at b (sorted_entries d.entries)) c.self.view_is)
    ∙ dense_none c.self.invariant b (free_read c.self.inside.block.keys.index b
    (ap (λ s. is_used s.index b) (sym c.keys.ensures) ∙ c.in_default.ensures b
    (omega (arith, h, c.bound.ensures.value))))

pub unwrap-child-requires : goal.unwrap-child-requires
unwrap-child-requires g c =
    let byte = c.in-Some.byte in
    let slot = used_read c.self.inside.block.keys.index byte
    (ap (λ s. is_used s.index byte) (sym c.keys.ensures) ∙ c.in-Some.ensures.1) in
    let x = filled_read c.self.inside.block.items slot.0 (c.self.invariant.has_child byte slot.0 slot.1) in
    let here = sym (ap (λ d. child_at byte (sorted_entries d.entries)) c.self.view_is)
    ∙ dense_some c.self.invariant byte slot.0 slot.1 ∙ x.1 in
    some_is c.seek_child.result x.0 (c.seek_child.ensures ∙ here)
  where
    some_is : {X : Type 0} (lent : Option (Bor X)) (x : X) → option_copied lent ≡ Some x → IsSome lent
    some_is None x e = cc
    some_is (Some y) x e = refl

pub returns-clause-last : goal.returns-clause-last
returns-clause-last g c = (
  omega (arith, c.in-Some.ensures.0, c.bound.ensures.value),
  sym c.seek_child.ensures ∙ ap option_copied c.unwrap-child.ensures,
  λ b h l. sym (ap (λ d. child_at b (sorted_entries d.entries)) c.self.view_is)
      ∙ dense_none c.self.invariant b (free_read c.self.inside.block.keys.index b
      (ap (λ s. is_used s.index b) (sym c.keys.ensures)
      ∙ c.in-Some.ensures.2 b h (omega (arith, l, c.bound.ensures.value)))),
)
