use Rattle.std.proofs.Common.{◌∙◌, Some, sym, ap, arith, subst, ⊎_elim, refl}
use Rattle.std.specs.Prelude.{IsSome}
use Rattle.std.proofs.lemmas.Bool.{cases_lt}
use Rattle.rart_parts.specs.Entries.{child_at, sorted_entries}
use Rattle.rart_parts.specs.Places.{is_used}
use Rattle.rart_parts.proofs.PlaceLemmas.{free_read, past_used, used_read}
use Rattle.rart_maps.proofs.MoveLemmas.{empty_map}
use Rattle.rart_maps.proofs.DenseLemmas.{dense_none, dense_some, filled_read}
use Rattle.rart_maps.proofs.mapping.indexed_mapping.IndexedMapping.first_byte.Goals as goal

pub returns-in_default-clause-some : goal.returns-in_default-clause-some
returns-in_default-clause-some g c =
    let at = c.self.inside.block.keys.index in
    sym (ap (λ d. sorted_entries d.entries) c.self.view_is) ∙ empty_map _
    (λ b. dense_none c.self.invariant b (free_read at b (⊎_elim
    (λ h. ap (λ s. is_used s.index b) (sym c.keys.ensures) ∙ c.in_default.ensures b h)
    (λ h. past_used at b (omega (arith, h, c.self.invariant.whole))) (cases_lt b 256))))

pub returns-clause-some : goal.returns-clause-some
returns-clause-some g c =
    let slot = used_read c.self.inside.block.keys.index c.in-Some.byte
    (ap (λ s. is_used s.index c.in-Some.byte) (sym c.keys.ensures) ∙ c.in-Some.ensures.1) in
    let x = filled_read c.self.inside.block.items slot.0 (c.self.invariant.has_child c.in-Some.byte slot.0 slot.1) in
    let here = sym (ap (λ d. child_at c.in-Some.byte (sorted_entries d.entries)) c.self.view_is)
    ∙ dense_some c.self.invariant c.in-Some.byte slot.0 slot.1 ∙ x.1 in
    subst IsSome (sym here) (is_some x.0)
  where
    is_some : {X : Type 0} (x : X) → IsSome (Some x)
    is_some x = refl

pub returns-clause-least : goal.returns-clause-least
returns-clause-least g c b h = sym (ap (λ d. child_at b (sorted_entries d.entries)) c.self.view_is)
    ∙ dense_none c.self.invariant b (free_read c.self.inside.block.keys.index b
    (ap (λ s. is_used s.index b) (sym c.keys.ensures) ∙ c.in-Some.ensures.2 b h))
