use Rattle.std.proofs.Common.{◌∙◌, Some, sym, ap, arith, subst, ⊎_elim, refl}
use Rattle.std.specs.Prelude.{IsSome}
use Rattle.std.proofs.lemmas.Bool.{cases_lt}
use Rattle.rart_parts.specs.Entries.{child_at}
use Rattle.rart_parts.proofs.PlaceLemmas.{free_read, past_used, used_read}
use Rattle.rart_maps.proofs.MoveLemmas.{empty_map}
use Rattle.rart_maps.proofs.DirectLemmas.{numbered_child}
use Rattle.rart_maps.proofs.DirectPlaces.{has_byte}
use Rattle.rart_maps.proofs.mapping.direct_mapping.DirectMapping.first_byte.Goals as goal

pub returns-in_default-clause-some : goal.returns-in_default-clause-some
returns-in_default-clause-some g c =
    let os = c.self.inside.block.items in
    sym (ap (λ d. d.entries) c.self.view_is) ∙ empty_map _ (λ b. numbered_child os b ∙ free_read os b (⊎_elim
    (λ h. sym (c.self.invariant.1 b h) ∙ ap (λ u. has_byte u.bytes.words b) (sym c.keys.ensures) ∙
    c.in_default.ensures b h)
    (λ h. past_used os b (omega (arith, h, c.self.invariant.0.full))) (cases_lt b 256)))

pub returns-clause-some : goal.returns-clause-some
returns-clause-some g c =
    let f = c.in-Some.ensures in
    let x = used_read c.self.inside.block.items c.in-Some.byte (sym (c.self.invariant.1 c.in-Some.byte f.0) ∙ ap
    (λ u. has_byte u.bytes.words c.in-Some.byte) (sym c.keys.ensures) ∙ f.1) in
    subst IsSome (sym (sym (ap (λ d. child_at c.in-Some.byte d.entries) c.self.view_is)
    ∙ numbered_child c.self.inside.block.items c.in-Some.byte ∙ x.1)) (is_some x.0)
  where
    is_some : {X : Type 0} (x : X) → IsSome (Some x)
    is_some x = refl

pub returns-clause-least : goal.returns-clause-least
returns-clause-least g c b h =
    let f = c.in-Some.ensures in
    sym (ap (λ d. child_at b d.entries) c.self.view_is) ∙ numbered_child c.self.inside.block.items b
    ∙ free_read c.self.inside.block.items b (sym (c.self.invariant.1 b (omega (arith, h, f.0))) ∙ ap
    (λ u. has_byte u.bytes.words b) (sym c.keys.ensures) ∙ f.2 b h)
