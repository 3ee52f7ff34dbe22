use Rattle.std.proofs.Common.{◌≡◌, Option, None, Some, ◌∙◌, sym, ap, arith, refl}
use denote.Bor.{Bor}
use Rattle.std.specs.Option.{option_copied}
use Rattle.std.specs.Prelude.{IsSome}
use Rattle.rart_parts.specs.Entries.{child_at}
use Rattle.rart_parts.proofs.PlaceLemmas.{free_read, used_read}
use Rattle.rart_maps.proofs.DirectLemmas.{numbered_child}
use Rattle.rart_maps.proofs.DirectPlaces.{has_byte}
use Rattle.rart_maps.proofs.mapping.direct_mapping.DirectMapping.last_under.Goals as goal

pub returns-in_default-clause-last : goal.returns-in_default-clause-last
returns-in_default-clause-last g c b h = sym (ap (λ d. child_at b d.entries) c.self.view_is)
    ∙ numbered_child c.self.inside.block.items b ∙ free_read c.self.inside.block.items b
    (sym (c.self.invariant.1 b (omega (arith, h, c.bound.ensures.value, c.bound.ensures.at_most))) ∙ ap
    (λ u. has_byte u.bytes.words b) (sym c.keys.ensures) ∙ c.in_default.ensures b (omega
    (arith, h, c.bound.ensures.value)))

pub unwrap-child-requires : goal.unwrap-child-requires
unwrap-child-requires g c =
    let byte = c.in-Some.byte in
    let x = used_read c.self.inside.block.items byte
    (sym (c.self.invariant.1 byte (omega (arith, c.in-Some.ensures.0, c.bound.ensures.at_most))) ∙ ap
    (λ u. has_byte u.bytes.words byte) (sym c.keys.ensures) ∙ c.in-Some.ensures.1) in
    let here = sym (ap (λ d. child_at byte d.entries) c.self.view_is)
    ∙ numbered_child c.self.inside.block.items byte ∙ x.1 in
    some_is c.seek_child.result x.0 (c.seek_child.ensures ∙ here)
  where
    some_is : {X : Type 0} (lent : Option (Bor X)) (x : X) → option_copied lent ≡ Some x → IsSome lent
    some_is None x e = cc
    some_is (Some y) x e = refl

pub returns-clause-last : goal.returns-clause-last
returns-clause-last g c = (
  omega (arith, c.in-Some.ensures.0, c.bound.ensures.value),
  sym c.seek_child.ensures ∙ ap option_copied c.unwrap-child.ensures,
  λ b h l. sym (ap (λ d. child_at b d.entries) c.self.view_is) ∙ numbered_child c.self.inside.block.items b
      ∙ free_read c.self.inside.block.items b
      (sym (c.self.invariant.1 b (omega (arith, l, c.bound.ensures.value, c.bound.ensures.at_most))) ∙ ap
      (λ u. has_byte u.bytes.words b) (sym c.keys.ensures) ∙ c.in-Some.ensures.2 b h (omega
      (arith, l, c.bound.ensures.value))),
)
