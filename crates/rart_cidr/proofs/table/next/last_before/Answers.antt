use Rattle.std.proofs.Common.{◌≡◌, ◌<◌, ◌∷◌, Some, ap, arith, subst, sym, ◌∙◌, drop}
use Rattle.std.specs.Prelude.{option_map}
use Rattle.rart_keys.specs.ByteStrings.{strip_prefix}
use Rattle.rart_keys.specs.KeyBytes.{AreBytes}
use Rattle.rart_cidr.specs.Walks.{IsLastBefore}
use Rattle.rart_cidr.proofs.walks.NextLemmas.{byte_in, first_is, last_at_itself, last_elsewhere, last_inside}
use Rattle.rart_cidr.proofs.walks.NextLemmas.{last_of_none}
use Rattle.rart_cidr.proofs.walks.NextLemmas.{nothing_is}
use Rattle.rart_cidr.proofs.networks.PlaceLemmas.{strip_some}
use Rattle.rart_cidr.proofs.table.next.last_before.Goals as goal

pub returns-in_default : goal.returns-in_default
returns-in_default g c = subst (λ z. IsLastBefore c.args.prefix.now (option_map g.K.KeyTrait.bytes z) 255)
    (sym c.in_default.is) (last_of_none c.args.prefix.now)

pub returns-in_default-strip_prefix : goal.returns-in_default-strip_prefix
returns-in_default-strip_prefix g c =
    subst (λ z. IsLastBefore c.args.prefix.now (option_map g.K.KeyTrait.bytes z) 255) (sym c.in-Some.is)
    (last_elsewhere c.args.prefix.now (g.K.KeyTrait.bytes c.in-Some.key) (λ k. (c.type_inv.prefix k).fits)
    (g.met.K.KeyTrait.are_bytes c.in-Some.key)
    (ap (strip_prefix c.args.prefix.now) (sym c.as_ref.ensures) ∙ sym c.in_default-strip_prefix.ensures))

pub returns-in-Some-first : goal.returns-in-Some-first
returns-in-Some-first g c =
    let stripped : strip_prefix c.args.prefix.now (g.K.KeyTrait.bytes c.in-Some.key)
    ≡ Some (c.in-Some-first.field-0.now ∷ drop 1 c.in-Some-strip_prefix.rest.now)
    = ap (strip_prefix c.args.prefix.now) (sym c.as_ref.ensures) ∙ sym c.in-Some-strip_prefix.ensures
    ∙ ap Some (first_is c.in-Some-strip_prefix.rest.now c.in-Some-first.field-0.now c.in-Some-first.ensures.value) in
    let small : c.in-Some-first.field-0.now < 256 = byte_in c.args.prefix.now c.in-Some-first.field-0.now
    (drop 1 c.in-Some-strip_prefix.rest.now) (subst AreBytes (strip_some c.args.prefix.now _ _ stripped)
    (g.met.K.KeyTrait.are_bytes c.in-Some.key)) in
    subst (λ z. IsLastBefore c.args.prefix.now (option_map g.K.KeyTrait.bytes z) c.code_of.result) (sym c.in-Some.is)
    (subst (λ z. IsLastBefore c.args.prefix.now (Some (g.K.KeyTrait.bytes c.in-Some.key)) z)
    (sym c.code_of.ensures.value)
    (last_inside c.args.prefix.now (g.K.KeyTrait.bytes c.in-Some.key) (drop 1 c.in-Some-strip_prefix.rest.now)
    c.in-Some-first.field-0.now small stripped))

pub returns-in-None : goal.returns-in-None
returns-in-None g c =
    subst (λ z. IsLastBefore c.args.prefix.now (option_map g.K.KeyTrait.bytes z) 255) (sym c.in-Some.is)
    (last_at_itself c.args.prefix.now (g.K.KeyTrait.bytes c.in-Some.key) 255 (omega arith, omega arith)
    (ap (strip_prefix c.args.prefix.now) (sym c.as_ref.ensures) ∙ sym c.in-Some-strip_prefix.ensures
    ∙ ap Some (nothing_is c.in-Some-strip_prefix.rest.now c.in-None.ensures.value)))
