use Rattle.std.proofs.Common.{ap, subst, sym, ◌∙◌}
use Rattle.std.specs.Prelude.{option_map}
use Rattle.rart_keys.specs.SortedMap.{lookup}
use Rattle.rart_cidr.specs.Routes.{stride_or_empty}
use Rattle.rart_cidr.specs.Walks.{IsLastBefore}
use Rattle.rart_cidr.proofs.walks.NextLemmas.{from_within, next_in_stride}
use Rattle.rart_cidr.proofs.table.next.next_at.Goals as goal

pub next-requires-clause-order : goal.next-requires-clause-order
next-requires-clause-order g c = let ahead = option_map g.K.KeyTrait.bytes c.args.ahead.now in
    from_within c.args.octets.now c.args.code c.args.at c.code_at-from.result c.last_before-last.result ahead
    c.requires.at c.requires.ahead c.code_at-from.ensures
    (subst (λ z. IsLastBefore z ahead c.last_before-last.result) c.first_octets-prefix.ensures
    c.last_before-last.ensures)

pub returns-in-Some : goal.returns-in-Some
returns-in-Some g c = let ahead = option_map g.K.KeyTrait.bytes c.args.ahead.now in
    next_in_stride c.args.strides.now.pairs c.args.octets.now c.args.code c.args.at c.code_at-from.result
    c.last_before-last.result ahead c.in-Some.stride.now _ c.requires.at c.requires.ahead c.code_at-from.ensures
    (subst (λ z. IsLastBefore z ahead c.last_before-last.result) c.first_octets-prefix.ensures
    c.last_before-last.ensures)
    (ap stride_or_empty (sym (c.in-Some.ensures ∙ ap (λ z. lookup z c.args.strides.now.pairs)
    c.first_octets-prefix.ensures))) c.next.ensures
