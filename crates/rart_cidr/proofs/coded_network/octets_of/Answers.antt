use Rattle.std.proofs.Common.{◌≡◌, ◌≤◌, ◌++◌, ◌-◌, arith, ap, length, refl, replicate, ◌∙◌}
use Rattle.std.proofs.lemmas.List.{length-append}
use Rattle.std.specs.Prelude.{slice_set}
use Rattle.rart_cidr.specs.Bits.{bits_of, code_bits}
use Rattle.rart_cidr.proofs.networks.BitLemmas.{length-bits}
use Rattle.rart_cidr.proofs.walks.StartLemmas.{coded_octets, full_octets}
use Rattle.rart_cidr.proofs.coded_network.octets_of.Goals as goal

pub new_from_slice-requires : goal.new_from_slice-requires
new_from_slice-requires g c =
    let o = c.args.key.now in (
      omega (arith, c.requires.narrow),
      omega (arith, c.requires.width, length-bits o, length-append (bits_of o) (code_bits c.args.code)),
    )

pub returns-then-at-clause-value : goal.returns-then-at-clause-value
returns-then-at-clause-value g c =
    let o = c.args.key.now in
    let padded : c.as_array.result.now ≡ o ++ replicate (g.row.N - length o) 0 = c.as_array.ensures
    ∙ ap (λ z. z ++ replicate (g.row.N - length z) 0) c.new_from_slice.ensures in
    coded_octets o _ c.args.code _ g.row.N c.requires.code.1 (omega (arith, c.if-at.true))
    (ap (λ z. slice_set z (length o) c.code_byte.result) padded
    ∙ ap (slice_set (o ++ replicate (g.row.N - length o) 0) (length o)) c.code_byte.ensures) refl

pub returns-else-at-clause-value : goal.returns-else-at-clause-value
returns-else-at-clause-value g c =
    let o = c.args.key.now in
    let padded : c.as_array.result.now ≡ o ++ replicate (g.row.N - length o) 0 = c.as_array.ensures
    ∙ ap (λ z. z ++ replicate (g.row.N - length z) 0) c.new_from_slice.ensures in
    let most : length o ≤ g.row.N
    = omega (arith, c.requires.width, length-bits o, length-append (bits_of o) (code_bits c.args.code)) in
    full_octets o _ c.args.code _ g.row.N (omega (arith, c.if-at.false, most)) padded c.requires.width refl
