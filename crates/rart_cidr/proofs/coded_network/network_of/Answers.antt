use Rattle.std.proofs.Common.{◌≡◌, ◌≤◌, ◌+◌, ◌*◌, arith, ap, length, take, ◌∙◌}
use Rattle.std.proofs.lemmas.List.{length-append}
use Rattle.rart_cidr.specs.Bits.{bits_of, code_bits}
use Rattle.rart_cidr.proofs.networks.BitLemmas.{length-bits}
use Rattle.rart_cidr.proofs.coded_network.network_of.Goals as goal

pub masked_octets-requires : goal.masked_octets-requires
masked_octets-requires g c =
    let o = c.args.key.now in
    let sum = length-append (bits_of o) (code_bits c.args.code) in
    let within : 8 * length o + c.code_len.result ≤ 8 * g.row.N
    = omega (arith, c.requires.width, length-bits o, sum, c.code_len.ensures) in (
      omega (arith, c.requires.narrow),
      (omega (arith, c.requires.narrow), (c.requires.narrow, within)),
    )

pub overflow_add-bits : goal.overflow_add-bits
overflow_add-bits g c =
    let o = c.args.key.now in
    let sum = length-append (bits_of o) (code_bits c.args.code) in
    omega (arith, c.requires.width, length-bits o, sum, c.code_len.ensures, c.requires.narrow)

pub returns : goal.returns
returns g c =
    let o = c.args.key.now in
    let bits : 8 * length o + c.code_len.result ≡ 8 * length o + length (code_bits c.args.code)
    = omega (arith, c.code_len.ensures) in
    c.masked_octets.ensures.value ∙ ap (λ z. take z (bits_of c.octets_of-octets.result)) bits
    ∙ c.octets_of-octets.ensures.value
