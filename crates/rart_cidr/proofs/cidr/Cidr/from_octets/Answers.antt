use Rattle.std.proofs.Common.{◌≡◌, ◌≤◌, ◌*◌, true, ◌∙◌, sym, arith}
use Rattle.std.proofs.lemmas.Bool.Decides.{Decides-eqb}
use Rattle.std.proofs.lemmas.Slice.Eq.{slice_eq-Decides}
use Rattle.rart_cidr.proofs.networks.BitLemmas.{length-bits}
use Rattle.rart_cidr.proofs.networks.NetworkLemmas.{masked_octets-alone, masked_octets-bytes, unchanged-clear}
use Rattle.rart_cidr.proofs.networks.NetworkLemmas.{width-bits}
use Rattle.rart_cidr.proofs.cidr.Cidr.from_octets.Goals as goal

pub returns-then-from : goal.returns-then-from
returns-then-from g c = omega (
  arith,
  c.cleared_octets-cleared.ensures.width,
  length-bits c.args.octets.now,
  c.from.ensures,
  c.if-from.true,
)

pub returns-then-eq : goal.returns-then-eq
returns-then-eq g c =
    let e = c.cleared_octets-cleared.ensures in let o = c.args.octets.now in
    let same = (slice_eq-Decides Decides-eqb c.cleared_octets-cleared.result o c.eq.result c.eq.ensures).0
    c.if-eq.true in (
      width-bits o g.row.N c.args.len e.width (let h : c.args.len ≤ 8 * g.row.N
          = omega (arith, c.from.ensures, c.if-from.false) in h),
      unchanged-clear o c.args.len e.bytes (sym e.value ∙ same),
      c.masked_octets.ensures.value,
    )

pub returns-else-eq : goal.returns-else-eq
returns-else-eq g c =
    let e = c.cleared_octets-cleared.ensures in let o = c.args.octets.now in (
      width-bits o g.row.N c.args.len e.width (let h : c.args.len ≤ 8 * g.row.N
          = omega (arith, c.from.ensures, c.if-from.false) in h),
      λ k. let all = masked_octets-alone o c.args.len e.bytes (masked_octets-bytes o c.args.len e.bytes) k in
          let yes : c.eq.result ≡ true = (slice_eq-Decides Decides-eqb c.cleared_octets-cleared.result o
          c.eq.result c.eq.ensures).1 (e.value ∙ all) in
          let no = c.if-eq.false in cc,
    )
