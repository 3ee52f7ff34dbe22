use Rattle.std.proofs.Common.{arith, refl}
use Rattle.rart_keys.proofs.strings.SharedBeginnings.{extends, last-decides}
use Rattle.rart_keys.proofs.strip.begins.Goals as goal

pub returns-then-half_at : goal.returns-then-half_at
returns-then-half_at c =
    let p = c.args.prefix.now in
    let k = c.args.key.now in
    let start = extends p k (λ i. (c.type_inv.prefix i).fits) (λ i. (c.type_inv.key i).fits) c.requires 4 0 _ _
    (omega arith) c.half_at.ensures c.half_at-then-prefix-ge-HALF_BYTES.ensures c.if-half_at.true refl in
    last-decides p k (λ i. (c.type_inv.prefix i).fits) (λ i. (c.type_inv.key i).fits) c.requires 4 _ 4 _ _ (omega arith)
    (omega arith) c.half_at-then-half_at.ensures c.half_at-then-half_at-2.ensures start
