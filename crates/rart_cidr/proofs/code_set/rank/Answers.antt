use Rattle.std.proofs.Common.{◌≡◌, ◌+◌, ◌*◌, ◌/◌, ◌%◌, ap, arith, count_ones, ◌∙◌}
use Rattle.rart_parts.specs.Bits.{has_bit}
use Rattle.rart_parts.proofs.sets.Members.{length-members_from}
use Rattle.rart_cidr.specs.CodeSets.{has_code, rank_of}
use Rattle.rart_cidr.proofs.networks.BeginningLemmas.{word-count}
use Rattle.rart_cidr.proofs.code_set.rank.Goals as goal

pub overflow_add-count : goal.overflow_add-count
overflow_add-count c =
    let words = c.args.codes.now.words in let m = c.to_u64.result in
    let more = word-count words c.loop-i.i 64 m (omega arith) c.to_u64.ensures.fits
    (λ j l. ap (λ w. has_bit w j) c.to_u64.ensures.number_kept) in
    let most = length-members_from (has_code words) 0 (c.loop-i.i * 64 + 64) in
    let at = c.from-at.ensures in let fits = c.ranges.code.fits in
    omega (arith, more, most, at, fits, c.loop-i.invariant, c.loop-i-test.true)

pub loop-i-preserved : goal.loop-i-preserved
loop-i-preserved c =
    let words = c.args.codes.now.words in let m = c.to_u64.result in
    ap (λ z. z + count_ones m) c.loop-i.invariant
    ∙ word-count words c.loop-i.i 64 m (omega arith) c.to_u64.ensures.fits
    (λ j l. ap (λ w. has_bit w j) c.to_u64.ensures.number_kept)
    ∙ ap (rank_of words) (omega arith)

pub overflow_add-result : goal.overflow_add-result
overflow_add-result c =
    let words = c.args.codes.now.words in let low = c.low_bits.result in let at = c.from-at.result in
    let whole : c.loop-i.i ≡ at / 64 = omega (arith, c.loop-i-test.false, c.loop-i.auto.i-end) in
    let seen = ap (λ z. rank_of words (z * 64)) whole in
    let all = word-count words (at / 64) (at % 64) low (omega arith) c.low_bits.ensures.fits c.low_bits.ensures.kept in
    let most = length-members_from (has_code words) 0 (at / 64 * 64 + at % 64) in
    let is = c.from-at.ensures in let fits = c.ranges.code.fits in
    omega (arith, seen, all, most, is, fits, c.loop-i.invariant)

pub returns : goal.returns
returns c =
    let words = c.args.codes.now.words in let low = c.low_bits.result in let at = c.from-at.result in
    let whole : c.loop-i.i ≡ at / 64 = omega (arith, c.loop-i-test.false, c.loop-i.auto.i-end) in
    let is : at / 64 * 64 + at % 64 ≡ c.args.code = omega (arith, c.from-at.ensures) in
    ap (λ z. z + count_ones low) c.loop-i.invariant
    ∙ ap (λ z. rank_of words (z * 64) + count_ones low) whole
    ∙ word-count words (at / 64) (at % 64) low (omega arith) c.low_bits.ensures.fits c.low_bits.ensures.kept
    ∙ ap (rank_of words) is
