-- In a loop's step both words have been read: `at_same_word` says what equal ones add, and
-- `at_different_word` where the first difference is.
use Rattle.std.proofs.Common.{arith}
use Rattle.std.proofs.lemmas.Nat.{xor_lt}
use Rattle.rart_keys.proofs.strings.WordLemmas.{common_prefix_len-at_same_word, common_prefix_len-at_different_word}
use Rattle.rart_keys.proofs.common_prefix.prefix_length_words.Goals as goal

pub returns-then-differing-ne0 : goal.returns-then-differing-ne0
returns-then-differing-ne0 c =
    let m = c.word_at.result in
    let n = c.word_at-in-loop-i.result in
    let w = common_prefix_len-at_different_word c.args.left.now c.args.right.now c.loop-i.i
    (λ k. (c.type_inv.left k).fits) (λ k. (c.type_inv.right k).fits) (omega arith) (omega arith) m n
    c.word_at.ensures c.word_at-in-loop-i.ensures (omega arith) (xor_lt 64 m n (omega arith) (omega arith)) in
    omega (arith, w)

pub loop-i-preserved : goal.loop-i-preserved
loop-i-preserved c =
    let w = common_prefix_len-at_same_word c.args.left.now c.args.right.now c.loop-i.i (λ k. (c.type_inv.left k).fits)
    (λ k. (c.type_inv.right k).fits) (omega arith) (omega arith) c.word_at.result c.word_at-in-loop-i.result
    c.word_at.ensures c.word_at-in-loop-i.ensures c.if-differing-ne0.false in
    record { within = omega arith; so_far = omega (arith, w) }
