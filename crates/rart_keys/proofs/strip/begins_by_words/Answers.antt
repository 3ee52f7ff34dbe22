use Rattle.std.proofs.Common.{arith}
use Rattle.rart_keys.proofs.strings.SharedBeginnings.{extends, last-decides, same-number}
use Rattle.rart_keys.proofs.strip.begins_by_words.Goals as goal

pub returns-then-word_at : goal.returns-then-word_at
returns-then-word_at c = (
  (λ t. absurd (cc)),
  (λ s. absurd (c.if-word_at.true (same-number _ _ (λ i. (c.type_inv.prefix i).fits) (λ i. (c.type_inv.key i).fits)
      c.requires.at_most 8 c.loop-i.i _ _ (omega arith) c.word_at.ensures c.word_at-in-loop-i.ensures s))),
)

pub loop-i-preserved : goal.loop-i-preserved
loop-i-preserved c = record {
  within = omega arith;
  so_far = extends _ _ (λ i. (c.type_inv.prefix i).fits) (λ i. (c.type_inv.key i).fits) c.requires.at_most
      8 c.loop-i.i _ _
      (omega arith) c.word_at.ensures c.word_at-in-loop-i.ensures c.if-word_at.false c.loop-i.invariant.so_far;
}

pub returns : goal.returns
returns c = last-decides _ _ (λ i. (c.type_inv.prefix i).fits) (λ i. (c.type_inv.key i).fits) c.requires.at_most 8 _
    c.loop-i.i _ _ (omega arith) c.loop-i-test.false c.word_at-2.ensures c.word_at-3.ensures c.loop-i.invariant.so_far
