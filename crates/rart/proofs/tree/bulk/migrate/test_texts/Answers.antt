use Rattle.std.proofs.Common.{arith}
use Rattle.rart.proofs.bulks.MigrateLemmas.{all-tested, tested-more}
use Rattle.rart.proofs.tree.bulk.migrate.test_texts.Goals as goal

pub loop-at-preserved : goal.loop-at-preserved
loop-at-preserved g c = record {
  tested = tested-more _ _ _ _ _ _ _ c.loop-at.invariant.tested c.in-Some.ensures.steps
      c.in-Some-without_zero.ensures.text;
}

pub returns-clause-texts : goal.returns-clause-texts
returns-clause-texts g c = all-tested _ _ _ c.loop-at.invariant.tested
    (omega (arith, c.len-at-end.ensures.value, c.loop-at-test.false))
