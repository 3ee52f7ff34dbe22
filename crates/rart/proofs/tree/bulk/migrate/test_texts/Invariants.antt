use Rattle.rart.proofs.bulks.MigrateLemmas.{TestedTexts}
use Rattle.rart.proofs.tree.bulk.migrate.test_texts.Given as goal

abbrev pub invariant-loop-at : goal.invariant-loop-at
invariant-loop-at g l = record { tested : TestedTexts l.at l.old.pairs l.rest }
