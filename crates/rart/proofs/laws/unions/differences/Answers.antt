use Rattle.rart.proofs.trees.DifferenceLemmas.{difference-ascends, lookup-difference}
use Rattle.rart.proofs.laws.unions.differences.Goals as goal

pub returns-clause-ascending : goal.returns-clause-ascending
returns-clause-ascending g c l m up = difference-ascends l m up

pub returns-clause-looks : goal.returns-clause-looks
returns-clause-looks g c k l m = lookup-difference k l m
