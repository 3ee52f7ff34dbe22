use Rattle.rart.proofs.tree.AdaptiveRadixTree.restore.Goals as goal

pub returns-clause-pairs : goal.returns-clause-pairs
returns-clause-pairs g c = (rw c.in-Some.is at c.get_mut_k.follows.holds c.args.value).0

pub returns-clause-nodes : goal.returns-clause-nodes
returns-clause-nodes g c = (rw c.in-Some.is at c.get_mut_k.follows.holds c.args.value).1
