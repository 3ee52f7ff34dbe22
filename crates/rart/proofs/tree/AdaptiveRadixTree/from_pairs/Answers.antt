use Rattle.rart.proofs.tree.AdaptiveRadixTree.from_pairs.Goals as goal

pub returns-in-Err-clause-refused : goal.returns-in-Err-clause-refused
returns-in-Err-clause-refused g c = let read = c.in-Err.ensures.refused in
    (read.0, read.1, read.2, read.3, read.4, (c.extend.new.self.pairs, rw c.new-tree.ensures.pairs at read.5))
