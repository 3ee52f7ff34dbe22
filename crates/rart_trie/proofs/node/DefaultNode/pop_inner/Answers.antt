use Rattle.rart_trie.proofs.removals.PopLemmas.{pops-allocates, pops-canonical, pops-map}
use Rattle.rart_trie.proofs.node.DefaultNode.pop_inner.Goals as goal

pub returns-in-Some-clause-canonical : goal.returns-in-Some-clause-canonical
returns-in-Some-clause-canonical g c = pops-canonical c.args.end c.args.self.now _ _ _ _ c.requires.canonical
    c.in-Ok.ensures.ok

pub returns-in-Some-clause-pairs : goal.returns-in-Some-clause-pairs
returns-in-Some-clause-pairs g c = pops-map c.args.end c.args.self.now _ _ _ c.in-Some.value c.requires.canonical
    (rw c.in-Some.is at c.in-Ok.ensures.ok) c.from_slice-path.ensures

pub returns-in-None-removed-clause-allocates : goal.returns-in-None-removed-clause-allocates
returns-in-None-removed-clause-allocates g c = pops-allocates c.args.end c.args.self.now c.requires.canonical
    c.in-Err.ensures.allocates
