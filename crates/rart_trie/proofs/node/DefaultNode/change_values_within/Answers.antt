use Rattle.rart_trie.specs.ranges.LentBounds.{lent_bound}
use Rattle.rart_trie.specs.tries.Trie.{pairs_of}
use Rattle.rart_trie.proofs.ranges.BetweenLemmas.{is_between}
use Rattle.rart_trie.proofs.changes.ValueChangeLemmas.{always-after-changes, changes-keys}
use Rattle.rart_trie.proofs.edits.LoanLemmas.{lengths-alike, longest-alike}
use Rattle.rart_trie.proofs.shapes.ShapeLemmas.{equal_nodes}
use Rattle.rart_trie.proofs.node.DefaultNode.change_values_within.Goals as goal

pub returns-in-Some-clause-stays_callable : goal.returns-in-Some-clause-stays_callable
returns-in-Some-clause-stays_callable g c = always-after-changes _
    (is_between (lent_bound c.args.start) (lent_bound c.args.end)) (pairs_of c.in-Some.node)
    (pairs_of c.change_within.new.self) c.args.f.now c.change_within.new.f c.change_within.ensures.changes

pub returns-in-Some-clause-nodes : goal.returns-in-Some-clause-nodes
returns-in-Some-clause-nodes g c = rw c.in-Some.is (equal_nodes c.change_within.new.self c.in-Some.node
    c.change_within.ensures.canonical (rw c.in-Some.is at c.requires.canonical)
    (changes-keys _ (is_between (lent_bound c.args.start) (lent_bound c.args.end)) _ _ _ _
    c.change_within.ensures.changes))

pub returns-in-Some-clause-count : goal.returns-in-Some-clause-count
returns-in-Some-clause-count g c = rw c.in-Some.is (lengths-alike (pairs_of c.change_within.new.self)
    (pairs_of c.in-Some.node) (changes-keys _ (is_between (lent_bound c.args.start) (lent_bound c.args.end)) _ _ _ _
    c.change_within.ensures.changes))

pub returns-in-Some-clause-longest_key : goal.returns-in-Some-clause-longest_key
returns-in-Some-clause-longest_key g c = rw c.in-Some.is (longest-alike (pairs_of c.change_within.new.self)
    (pairs_of c.in-Some.node) (changes-keys _ (is_between (lent_bound c.args.start) (lent_bound c.args.end)) _ _ _ _
    c.change_within.ensures.changes))
