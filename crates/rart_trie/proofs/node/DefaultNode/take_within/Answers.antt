use Rattle.std.proofs.Common.{ap, ◌∙◌}
use Rattle.std.proofs.lemmas.Result.{on_ok_weaker}
use Rattle.rart_trie.specs.declared.node.part.Part.TheVariants.{Between}
use Rattle.rart_trie.specs.edits.Splits.{complement}
use Rattle.rart_trie.specs.ranges.Parts.{is_in_part}
use Rattle.rart_trie.specs.tries.Tree.{tree_pairs}
use Rattle.rart_trie.proofs.splits.SplitTries.{tree_canonical-where, tree_pairs-where}
use Rattle.rart_trie.proofs.splits.TakenTrees.{part-short, taken-canonical, taken-count, taken-pairs, taken-short}
use Rattle.rart_trie.proofs.node.DefaultNode.take_within.Goals as goal

pub returns-clause-canonical : goal.returns-clause-canonical
returns-clause-canonical g c = on_ok_weaker c.take_part.result
    (λ e. rw e (tree_canonical-where (complement (is_in_part (Between c.args.start c.args.end))) c.args.root.now
    c.requires.canonical)) c.take_part.ensures.rest

pub returns-clause-taken_canonical : goal.returns-clause-taken_canonical
returns-clause-taken_canonical g c = taken-canonical (is_in_part (Between c.args.start c.args.end))
    c.take_part.result c.args.root.now c.requires.canonical c.take_part.ensures.taken

pub returns-clause-pairs : goal.returns-clause-pairs
returns-clause-pairs g c = on_ok_weaker c.take_part.result
    (λ e. ap tree_pairs e
    ∙ tree_pairs-where (complement (is_in_part (Between c.args.start c.args.end))) c.args.root.now)
    c.take_part.ensures.rest

pub returns-clause-taken : goal.returns-clause-taken
returns-clause-taken g c = taken-pairs (is_in_part (Between c.args.start c.args.end)) c.take_part.result
    c.args.root.now c.take_part.ensures.taken

pub returns-clause-count : goal.returns-clause-count
returns-clause-count g c = taken-count (is_in_part (Between c.args.start c.args.end)) c.take_part.result
    c.args.root.now c.take_part.new.root c.take_part.ensures.taken c.take_part.ensures.rest

pub returns-clause-longest_key : goal.returns-clause-longest_key
returns-clause-longest_key g c = on_ok_weaker c.take_part.result
    (λ e. part-short (complement (is_in_part (Between c.args.start c.args.end))) c.args.root.now
    c.take_part.new.root e) c.take_part.ensures.rest

pub returns-clause-longest_taken : goal.returns-clause-longest_taken
returns-clause-longest_taken g c = taken-short (is_in_part (Between c.args.start c.args.end)) c.take_part.result
    c.args.root.now c.take_part.ensures.taken
