use Rattle.std.proofs.Common.{arith, sym}
use Rattle.rart_trie.proofs.build.SpineLemmas.{reversed-last}
use Rattle.rart_trie.proofs.splits.TakenTrees.{tree-steps, tree-whole}
use Rattle.rart_trie.proofs.node.DefaultNode.split_root.Goals as goal

pub take_last-requires : goal.take_last-requires
take_last-requires g c = omega (
  arith,
  c.args.steps.now.ok.0,
  tree-steps c.requires.planned.0 c.args.root.now c.args.steps.now.items c.requires.planned.1,
)

pub returns-in-Whole-clause-taken : goal.returns-in-Whole-clause-taken
returns-in-Whole-clause-taken g c = λ t h. sym (rw c.if-is_inside.false at
    (tree-whole t c.in-Whole.is_inside c.args.root.now _ _ h (reversed-last _ _ _ c.in-Whole.ensures.items)).0)

pub returns-in-Whole-clause-rest : goal.returns-in-Whole-clause-rest
returns-in-Whole-clause-rest g c = λ t h. sym (rw c.if-is_inside.false at
    (tree-whole t c.in-Whole.is_inside c.args.root.now _ _ h (reversed-last _ _ _ c.in-Whole.ensures.items)).1)
