use Rattle.std.proofs.Common.{ap, arith}
use Rattle.rart_keys.specs.SortedMap.{longest_key}
use Rattle.rart_trie.specs.tries.Tree.{tree_pairs}
use Rattle.rart_trie.specs.tries.Trie.{children_in, children_pairs}
use Rattle.rart_trie.proofs.tries.CanonicalTests.{IsCanonical-test}
use Rattle.rart_trie.proofs.tries.StepLemmas.{longest-below}
use Rattle.rart_nodes.proofs.walks.OutlineLists.{outline-tree}
use Rattle.rart_nodes.proofs.node.outline.OutlineDisplay.fmt.Goals as goal

pub write_below-requires : goal.write_below-requires
write_below-requires g c = omega (
  arith,
  c.longest.ensures.bounds_keys,
  ap (λ z. longest_key (tree_pairs z)) c.in-Some.ensures,
  longest-below c.in-Some.top.node.now (IsCanonical-test c.in-Some.top.node.now c.in-Some.top.canonical),
  ap (λ t. longest_key (children_pairs (children_in t))) c.enter.ensures.shown,
)

pub returns-in-Some : goal.returns-in-Some
returns-in-Some g c = let top = c.in-Some.top.node.now in record {
  writes = rw (← c.in-Some.ensures) (rw (
    ← outline-tree g.V.Display.output top (IsCanonical-test top c.in-Some.top.canonical),
    ← c.enter.ensures.shown,
  ) c.write_below.ensures);
  styled = tt;
}
