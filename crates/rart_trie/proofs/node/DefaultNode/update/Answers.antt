use Rattle.std.proofs.Common.{◌≡◌, ◌∙◌, ap, sym, is_some}
use Rattle.rart_keys.specs.SortedMap.{lookup}
use Rattle.rart_trie.specs.tries.Tree.{tree_pairs}
use Rattle.rart_trie.specs.edits.Slots.{slot_of}
use Rattle.rart_trie.proofs.edits.MapUpdates.{ends-canonical, ends-counted, ends-longest, ends-map, ends-nodes}
use Rattle.rart_trie.proofs.edits.MapUpdates.{nodes-alike}
use Rattle.rart_trie.proofs.tries.StepLemmas.{tree_lookup-lookup}
use Rattle.rart_trie.proofs.node.DefaultNode.update.Goals as goal
use Rattle.rart_trie.proofs.tries.PairLemmas.{tree_pairs-ascend}

pub update_tree-requires-clause-callable : goal.update_tree-requires-clause-callable
update_tree-requires-clause-callable g c =
    let at = tree_lookup-lookup c.args.key.now c.args.root.now c.requires.canonical in
    λ p h. c.requires.callable p (h ∙ ap slot_of at)

pub update_tree-requires-clause-occupancy : goal.update_tree-requires-clause-occupancy
update_tree-requires-clause-occupancy g c =
    let at = tree_lookup-lookup c.args.key.now c.args.root.now c.requires.canonical in
    λ r x w h. c.requires.occupancy r x w (rw (← at) h) ∙ ap is_some (sym at)

pub returns : goal.returns
returns g c =
    let key = c.args.key.now in
    let old = c.args.root.now in
    let canonical = c.requires.canonical in
    let at = tree_lookup-lookup key old canonical in
    let e = c.update_tree.ensures in
    let stays : is_some e.1 ≡ is_some (lookup key (tree_pairs old))
    = c.requires.occupancy e.0 c.update_tree.result.1 e.1 (rw (← at) e.2) in
    let ends = ends-map c.args.full key e.0 e.1 old c.update_tree.result.0 c.update_tree.new.root canonical e.3 in
    let ascend = tree_pairs-ascend old canonical in
    let done = ends-canonical c.args.full key e.0 e.1 old c.update_tree.result.0 c.update_tree.new.root canonical e.3 in
    record {
      update = (e.0, e.1, rw (← at) e.2, ends);
      canonical = done;
      count = ends-counted c.args.full key e.0 e.1 (tree_pairs old) c.update_tree.result.0
          (tree_pairs c.update_tree.new.root) ascend stays ends;
      longest_key = ends-longest c.args.full key e.0 e.1 (tree_pairs old) c.update_tree.result.0
          (tree_pairs c.update_tree.new.root) ascend stays ends;
      nodes_unchanged = ends-nodes c.args.full key e.0 e.1 old c.update_tree.result.0 c.update_tree.new.root canonical
          stays e.3;
      nodes = nodes-alike old c.update_tree.new.root canonical done;
    }
