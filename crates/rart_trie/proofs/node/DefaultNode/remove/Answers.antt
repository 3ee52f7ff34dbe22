use Rattle.std.proofs.Common.{length, arith, ap, ◌∙◌}
use Rattle.rart_keys.specs.SortedMap.{count_of, longest_key}
use Rattle.rart_trie.specs.tries.Tree.{tree_pairs}
use Rattle.std.proofs.lemmas.Result.{on_ok_weaker, on_err_weaker}
use Rattle.rart_trie.proofs.edits.Outcomes.{if_ok_weaker, if_ok_weaker_on}
use Rattle.rart_trie.proofs.removals.RemovedPairs.{length-without_key, longest_key-without, tree_canonical-removed}
use Rattle.rart_trie.proofs.removals.RemovedPairs.{tree_pairs-removed}
use Rattle.rart_trie.proofs.tries.StepLemmas.{tree_lookup-lookup}
use Rattle.rart_trie.proofs.node.DefaultNode.remove.Goals as goal
use Rattle.rart_trie.proofs.tries.PairLemmas.{tree_pairs-ascend}

pub returns : goal.returns
returns g c =
    let key = c.args.key.now in
    let old = c.args.root.now in
    let canonical = c.requires.canonical in
    let pairs = tree_pairs-removed key old canonical in
    let answer = tree_lookup-lookup key old canonical in
    record {
      canonical = on_ok_weaker c.take_from.result (λ e. rw e (tree_canonical-removed key old canonical))
          c.take_from.ensures.ok;
      pairs = on_ok_weaker c.take_from.result (λ e. ap tree_pairs e ∙ pairs) c.take_from.ensures.ok;
      answer = if_ok_weaker c.take_from.result (λ x e. e ∙ answer) c.take_from.ensures.answer;
      count = if_ok_weaker_on c.take_from.result
          (λ x e a. omega (
            arith,
            length-without_key key (tree_pairs old) (tree_pairs-ascend old canonical),
            ap length
                (ap tree_pairs e ∙ pairs),
            ap count_of (a ∙ answer),
          )) c.take_from.ensures.ok c.take_from.ensures.answer;
      longest_key = on_ok_weaker c.take_from.result
          (λ e. omega (arith, ap longest_key (ap tree_pairs e ∙ pairs), longest_key-without key (tree_pairs old)))
          c.take_from.ensures.ok;
      unchanged = c.take_from.ensures.unchanged;
      memory = c.take_from.ensures.memory;
      allocates = on_err_weaker c.take_from.result (λ a. (a.0, λ z. a.1 (answer ∙ z))) c.take_from.ensures.allocates;
    }
