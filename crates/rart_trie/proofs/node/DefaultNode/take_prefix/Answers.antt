use Rattle.std.proofs.Common.{◌∙◌, ap, arith, length, not}
use Rattle.std.proofs.lemmas.Result.{on_ok_weaker}
use Rattle.rart_keys.specs.ByteStrings.{begins}
use Rattle.rart_keys.specs.SortedMap.{longest_key}
use Rattle.rart_trie.specs.tries.Tree.{tree_pairs}
use Rattle.rart_trie.proofs.edits.Outcomes.{if_ok_weaker, if_ok_weaker_on}
use Rattle.rart_trie.proofs.removals.PrefixFilters.{length-parted, longest_key-filter}
use Rattle.rart_trie.proofs.removals.PrefixPairs.{tree_canonical-without, tree_pairs-without, tree_part-below}
use Rattle.rart_trie.proofs.node.DefaultNode.take_prefix.Goals as goal

pub returns : goal.returns
returns g c =
    let q = c.args.prefix.now in
    let old = c.args.root.now in
    let canonical = c.requires.canonical in
    let pairs = tree_pairs-without q old canonical in
    let part = tree_part-below q old canonical in
    record {
      canonical = on_ok_weaker c.take_prefix_from.result (λ e. rw e (tree_canonical-without q old canonical))
          c.take_prefix_from.ensures.ok;
      taken_canonical = if_ok_weaker c.take_prefix_from.result (λ x e. rw e part.0) c.take_prefix_from.ensures.taken;
      pairs = on_ok_weaker c.take_prefix_from.result (λ e. ap tree_pairs e ∙ pairs) c.take_prefix_from.ensures.ok;
      taken = if_ok_weaker c.take_prefix_from.result (λ x e. ap tree_pairs e ∙ part.1) c.take_prefix_from.ensures.taken;
      count = if_ok_weaker_on c.take_prefix_from.result (λ x e a. omega (
        arith,
        length-parted q (tree_pairs old),
        ap length (ap tree_pairs e ∙ pairs),
        ap length (ap tree_pairs a ∙ part.1),
      )) c.take_prefix_from.ensures.ok c.take_prefix_from.ensures.taken;
      longest_key = on_ok_weaker c.take_prefix_from.result (λ e. omega (
        arith,
        ap longest_key (ap tree_pairs e ∙ pairs),
        longest_key-filter (λ e. not (begins q e.0)) (tree_pairs old),
      )) c.take_prefix_from.ensures.ok;
      longest_taken = if_ok_weaker c.take_prefix_from.result (λ x e. omega (
        arith,
        ap longest_key (ap tree_pairs e ∙ part.1),
        longest_key-filter (λ e. begins q e.0) (tree_pairs old),
      )) c.take_prefix_from.ensures.taken;
      unchanged = c.take_prefix_from.ensures.unchanged;
      memory = c.take_prefix_from.ensures.memory;
      allocates = c.take_prefix_from.ensures.allocates;
      bound = c.take_prefix_from.ensures.bound;
    }
