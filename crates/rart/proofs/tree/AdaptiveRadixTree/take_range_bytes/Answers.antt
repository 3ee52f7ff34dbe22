use Rattle.std.proofs.Common.{◌≡◌, length, refl, arith}
use Rattle.rart_nodes.specs.tries.SeenTrees.{seen_pairs}
use Rattle.rart_trie.specs.tries.Tree.{tree_pairs}
use Rattle.rart.proofs.tree.AdaptiveRadixTree.take_range_bytes.Given.{Over}
use Rattle.rart.proofs.trees.FieldLemmas.{fields-kept, pairs-counted, part-at_most, rest-counted}
use Rattle.rart.proofs.tree.AdaptiveRadixTree.take_range_bytes.Goals as goal

pub count_pairs_counted-len-requires : goal.count_pairs_counted-len-requires
count_pairs_counted-len-requires g c =
    let few = part-at_most (length (seen_pairs c.of-seen.result)) _ _ _ c.self.inside.len
    (pairs-counted _ _ _ _ refl c.of-seen.ensures.root c.as_ref.ensures.value)
    c.in_ok-root.ensures.count c.self.invariant.counted in
    omega arith

pub overflow_sub-self : goal.overflow_sub-self
overflow_sub-self g c = part-at_most _ _ _ _ _ (pairs-counted _ _ _ _ c.count_pairs_counted-len.ensures.value
    c.of-seen.ensures.root c.as_ref.ensures.value) c.in_ok-root.ensures.count c.self.invariant.counted

counted-taken : (g : Over) (c : goal.After-result-1 g)
    → c.count_pairs_counted-len.result ≡ length (tree_pairs c.in_ok-root.root)
counted-taken g c = pairs-counted _ _ _ _ c.count_pairs_counted-len.ensures.value c.of-seen.ensures.root
    c.as_ref.ensures.value

pub invariant_of-result : goal.invariant_of-result
invariant_of-result g c = fields-kept _ _ _ _ _ _ _ c.self.invariant c.in_ok-root.ensures.taken_canonical
    (counted-taken g c) (part-at_most _ _ _ _ _ (counted-taken g c) c.in_ok-root.ensures.count
    c.self.invariant.counted) c.in_ok-root.ensures.longest_taken c.length_kept.ensures.none c.length_kept.ensures.some

pub invariant_of-self-2 : goal.invariant_of-self-2
invariant_of-self-2 g c = fields-kept _ _ _ _ _ _ _ c.self.invariant c.in_ok-root.ensures.canonical
    (rest-counted _ _ _ _ _ (counted-taken g c) c.in_ok-root.ensures.count c.self.invariant.counted)
    (omega arith) c.in_ok-root.ensures.longest_key c.length_kept-self-inside.ensures.none
    c.length_kept-self-inside.ensures.some
