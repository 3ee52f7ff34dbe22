use Rattle.std.proofs.Common.{◌≡◌, ap, arith, length}
use Rattle.std.proofs.lemmas.Bool.Decides.{nat_tests}
use Rattle.std.proofs.lemmas.List.{length-map}
use Rattle.std.specs.Option.{option_copied}
use Rattle.rart_keys.specs.Joins.{join, swapped_pairs}
use Rattle.rart_trie.specs.tries.Tree.{tree_pairs}
use Rattle.rart_trie.proofs.tries.CanonicalTests.{IsCanonicalTree-test}
use Rattle.rart_trie.proofs.tries.PairLemmas.{tree_pairs-ascend}
use Rattle.rart_nodes.proofs.node.seen.Seen.is_subset_counted.Goals as goal

-- more keys than the other tree
pub returns-then-other_len-len-clause-value : goal.returns-then-other_len-len-clause-value
returns-then-other_len-len-clause-value g c =
    let left = option_copied c.args.self.root in
    let right = option_copied c.args.other.root in
    let l = tree_pairs left in
    let m = tree_pairs right in
    let as_long : length (swapped_pairs (join l m)) ≡ length (join l m) = length-map (join l m) _ in
    let l_ascends = tree_pairs-ascend left (IsCanonicalTree-test left c.args.self.canonical) in
    let m_ascends = tree_pairs-ascend right (IsCanonicalTree-test right c.args.other.canonical) in (
      (λ t. let q = t in absurd (cc)),
      λ h. absurd (omega (
        arith,
        c.if-other_len-len.true,
        c.requires.len,
        c.requires.other_len,
        (c.joins.ensures.whole l m).1 h,
        c.joins-2.ensures.join_length m l,
        ap length (c.joins.ensures.other_way l m l_ascends m_ascends),
        as_long,
      )),
    )

pub returns-clause-value : goal.returns-clause-value
returns-clause-value g c =
    let l = tree_pairs (option_copied c.args.self.root) in
    let m = tree_pairs (option_copied c.args.other.root) in
    let whole = c.joins.ensures.whole l m in
    let short = c.joins.ensures.join_length l m in (
      λ t. whole.0 (grind (arith, nat_tests, t, c.intersect_count_counted.ensures.count, short, c.requires.len)),
      λ h. grind (arith, nat_tests, whole.1 h, c.intersect_count_counted.ensures.count, short, c.requires.len),
    )

pub returns-clause-no_visits : goal.returns-clause-no_visits
returns-clause-no_visits g c = λ h. absurd (omega (
  arith,
  h,
  c.if-other_len-len.false,
  c.requires.len,
  c.requires.other_len,
))
