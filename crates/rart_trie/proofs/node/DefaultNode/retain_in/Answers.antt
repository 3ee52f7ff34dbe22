use Rattle.std.proofs.Common.{[]}
use Rattle.rart_trie.specs.ranges.Parts.{is_in_part, pairs_in}
use Rattle.rart_trie.specs.tries.Tree.{tree_pairs}
use Rattle.rart_trie.proofs.retentions.PartRetentions.{same-others, stay-all, stay-first, visits-all, visits-first}
use Rattle.rart_trie.proofs.retentions.RetainTreeLemmas.{remaining-few, remaining-short, tree-done, tree-refused}
use Rattle.rart_trie.proofs.retentions.RetainTreeLemmas.{tree-rejected}
use Rattle.rart_trie.proofs.retentions.RetentionLemmas.{always-after-calls}
use Rattle.rart_trie.proofs.node.DefaultNode.retain_in.Goals as goal

pub returns-in-Done-clause-stays_callable : goal.returns-in-Done-clause-stays_callable
returns-in-Done-clause-stays_callable g c =
    let h = tree-done _ c.args.part c.args.f.now c.retain_tree.new.f c.args.root.now c.retain_tree.new.root
    (rw c.in-Done.is at c.retain_tree.ensures.retains) in
    let v = visits-all g.F.FnMut (is_in_part c.args.part) c.args.f.now (tree_pairs c.args.root.now)
    (tree_pairs c.retain_tree.new.root) 0 c.retain_tree.new.f h in
    always-after-calls _ [] (pairs_in c.args.part (tree_pairs c.args.root.now)) v.fates c.args.f.now c.retain_tree.new.f
    v.calls

pub returns-in-Done-clause-retains : goal.returns-in-Done-clause-retains
returns-in-Done-clause-retains g c =
    let h = tree-done _ c.args.part c.args.f.now c.retain_tree.new.f c.args.root.now c.retain_tree.new.root
    (rw c.in-Done.is at c.retain_tree.ensures.retains) in (
      visits-all g.F.FnMut (is_in_part c.args.part) c.args.f.now (tree_pairs c.args.root.now)
          (tree_pairs c.retain_tree.new.root) 0 c.retain_tree.new.f h,
      stay-all g.F.FnMut (is_in_part c.args.part) c.args.f.now (tree_pairs c.args.root.now)
          (tree_pairs c.retain_tree.new.root) 0 c.retain_tree.new.f h,
    )

pub returns-in-Done-clause-count : goal.returns-in-Done-clause-count
returns-in-Done-clause-count g c =
    let h = tree-done _ c.args.part c.args.f.now c.retain_tree.new.f c.args.root.now c.retain_tree.new.root
    (rw c.in-Done.is at c.retain_tree.ensures.retains) in
    remaining-few (tree_pairs c.args.root.now) (tree_pairs c.retain_tree.new.root) h.fates h.left

pub returns-in-Done-clause-counts : goal.returns-in-Done-clause-counts
returns-in-Done-clause-counts g c =
    let h = tree-done _ c.args.part c.args.f.now c.retain_tree.new.f c.args.root.now c.retain_tree.new.root
    (rw c.in-Done.is at c.retain_tree.ensures.retains) in
    same-others (is_in_part c.args.part) (tree_pairs c.args.root.now)
    (tree_pairs c.retain_tree.new.root) (stay-all g.F.FnMut (is_in_part c.args.part) c.args.f.now (tree_pairs
    c.args.root.now)
    (tree_pairs c.retain_tree.new.root) 0 c.retain_tree.new.f h)

pub returns-in-Done-clause-longest_key : goal.returns-in-Done-clause-longest_key
returns-in-Done-clause-longest_key g c =
    let h = tree-done _ c.args.part c.args.f.now c.retain_tree.new.f c.args.root.now c.retain_tree.new.root
    (rw c.in-Done.is at c.retain_tree.ensures.retains) in
    remaining-short (tree_pairs c.args.root.now) (tree_pairs c.retain_tree.new.root) h.fates h.left

pub returns-in-Rejected-clause-stays_callable : goal.returns-in-Rejected-clause-stays_callable
returns-in-Rejected-clause-stays_callable g c =
    let h = tree-rejected _ c.args.part c.args.f.now c.retain_tree.new.f c.args.root.now c.retain_tree.new.root
    (rw c.in-Rejected.is at c.retain_tree.ensures.retains) in
    let v = visits-all g.F.FnMut (is_in_part c.args.part) c.args.f.now (tree_pairs c.args.root.now)
    [] 0 c.retain_tree.new.f h in
    always-after-calls _ [] (pairs_in c.args.part (tree_pairs c.args.root.now)) v.fates c.args.f.now c.retain_tree.new.f
    v.calls

pub returns-in-Rejected-clause-retains : goal.returns-in-Rejected-clause-retains
returns-in-Rejected-clause-retains g c =
    let h = tree-rejected _ c.args.part c.args.f.now c.retain_tree.new.f c.args.root.now c.retain_tree.new.root
    (rw c.in-Rejected.is at c.retain_tree.ensures.retains) in (
      visits-all g.F.FnMut (is_in_part c.args.part) c.args.f.now (tree_pairs c.args.root.now)
          [] 0 c.retain_tree.new.f h,
      stay-all g.F.FnMut (is_in_part c.args.part) c.args.f.now (tree_pairs c.args.root.now)
          [] 0 c.retain_tree.new.f h,
    )

pub returns-in-Rejected-clause-counts : goal.returns-in-Rejected-clause-counts
returns-in-Rejected-clause-counts g c =
    let h = tree-rejected _ c.args.part c.args.f.now c.retain_tree.new.f c.args.root.now c.retain_tree.new.root
    (rw c.in-Rejected.is at c.retain_tree.ensures.retains) in
    same-others (is_in_part c.args.part) (tree_pairs c.args.root.now)
    [] (stay-all g.F.FnMut (is_in_part c.args.part) c.args.f.now (tree_pairs c.args.root.now)
    [] 0 c.retain_tree.new.f h)

pub returns-in-Refused-clause-stays_callable : goal.returns-in-Refused-clause-stays_callable
returns-in-Refused-clause-stays_callable g c =
    let h = tree-refused _ c.args.part c.args.f.now c.retain_tree.new.f c.args.root.now c.retain_tree.new.root
    c.retain_tree.ensures.canonical (rw c.in-Refused.is at c.retain_tree.ensures.retains) in
    let v = visits-first g.F.FnMut (is_in_part c.args.part) c.args.f.now (tree_pairs c.args.root.now)
    (tree_pairs c.retain_tree.new.root) h.0 c.retain_tree.new.f h.1.0 in
    always-after-calls _ [] (pairs_in c.args.part (tree_pairs c.args.root.now)) v.fates c.args.f.now c.retain_tree.new.f
    v.calls

pub returns-in-Refused-clause-retains : goal.returns-in-Refused-clause-retains
returns-in-Refused-clause-retains g c =
    let h = tree-refused _ c.args.part c.args.f.now c.retain_tree.new.f c.args.root.now c.retain_tree.new.root
    c.retain_tree.ensures.canonical (rw c.in-Refused.is at c.retain_tree.ensures.retains) in (
      h.0,
      (
        visits-first g.F.FnMut (is_in_part c.args.part) c.args.f.now (tree_pairs c.args.root.now)
            (tree_pairs c.retain_tree.new.root) h.0 c.retain_tree.new.f h.1.0,
        h.1.1,
        stay-first g.F.FnMut (is_in_part c.args.part) c.args.f.now (tree_pairs c.args.root.now)
            (tree_pairs c.retain_tree.new.root) h.0 c.retain_tree.new.f h.1.0,
      ),
    )

pub returns-in-Refused-clause-count : goal.returns-in-Refused-clause-count
returns-in-Refused-clause-count g c =
    let h = tree-refused _ c.args.part c.args.f.now c.retain_tree.new.f c.args.root.now c.retain_tree.new.root
    c.retain_tree.ensures.canonical (rw c.in-Refused.is at c.retain_tree.ensures.retains) in
    remaining-few (tree_pairs c.args.root.now) (tree_pairs c.retain_tree.new.root) h.1.0.fates h.1.0.left

pub returns-in-Refused-clause-counts : goal.returns-in-Refused-clause-counts
returns-in-Refused-clause-counts g c =
    let h = tree-refused _ c.args.part c.args.f.now c.retain_tree.new.f c.args.root.now c.retain_tree.new.root
    c.retain_tree.ensures.canonical (rw c.in-Refused.is at c.retain_tree.ensures.retains) in
    same-others (is_in_part c.args.part) (tree_pairs c.args.root.now)
    (tree_pairs c.retain_tree.new.root) (stay-first g.F.FnMut (is_in_part c.args.part) c.args.f.now (tree_pairs
    c.args.root.now)
    (tree_pairs c.retain_tree.new.root) h.0 c.retain_tree.new.f h.1.0)

pub returns-in-Refused-clause-longest_key : goal.returns-in-Refused-clause-longest_key
returns-in-Refused-clause-longest_key g c =
    let h = tree-refused _ c.args.part c.args.f.now c.retain_tree.new.f c.args.root.now c.retain_tree.new.root
    c.retain_tree.ensures.canonical (rw c.in-Refused.is at c.retain_tree.ensures.retains) in
    remaining-short (tree_pairs c.args.root.now) (tree_pairs c.retain_tree.new.root) h.1.0.fates h.1.0.left
