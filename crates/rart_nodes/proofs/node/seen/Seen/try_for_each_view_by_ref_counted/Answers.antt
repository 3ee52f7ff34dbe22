use Rattle.std.proofs.Common.{arith, ap, length, List, ℕ, sym, subst}
use Rattle.std.specs.Option.{option_copied}
use Rattle.rart_keys.specs.SortedMap.{keys_of}
use Rattle.rart_trie.specs.tries.Tree.{tree_pairs}
use Rattle.rart_trie.specs.walks.Cut.{cut_pairs}
use Rattle.rart_nodes.specs.walks.TriedViews.{CanTryView, EndsViewVisit}
use Rattle.rart_trie.proofs.tries.BelowLemmas.{below-nil}
use Rattle.rart_nodes.proofs.node.seen.Seen.try_for_each_view_by_ref_counted.Goals as goal

pub try_prefix_for_each_view_by_ref_bytes_counted-requires : goal.try_prefix_for_each_view_by_ref_bytes_counted-requires
try_prefix_for_each_view_by_ref_bytes_counted-requires g c = record {
  callable = subst (λ (w : List (List ℕ × g.row.V.Denot)). CanTryView g.F.FnMut c.args.f.now
      (cut_pairs (keys_of (tree_pairs (option_copied c.args.self.root))) w))
      (sym (below-nil (tree_pairs (option_copied c.args.self.root)))) c.requires.callable;
}

pub returns-clause-calls : goal.returns-clause-calls
returns-clause-calls g c = rw (below-nil (tree_pairs (option_copied c.args.self.root))) at
    c.try_prefix_for_each_view_by_ref_bytes_counted.ensures.calls

pub returns-clause-visits : goal.returns-clause-visits
returns-clause-visits g c = rw (below-nil (tree_pairs (option_copied c.args.self.root))) at
    c.try_prefix_for_each_view_by_ref_bytes_counted.ensures.visits

pub returns-clause-bound : goal.returns-clause-bound
returns-clause-bound g c = omega (
  arith,
  c.try_prefix_for_each_view_by_ref_bytes_counted.ensures.bound,
  ap length (below-nil (tree_pairs (option_copied c.args.self.root))),
)

pub returns-clause-by_calls : goal.returns-clause-by_calls
returns-clause-by_calls g c = rw (below-nil (tree_pairs (option_copied c.args.self.root))) at
    c.try_prefix_for_each_view_by_ref_bytes_counted.ensures.by_calls
