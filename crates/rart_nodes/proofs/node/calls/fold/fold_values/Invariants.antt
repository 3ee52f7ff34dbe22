use Rattle.std.proofs.Common.{◌≤◌, ◌+◌, ◌^◌, [], length, reverse, vec_capacity}
use Rattle.std.specs.Option.{option_copied}
use Rattle.std.specs.List.{FoldsTo}
use Rattle.rart_nodes.specs.walks.Shown.{CanFold, Folded}
use Rattle.rart_trie.specs.walks.Walk.{IsWalk, nodes_below, entry_values, entries_ahead}
use Rattle.rart_nodes.specs.walks.PathParts.{no_segment}
use Rattle.rart_nodes.proofs.node.calls.fold.fold_values.Given as goal

abbrev pub invariant-loop-value : goal.invariant-loop-value
invariant-loop-value g l = record {
  callable : CanFold g.F.FnMut l.f l.state
      (entry_values (entries_ahead no_segment [] (option_copied l.walk.first) l.walk.levels.items));
  path : IsWalk l.walk.longest (vec_capacity l.walk.levels) [] (reverse l.walk.levels.items);
  reserved : l.walk.longest ≤ 2 ^ 64;
  folds : (last : _) → FoldsTo (λ p x q. Folded g.F.FnMut p x q) (l.f, l.state)
      (entry_values (entries_ahead no_segment [] (option_copied l.walk.first) l.walk.levels.items)) last
      → FoldsTo (λ p x q. Folded g.F.FnMut p x q) (l.fn.f, l.fn.init)
      (entry_values (entries_ahead no_segment [] (option_copied l.fn.walk.first) l.fn.walk.levels.items)) last;
  visits : g.C.Count.number l.counter + nodes_below (reverse l.walk.levels.items) ≤ g.C.Count.number l.fn.counter
      + nodes_below (reverse l.fn.walk.levels.items);
}

abbrev pub decreases-loop-value : goal.decreases-loop-value
decreases-loop-value g l = length (entry_values
    (entries_ahead no_segment [] (option_copied l.walk.first) l.walk.levels.items))
