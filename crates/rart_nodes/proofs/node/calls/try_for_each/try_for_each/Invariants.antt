use Rattle.std.proofs.Common.{ℕ, ◌≡◌, ◌≤◌, ◌+◌, ◌*◌, ◌^◌, [], length, reverse, vec_capacity}
use Rattle.std.specs.Option.{option_copied}
use Rattle.rart_nodes.specs.ranges.Potential.{AreLow, potential}
use Rattle.rart_trie.specs.walks.Walk.{IsWalk, nodes_below, entry_values, entries_ahead}
use Rattle.rart_nodes.specs.walks.PathParts.{no_segment}
use Rattle.rart_nodes.specs.walks.Tried.{CanTry, EndsAfter, EndsAs}
use Rattle.rart_nodes.proofs.node.calls.try_for_each.try_for_each.Given as goal

abbrev pub invariant-loop-value : goal.invariant-loop-value
invariant-loop-value g l = record {
  callable : CanTry g.F.FnMut l.f (entry_values
      (entries_ahead no_segment [] (option_copied l.walk.first) l.walk.levels.items));
  path : IsWalk l.walk.longest (vec_capacity l.walk.levels) [] (reverse l.walk.levels.items);
  reserved : l.walk.longest ≤ 2 ^ 64;
  ends : (r : _) (last : _) → EndsAs g.F.FnMut l.f
      (entry_values (entries_ahead no_segment [] (option_copied l.walk.first) l.walk.levels.items)) r last
      → EndsAs g.F.FnMut l.fn.f (entry_values (entries_ahead no_segment [] (option_copied l.fn.walk.first)
      l.fn.walk.levels.items)) r last;
  low : (h : ℕ) → AreLow h (reverse l.fn.walk.levels.items) → AreLow h (reverse l.walk.levels.items);
  counted : (k : ℕ) × (((n m : ℕ) (r : _) (last : _) → m ≡ k + n → EndsAfter g.F.FnMut l.f
      (entry_values (entries_ahead no_segment [] (option_copied l.walk.first) l.walk.levels.items)) n r last
      → EndsAfter g.F.FnMut l.fn.f (entry_values (entries_ahead no_segment [] (option_copied l.fn.walk.first)
      l.fn.walk.levels.items)) m r last)
      × (g.C.Count.number l.counter + potential (reverse l.fn.walk.levels.items)
      ≤ g.C.Count.number l.fn.counter + 2 * k + potential (reverse l.walk.levels.items)));
  visits : g.C.Count.number l.counter + nodes_below (reverse l.walk.levels.items) ≤ g.C.Count.number l.fn.counter
      + nodes_below (reverse l.fn.walk.levels.items);
}

abbrev pub decreases-loop-value : goal.decreases-loop-value
decreases-loop-value g l = length (entries_ahead no_segment [] (option_copied l.walk.first) l.walk.levels.items)
