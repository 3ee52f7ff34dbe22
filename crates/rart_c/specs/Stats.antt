-- Statistics as C reads them.
use Rattle.std.specs.Prelude.{◌≡◌, ◌≤◌, ℕ, length}
use Rattle.rart_keys.specs.SortedMap.{keys_of}
use Rattle.rart_trie.specs.stats.Stats.{KeyStats, stats_of}
use Rattle.rart.specs.MapAndShape.{MapAndShape}
use Rattle.rart_c.specs.Answers.{Status, Done, NoMemory}
use Rattle.rart_c.specs.declared.stats.RartStats.{RartStats}

abbrev pub numbers_of : KeyStats → RartStats
numbers_of s = record {
  leaves = s.leaves;
  values = s.values;
  inner_nodes = s.inner_nodes;
  children = s.children;
  width = s.width;
  height = s.height;
}

-- `stats`. Not done: nothing was written
abbrev pub CountsNodes : MapAndShape ℕ → RartStats → RartStats → Status → Type 0
CountsNodes map was is Done = is ≡ numbers_of (stats_of (keys_of map.pairs) map.nodes)
CountsNodes map was is NoMemory = (2 ≤ length map.pairs) × (is ≡ was)
CountsNodes map was is _ = ⊥
