-- The numbers that the count of a tree's nodes keeps.
use Rattle.std.specs.Prelude.{ℕ, ◌+◌, ◌*◌, ◌==◌, nat_le, Bool, List, ◌++◌, if◌then◌else◌}
use Rattle.std.specs.BTreeMap.{insert_entry}
use Rattle.std.specs.Ordering.{nat_cmp}
use Rattle.rart_trie.specs.declared.stats.NodeStats.{NodeStats}
use Rattle.rart_trie.specs.declared.stats.counts.Counts.{Counts}
use Rattle.rart_trie.specs.declared.stats.counts.WidthCount.{WidthCount}
use Rattle.rart_trie.specs.shapes.Shape.{NodeRecord}
use Rattle.rart_trie.specs.stats.Stats.{KeyStats, one_if, leaves_at, values_at, nodes_of_width}
use Rattle.rart_trie.specs.stats.Stats.{children_of_width, width_entry, sum_in, sum_in_children}
use Rattle.rart_trie.specs.tries.Trie.{Trie, Children}

-- where f sums what the nodes add
abbrev pub width_count_by : ((NodeRecord → ℕ) → ℕ) → ℕ → WidthCount
width_count_by f w = record { nodes = f (nodes_of_width w); children = f (children_of_width w) }

abbrev pub counts_by : ((NodeRecord → ℕ) → ℕ) → Counts
counts_by f = record {
  leaves = f leaves_at;
  values = f values_at;
  four = width_count_by f 4;
  sixteen
      = width_count_by f 16;
  forty_eight = width_count_by f 48;
  full = width_count_by f 256;
}

abbrev pub counts_in : {V : Type 0} → Trie V → Counts
counts_in t = counts_by (λ m. sum_in m t)

abbrev pub counts_in_children : {V : Type 0} → Children V → Counts
counts_in_children cs = counts_by (λ m. sum_in_children m cs)

-- of one node, of width n and with c children
abbrev pub width_count_of : ℕ → ℕ → ℕ → WidthCount
width_count_of w n c = record { nodes = one_if (n == w); children = if n == w then c else 0 }

abbrev pub counts_of_node : Bool → ℕ → ℕ → Counts
counts_of_node h n c = record {
  leaves = one_if (c == 0);
  values = one_if h;
  four = width_count_of 4 n c;
  sixteen
      = width_count_of 16 n c;
  forty_eight = width_count_of 48 n c;
  full = width_count_of 256 n c;
}

-- both together
abbrev pub width_counts_added : WidthCount → WidthCount → WidthCount
width_counts_added a b = record { nodes = a.nodes + b.nodes; children = a.children + b.children }

abbrev pub sum_of_counts : Counts → Counts → Counts
sum_of_counts a b = record {
  leaves = a.leaves + b.leaves;
  values = a.values + b.values;
  four
      = width_counts_added a.four b.four;
  sixteen = width_counts_added a.sixteen b.sixteen;
  forty_eight
      = width_counts_added a.forty_eight b.forty_eight;
  full = width_counts_added a.full b.full;
}

-- entries with that of the nodes of width w, if there are any
abbrev pub with_width : WidthCount → ℕ → List (ℕ × NodeStats) → List (ℕ × NodeStats)
with_width c w es = if nat_le 1 c.nodes then insert_entry nat_cmp es w
    (record { width = w; total_nodes = c.nodes; total_children = c.children }) else es

-- the sum of all numbers, which bounds each
abbrev pub counts_sum : Counts → ℕ
counts_sum c = c.leaves + c.values + (c.four.nodes + c.four.children) + (c.sixteen.nodes + c.sixteen.children)
    + (c.forty_eight.nodes + c.forty_eight.children) + (c.full.nodes + c.full.children)

-- over the four widths
abbrev pub inner_counted : Counts → ℕ
inner_counted c = c.four.nodes + c.sixteen.nodes + c.forty_eight.nodes + c.full.nodes

abbrev pub children_counted : Counts → ℕ
children_counted c = c.four.children + c.sixteen.children + c.forty_eight.children + c.full.children

abbrev pub counted_width : Counts → ℕ
counted_width c = 4 * c.four.nodes + 16 * c.sixteen.nodes + 48 * c.forty_eight.nodes + 256 * c.full.nodes

abbrev pub stats_of_counts : Counts → ℕ → KeyStats
stats_of_counts c h = record {
  leaves = c.leaves;
  values = c.values;
  inner_nodes = inner_counted c;
  widths = width_entry 4 c.four.nodes c.four.children ++ width_entry 16 c.sixteen.nodes c.sixteen.children
      ++ width_entry 48 c.forty_eight.nodes c.forty_eight.children ++ width_entry 256 c.full.nodes c.full.children;
  children = children_counted c;
  width = counted_width c;
  height = h;
}
