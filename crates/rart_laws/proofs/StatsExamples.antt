-- Rows of the statistics, by computation.
use Rattle.std.proofs.Common.{◌≡◌, ℕ, List, [], ◌∷◌, refl, None}
use Rattle.rart_keys.specs.SortedMap.{keys_of}
use Rattle.rart_trie.specs.edits.EditRuns.{Edit, puts, run_tree, run_map}
use Rattle.rart_trie.specs.stats.Stats.{KeyStats, stats_of}
use Rattle.rart_trie.specs.declared.stats.NodeStats.{NodeStats}
use Rattle.rart_trie.specs.tries.Tree.{tree_nodes}

abbrev stats_after : List (Edit ℕ) → KeyStats
stats_after es = stats_of (keys_of (run_map es [])) (tree_nodes (run_tree es None))

-- n nodes of width w, which have c children together
abbrev of_width : ℕ → ℕ → ℕ → ℕ × NodeStats
of_width w n c = (w, record { width = w; total_nodes = n; total_children = c })

no_keys : stats_after [] ≡ record {
  leaves = 0;
  values = 0;
  inner_nodes = 0;
  widths = [];
  children = 0;
  width
      = 0;
  height = 0;
}
no_keys = refl

empty_key : stats_after (puts [] 0 ∷ []) ≡ record {
  leaves = 1;
  values = 1;
  inner_nodes = 0;
  widths = [];
  children
      = 0;
  width = 0;
  height = 1;
}
empty_key = refl

-- "", "a"
empty_key_and_a : stats_after (puts [] 0 ∷ puts (97 ∷ []) 1 ∷ [])
    ≡ record {
      leaves = 1;
      values = 2;
      inner_nodes = 1;
      widths = of_width 4 1 1 ∷ [];
      children = 1;
      width = 4;
      height
          = 2;
    }
empty_key_and_a = refl

-- "ab", "abcd", "abce"
abbrev three : List (Edit ℕ)
three = puts (97 ∷ 98 ∷ []) 1 ∷ puts (97 ∷ 98 ∷ 99 ∷ 100 ∷ []) 2 ∷ puts (97 ∷ 98 ∷ 99 ∷ 101 ∷ []) 3 ∷ []

three_levels : stats_after three ≡ record {
  leaves = 2;
  values = 3;
  inner_nodes = 2;
  widths
      = of_width 4 2 3 ∷ [];
  children = 3;
  width = 8;
  height = 3;
}
three_levels = refl

-- "x", and "xy" followed by each of the bytes 0 to 4
abbrev fan : List (Edit ℕ)
fan = puts (120 ∷ []) 0 ∷ puts (120 ∷ 121 ∷ 0 ∷ []) 1 ∷ puts (120 ∷ 121 ∷ 1 ∷ []) 2 ∷ puts (120 ∷ 121 ∷ 2 ∷ []) 3
    ∷ puts (120 ∷ 121 ∷ 3 ∷ []) 4 ∷ puts (120 ∷ 121 ∷ 4 ∷ []) 5 ∷ []

two_widths : stats_after fan ≡ record {
  leaves = 5;
  values = 6;
  inner_nodes = 2;
  widths
      = of_width 4 1 1 ∷ of_width 16 1 5 ∷ [];
  children = 6;
  width = 20;
  height = 3;
}
two_widths = refl
