-- How the statistics of a tree are written.
use Rattle.std.specs.Prelude.{ℕ, [], ◌∷◌, ◌++◌, List, map, codes, decimal}
use Rattle.std.specs.List.{concat}
use Rattle.rart_trie.specs.stats.Stats.{KeyStats}
use Rattle.rart_trie.specs.declared.stats.NodeStats.{NodeStats}

-- the nodes of one width and their children, after a space
abbrev pub width_word : ℕ × NodeStats → List ℕ
width_word (width, stats) = codes " w" ++ decimal width ++ codes ":" ++ decimal stats.total_nodes ++ codes "/"
    ++ decimal stats.total_children

-- the sums
abbrev pub sums_text : KeyStats → List ℕ
sums_text s = codes "leaves " ++ decimal s.leaves ++ codes " values " ++ decimal s.values ++ codes " inner "
    ++ decimal s.inner_nodes
    ++ codes " children " ++ decimal s.children ++ codes " width " ++ decimal s.width ++ codes " height "
    ++ decimal s.height

-- the line for statistics
abbrev pub stats_line : KeyStats → List ℕ
stats_line s = sums_text s ++ concat (map width_word s.widths) ++ 10 ∷ []
