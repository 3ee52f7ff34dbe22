use Rattle.rart_trie.proofs.tree_stats.StatsLemmas.{height-keys, statistics-keys}
use Rattle.rart_trie.proofs.tree_stats.WidthSums.{few_widths}
use Rattle.rart_laws.proofs.stats.of_keys.Goals as goal

pub returns : goal.returns
returns g c = record { value = statistics-keys; height = height-keys; few_widths = few_widths }
