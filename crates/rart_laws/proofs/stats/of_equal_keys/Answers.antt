use Rattle.rart_trie.proofs.tree_stats.StatsLemmas.{equal-statistics}
use Rattle.rart_laws.proofs.stats.of_equal_keys.Goals as goal

pub returns : goal.returns
returns g c = equal-statistics
