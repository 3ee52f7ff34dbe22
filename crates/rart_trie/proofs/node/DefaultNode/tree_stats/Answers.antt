use Rattle.std.proofs.Common.{◌∙◌, ap, arith}
use Rattle.rart_trie.specs.stats.CountedNodes.{sum_of_counts, counts_in, counts_sum}
use Rattle.rart_trie.proofs.tree_stats.CountedStats.{counted-stats, few-for-keys, sums-for-keys, inner-keys}
use Rattle.std.proofs.lemmas.Result.{on_err_weaker}
use Rattle.rart_trie.proofs.edits.Outcomes.{if_ok_weaker}
use Rattle.rart_trie.proofs.node.DefaultNode.tree_stats.Goals as goal

pub count_nodes-height-requires : goal.count_nodes-height-requires
count_nodes-height-requires g c =
    let canonical = rw c.in-Some.is at c.requires.canonical in
    let fits = rw c.in-Some.is at c.requires.fits in
    omega (arith, ap counts_sum c.none-counts.ensures, few-for-keys c.in-Some.node.now canonical, fits)

pub to_stats-requires : goal.to_stats-requires
to_stats-requires g c =
    let canonical = rw c.in-Some.is at c.requires.canonical in
    let fits = rw c.in-Some.is at c.requires.fits in
    let counted = c.count_nodes-height.ensures.counts
    ∙ ap (λ n. sum_of_counts n (counts_in c.in-Some.node.now)) c.none-counts.ensures in
    let sums = sums-for-keys _ _ canonical counted in
    record { counts = omega (arith, sums.0, fits); width = omega (arith, sums.1, fits) }

pub returns-clause-stats : goal.returns-clause-stats
returns-clause-stats g c =
    let canonical = rw c.in-Some.is at c.requires.canonical in
    let counted = c.count_nodes-height.ensures.counts
    ∙ ap (λ n. sum_of_counts n (counts_in c.in-Some.node.now)) c.none-counts.ensures in
    rw c.in-Some.is (if_ok_weaker c.to_stats.result
    (λ s r. counted-stats _ _ _ _ canonical counted c.count_nodes-height.ensures.height r)
    c.to_stats.ensures.value)

pub returns-clause-allocates : goal.returns-clause-allocates
returns-clause-allocates g c =
    let canonical = rw c.in-Some.is at c.requires.canonical in
    let counted = c.count_nodes-height.ensures.counts
    ∙ ap (λ n. sum_of_counts n (counts_in c.in-Some.node.now)) c.none-counts.ensures in
    rw c.in-Some.is (on_err_weaker c.to_stats.result (λ i. inner-keys _ _ canonical counted i)
    c.to_stats.ensures.allocates)
