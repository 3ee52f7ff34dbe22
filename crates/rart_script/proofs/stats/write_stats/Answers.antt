use Rattle.std.proofs.Common.{◌≡◌, append_assoc}
use Rattle.std.proofs.lemmas.Result.{on_ok_weaker}
use Rattle.rart_trie.specs.stats.Stats.{stats_in}
use Rattle.rart_script.proofs.PrintLemmas.{widths-begin, widths-next, widths-end}
use Rattle.rart_script.proofs.stats.write_stats.Goals as goal

pub loop-width-init : goal.loop-width-init
loop-width-init g c =
    let whole : c.into_iter-width-iterator.result ≡ c.args.stats.now.node_stats.entries = cc in
    widths-begin _ _ (stats_in c.args.stats.now) _ whole c.in_ok-write_sums.ensures

pub loop-width-preserved : goal.loop-width-preserved
loop-width-preserved g c = widths-next _ _ _ _ _ _ _ c.in-Some.ensures.steps c.loop-width.invariant
    (simp append_assoc c.in_ok-write.ensures.bytes)

pub returns : goal.returns
returns g c = on_ok_weaker c.writeln.result (widths-end _ _ _ _ _ c.in-None.ensures.steps.0 c.loop-width.invariant)
    c.writeln.ensures.bytes
