use Rattle.rart_cidr.proofs.routes.CloneLemmas.{cloned-more}
use Rattle.rart_cidr.proofs.network_table.clones.insert_clones.Goals as goal

pub loop-route-preserved : goal.loop-route-preserved
loop-route-preserved g c = let put = c.in_ok-put_clone.ensures in
    cloned-more c.loop-route.invariant c.requires.ascending c.in-Some.ensures.steps put.1 put.2
