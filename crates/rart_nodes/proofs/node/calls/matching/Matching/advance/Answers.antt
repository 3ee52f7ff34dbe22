use Rattle.std.proofs.Common.{rules, of_calls, ap, option_map, sym, ◌∙◌, Some}
use Rattle.rart_nodes.proofs.walks.MatchLemmas.{moved-past, past-node}
use Rattle.rart_nodes.proofs.node.calls.matching.Matching.advance.Goals as goal

pub returns-in-Some-value-clause-past : goal.returns-in-Some-value-clause-past
returns-in-Some-value-clause-past g c =
    let here = ap (option_map (λ s. s.node.now)) (sym c.take.ensures.value ∙ c.in-Some.is)
    ∙ ap Some (sym c.enter-at.ensures.shown) in
    past-node c.loop-node.invariant.descends here c.in-Some-pass.ensures c.enter-at.ensures.counted

pub loop-node-preserved : goal.loop-node-preserved
loop-node-preserved g c =
    let here = ap (option_map (λ s. s.node.now)) (sym c.take.ensures.value ∙ c.in-Some.is)
    ∙ ap Some (sym c.enter-at.ensures.shown) in
    record {
      within = c.in-Some-pass.ensures.within;
      still = search (rules, of_calls);
      visits = search (rules, of_calls);
      descends = moved-past (past-node c.loop-node.invariant.descends here c.in-Some-pass.ensures
          c.enter-at.ensures.counted);
    }
