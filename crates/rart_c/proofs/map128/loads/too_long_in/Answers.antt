use Rattle.std.proofs.Common.{rules, map, ◌∙◌}
use Rattle.std.proofs.lemmas.List.{length-map}
use Rattle.rart_c.proofs.Loads.{ended-within}
use Rattle.rart_c.proofs.map128.loads.too_long_in.Goals as goal

pub returns-clause-fit : goal.returns-clause-fit
returns-clause-fit c =
    ended-within c.loop-pair.at 128 (map (λ p. p.len) c.loop-pair.rest.now) (map (λ p. p.len) c.args.pairs.now)
    (length-map c.loop-pair.rest.now (λ p. p.len) ∙ (search rules)) c.loop-pair.invariant.same
