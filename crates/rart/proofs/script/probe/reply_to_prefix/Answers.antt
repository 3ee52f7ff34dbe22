use Rattle.std.proofs.Common.{ap, refl}
use Rattle.std.proofs.lemmas.Iterator.Consumers.{YieldsList-from_first}
use Rattle.rart_keys.specs.Filters.{below}
use Rattle.rart.proofs.script.probe.reply_to_prefix.Goals as goal

pub returns-in-Ok-copied_pairs : goal.returns-in-Ok-copied_pairs
returns-in-Ok-copied_pairs g c =
    let all = YieldsList-from_first (λ p. (g.K.KeyTrait.bytes p.0, p.1.now)) (λ rest. rest) _ c.in-Ok.ensures.pairs in
    (c.in-Ok-copied_pairs.ensures.pairs _ all.runs, refl)

pub returns : goal.returns
returns g c =
    let all = YieldsList-from_first (λ p. (g.K.KeyTrait.bytes p.0, p.1.now)) (λ rest. rest) _ c.in-Ok.ensures.pairs in
    let refused = c.in-Err-copied_pairs.ensures.memory _ all.runs in
    (refused.0, λ none. refused.1 (ap (below (g.K.KeyTrait.bytes c.args.key)) none), refl)
