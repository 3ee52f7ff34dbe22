use Rattle.std.proofs.Common.{refl}
use Rattle.std.proofs.lemmas.Iterator.Consumers.{YieldsList-from_first}
use Rattle.rart.proofs.script.probe.reply_to_matches.Goals as goal

pub returns-in-Ok : goal.returns-in-Ok
returns-in-Ok g c =
    let all = YieldsList-from_first (λ p. (g.K.KeyTrait.bytes p.0, p.1.now)) (λ rest. rest) _
    c.prefix_match_iter_k.ensures in
    (c.in-Ok.ensures.pairs _ all.runs, refl)

pub returns : goal.returns
returns g c =
    let all = YieldsList-from_first (λ p. (g.K.KeyTrait.bytes p.0, p.1.now)) (λ rest. rest) _
    c.prefix_match_iter_k.ensures in
    let refused = c.in-Err.ensures.memory _ all.runs in
    (refused.0, refused.1, refl)
