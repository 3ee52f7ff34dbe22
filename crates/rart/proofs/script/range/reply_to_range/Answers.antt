use Rattle.std.proofs.Common.{ap, refl}
use Rattle.std.proofs.lemmas.Iterator.Consumers.{YieldsList-from_first}
use Rattle.rart_keys.specs.Ranges.{between, bound_in, up_to}
use Rattle.rart.proofs.script.range.reply_to_range.Goals as goal

pub returns-in-Ok-copied_pairs : goal.returns-in-Ok-copied_pairs
returns-in-Ok-copied_pairs g c =
    let all = YieldsList-from_first (λ p. (g.K.KeyTrait.bytes p.0, p.1.now)) (λ r. up_to r.0 r.1) _
    c.in-Ok.ensures.pairs in
    (c.in-Ok-copied_pairs.ensures.pairs _ all.runs, refl)

pub returns-in-Err-copied_pairs : goal.returns-in-Err-copied_pairs
returns-in-Err-copied_pairs g c =
    let all = YieldsList-from_first (λ p. (g.K.KeyTrait.bytes p.0, p.1.now)) (λ r. up_to r.0 r.1) _
    c.in-Ok.ensures.pairs in
    let refused = c.in-Err-copied_pairs.ensures.memory _ all.runs in
    let bytes = g.K.KeyTrait.bytes in
    (refused.0, λ none. refused.1 (ap (between (bound_in bytes c.args.start) (bound_in bytes c.args.end)) none), refl)
