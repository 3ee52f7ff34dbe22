use Rattle.std.proofs.Common.{◌≡◌, ◌∙◌, replicate, None, ap, arith}
use Rattle.rart_parts.proofs.utils.places.new_places.Goals as goal

pub returns-clause-ok : goal.returns-clause-ok
returns-clause-ok g c =
    let full : c.loop-i.i ≡ c.args.count = omega (arith, c.loop-i.auto, c.loop-i-test.false) in
    c.loop-i.invariant.0 ∙ ap (λ n. replicate n None) full
