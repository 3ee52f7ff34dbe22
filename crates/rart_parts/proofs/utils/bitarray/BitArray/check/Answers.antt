use Rattle.std.proofs.Common.{◌∙◌, ap, arith}
use Rattle.rart_parts.specs.Places.{is_used}
use Rattle.rart_parts.proofs.PlaceLemmas.{read_used}
use Rattle.rart_parts.proofs.utils.bitarray.BitArray.check.Goals as goal

pub returns : goal.returns
returns g c = c.is_some.ensures
    ∙ read_used c.self.inside.places.items c.args.position c.index.result.now
    (omega (arith, c.requires, c.self.invariant.full)) c.index.ensures
    ∙ ap (λ os. is_used os c.args.position) c.self.view_is
