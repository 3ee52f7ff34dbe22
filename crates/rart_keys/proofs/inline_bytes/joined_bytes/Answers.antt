use Rattle.rart_keys.proofs.strings.InlineBytes.{two_parts-zeros}
use Rattle.rart_keys.proofs.inline_bytes.joined_bytes.Goals as goal

pub returns : goal.returns
returns g c = two_parts-zeros g.row.N c.args.first.now c.args.second.now _ _ c.copy_bytes.ensures
    c.copy_bytes-2.ensures c.requires
