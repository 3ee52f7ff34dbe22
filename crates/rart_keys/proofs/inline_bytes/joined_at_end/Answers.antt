use Rattle.std.proofs.Common.{arith}
use Rattle.rart_keys.proofs.strings.InlineBytes.{zeros-two_parts}
use Rattle.rart_keys.proofs.inline_bytes.joined_at_end.Goals as goal

pub returns : goal.returns
returns g c = zeros-two_parts g.row.N _ c.args.first.now c.args.second.now _ _ c.copy_bytes.ensures
    c.copy_bytes-2.ensures (omega arith)
