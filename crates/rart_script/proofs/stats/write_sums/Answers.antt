use Rattle.std.proofs.Common.{append_assoc}
use Rattle.rart_script.proofs.stats.write_sums.Goals as goal

pub returns : goal.returns
returns g c = simp append_assoc c.write.ensures.bytes
