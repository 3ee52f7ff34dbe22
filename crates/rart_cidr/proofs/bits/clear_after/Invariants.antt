use Rattle.std.proofs.Common.{◌≡◌}
use Rattle.rart_cidr.proofs.networks.NetworkLemmas.{cleared_before}
use Rattle.rart_cidr.proofs.bits.clear_after.Given as goal

abbrev pub invariant-loop-at : goal.invariant-loop-at
invariant-loop-at l = l.octets ≡ cleared_before l.initial.octets l.bits l.at
