use Rattle.std.proofs.Common.{arith}
use Rattle.rart_parts.proofs.entries.EntryLemmas.{length-between_absent, length-with_entry}
use Rattle.rart_parts.proofs.laws.free_byte.Goals as goal

pub returns : goal.returns
returns g c = record {
  at_most = λ k es less free ascends above. omega (
    arith,
    length-between_absent 0 256 k es (omega arith) less free ascends (λ b l. absurd (omega (arith, l)))
        above,
  );
  longer = length-with_entry;
}
