use Rattle.std.proofs.Common.{◌∙◌, ap, replicate}
use Rattle.rart_parts.specs.Entries.{sorted_entries}
use Rattle.rart_maps.specs.Keyed.{with_keys}
use Rattle.rart_maps.proofs.KeyedLemmas.{keyed_start, keyed_empty}
use Rattle.rart_maps.proofs.mapping.keyed_mapping.KeyedMapping.new.Goals as goal

pub invariant_of-result : goal.invariant_of-result
invariant_of-result g c = rw c.in_ok-children.ensures.ok (keyed_start g.row.N.Denot g.row.W c.requires.narrow)

pub returns-clause-ok : goal.returns-clause-ok
returns-clause-ok g c = ap (λ os. sorted_entries (with_keys (replicate g.row.W 255) os)) c.in_ok-children.ensures.ok
    ∙ keyed_empty g.row.N.Denot (replicate g.row.W 255) g.row.W
