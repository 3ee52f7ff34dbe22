use Rattle.rart_nodes.proofs.node.seen.Seen.prefix_values_for_each_by_ref_k_counted.Goals as goal

pub prefix_values_for_each_by_ref_bytes_counted-requires : goal.prefix_values_for_each_by_ref_bytes_counted-requires
prefix_values_for_each_by_ref_bytes_counted-requires g c = record { callable = rw c.as_ref.ensures c.requires.callable }

pub returns-clause-calls : goal.returns-clause-calls
returns-clause-calls g c = rw (← c.as_ref.ensures) c.prefix_values_for_each_by_ref_bytes_counted.ensures.calls
