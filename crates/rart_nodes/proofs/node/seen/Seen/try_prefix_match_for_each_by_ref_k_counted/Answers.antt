use Rattle.rart_nodes.proofs.node.seen.Seen.try_prefix_match_for_each_by_ref_k_counted.Goals as goal

pub try_prefix_match_for_each_by_ref_bytes_counted-requires :
    goal.try_prefix_match_for_each_by_ref_bytes_counted-requires
try_prefix_match_for_each_by_ref_bytes_counted-requires g c = record {
  callable = rw c.as_ref.ensures c.requires.callable;
}

pub returns-clause-calls : goal.returns-clause-calls
returns-clause-calls g c = rw (← c.as_ref.ensures) c.try_prefix_match_for_each_by_ref_bytes_counted.ensures.calls

pub returns-clause-by_key : goal.returns-clause-by_key
returns-clause-by_key g c = rw (← c.as_ref.ensures) c.try_prefix_match_for_each_by_ref_bytes_counted.ensures.by_key
