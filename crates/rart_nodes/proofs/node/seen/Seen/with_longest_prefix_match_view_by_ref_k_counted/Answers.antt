use Rattle.rart_nodes.proofs.node.seen.Seen.with_longest_prefix_match_view_by_ref_k_counted.Goals as goal

pub with_longest_prefix_match_view_by_ref_bytes_counted-requires :
    goal.with_longest_prefix_match_view_by_ref_bytes_counted-requires
with_longest_prefix_match_view_by_ref_bytes_counted-requires g c = record {
  callable = rw c.as_ref.ensures c.requires.callable;
}
