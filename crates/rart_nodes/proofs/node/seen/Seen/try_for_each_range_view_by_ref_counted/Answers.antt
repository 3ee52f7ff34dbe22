use Rattle.rart_nodes.proofs.node.seen.Seen.try_for_each_range_view_by_ref_counted.Goals as goal

pub try_for_each_range_view_by_ref_bytes_counted-requires : goal.try_for_each_range_view_by_ref_bytes_counted-requires
try_for_each_range_view_by_ref_bytes_counted-requires g c = record {
  callable = rw (c.slice_bound.ensures, c.slice_bound-2.ensures) c.requires.callable;
}
