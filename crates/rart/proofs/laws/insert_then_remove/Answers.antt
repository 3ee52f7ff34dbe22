use Rattle.rart.proofs.LawLemmas.{counted-by-keys, pairs-restored, same-nodes, same-stats}
use Rattle.rart.proofs.laws.insert_then_remove.Goals as goal

pub returns-in-Ok-get_tree_stats-2-clause-between : goal.returns-in-Ok-get_tree_stats-2-clause-between
returns-in-Ok-get_tree_stats-2-clause-between g c
    = counted-by-keys _ c.insert_k.new.self _ c.one_shape.ensures c.in-Ok-insert_k.ensures.inserts.2
    c.in-Ok-get_tree_stats.ensures.stats c.canonical-in-Ok-insert_k.ensures.shape

pub returns-in-Ok-get_tree_stats-2-clause-after : goal.returns-in-Ok-get_tree_stats-2-clause-after
returns-in-Ok-get_tree_stats-2-clause-after g c =
    let pairs = pairs-restored _ _ _ _ _ c.in-Ok-insert_k.ensures.inserts.2 c.in-Ok-remove_k.ensures.removes.1
    (c.sorted_map.ensures.put_then_without _ _ _ c.canonical.ensures.ascending c.requires.absent) in
    let nodes = same-nodes c.args.tree.now c.remove_k.new.self c.one_shape.ensures pairs
    c.canonical-in-Ok-remove_k.ensures.shape c.canonical.ensures.shape in
    same-stats c.args.tree.now c.remove_k.new.self _ _ pairs nodes c.in-Ok.ensures.stats
    c.in-Ok-get_tree_stats-2.ensures.stats

pub returns-in-Ok-get_tree_stats-2-clause-nodes : goal.returns-in-Ok-get_tree_stats-2-clause-nodes
returns-in-Ok-get_tree_stats-2-clause-nodes g c =
    let pairs = pairs-restored _ _ _ _ _ c.in-Ok-insert_k.ensures.inserts.2 c.in-Ok-remove_k.ensures.removes.1
    (c.sorted_map.ensures.put_then_without _ _ _ c.canonical.ensures.ascending c.requires.absent) in
    same-nodes c.args.tree.now c.remove_k.new.self c.one_shape.ensures pairs c.canonical-in-Ok-remove_k.ensures.shape
    c.canonical.ensures.shape

pub returns-in-Err-get_tree_stats-2-clause-refused : goal.returns-in-Err-get_tree_stats-2-clause-refused
returns-in-Err-get_tree_stats-2-clause-refused g c =
    let pairs = pairs-restored _ _ _ _ _ c.in-Ok-insert_k.ensures.inserts.2 c.in-Ok-remove_k.ensures.removes.1
    (c.sorted_map.ensures.put_then_without _ _ _ c.canonical.ensures.ascending c.requires.absent) in (
      (c.in-Err-get_tree_stats-2.ensures.memory, rw pairs at c.in-Err-get_tree_stats-2.ensures.allocates),
      pairs,
      same-nodes
          c.args.tree.now c.remove_k.new.self c.one_shape.ensures pairs c.canonical-in-Ok-remove_k.ensures.shape
          c.canonical.ensures.shape,
    )
