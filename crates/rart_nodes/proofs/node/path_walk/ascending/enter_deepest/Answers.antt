use Rattle.std.proofs.Common.{arith, rules, ◌≡◌, ◌<◌, ◌+◌, ◌-◌, length, vec_len, slice_index_or}
use Rattle.rart_nodes.proofs.walks.WalkLemmas.{step-last}
use Rattle.rart_nodes.proofs.node.path_walk.ascending.enter_deepest.Goals as goal

pub returns-clause-shown : goal.returns-clause-shown
returns-clause-shown g c =
    let v : c.in_ok-level.level.now ≡ slice_index_or c.args.levels.now.items (vec_len c.args.levels.now - 1)
    c.in_ok-level.level.now = search rules in
    let some : 0 < vec_len c.args.levels.now = search rules in
    let n : vec_len c.args.levels.now - 1 + 1 ≡ length c.args.levels.now.items
    = omega (arith, some, c.args.levels.now.ok.0) in
    step-last c.args.levels.now.items (vec_len c.args.levels.now - 1) c.in_ok-level.level.now c.enter_next.new.self
    c.in_ok-at.at.node.now n v c.in_ok-at.ensures.shown
