use Rattle.std.proofs.Common.{◌≡◌}
use Rattle.rart_uses.proofs.cursor.double_all.Given as goal

abbrev pub invariant-loop : goal.invariant-loop
invariant-loop g l = (l.cursor.tree.ghost_name ≡ l.initial.cursor.tree.ghost_name)
    × (l.cursor.tree.now.nodes ≡ l.fn.tree.nodes)
