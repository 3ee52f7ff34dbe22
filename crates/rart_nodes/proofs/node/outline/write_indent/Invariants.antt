use Rattle.std.specs.Fmt.{HasWritten, IsPlainFormatter}
use Rattle.rart_nodes.specs.walks.Outlines.{indent}
use Rattle.rart_nodes.proofs.node.outline.write_indent.Given as goal

abbrev pub invariant-loop : goal.invariant-loop
invariant-loop g l = IsPlainFormatter l.initial.f
    → HasWritten g.W.Write.write_str_gives l.initial.f (indent l.counter) l.f
