use Rattle.std.proofs.Common.{arith, ◌≡◌, ◌+◌, suc}
use Rattle.rart_trie.specs.tries.Trie.{capacity_in, prefix_of, value_of}
use Rattle.rart_nodes.specs.walks.Outlines.{node_line, outline_below}
use Rattle.rart_nodes.proofs.joins.AlignmentLemmas.{fewer-below, fewer-left}
use Rattle.rart_nodes.proofs.walks.OutlineLemmas.{all-last, child-level, displays-err, fewer-last, shows-ok}
use Rattle.rart_nodes.proofs.walks.OutlineLemmas.{written-child, written-start}
use Rattle.rart_nodes.proofs.node.outline.+write_below.Goals as goal

pub loop-child-init : goal.loop-child-init
loop-child-init g t c = record {
  written = rw c.branches-rest.ensures (written-start g.W.Write.write_str_gives g.V.Display.output c.args.level
      c.args.at.node.now c.args.f.now c.write_line.new.f
      (shows-ok g.W.Write.write_str_gives c.args.f.now c.write_line.new.f c.in_ok-write_line.field-0
      (node_line g.V.Display.output c.args.level (prefix_of c.args.at.node.now) (value_of c.args.at.node.now)
      (capacity_in c.args.at.node.now)) c.in_ok-write_line.ensures));
  last = all-last c.args.at.node.now c.branches-rest.result c.args.at.canonical c.branches-rest.ensures;
}

pub loop-child-preserved : goal.loop-child-preserved
loop-child-preserved g t c =
    let w = c.loop-child.invariant in
    let e = c.in-Some.ensures.shown in
    let took = g.W.Write.write_str_gives in
    let deep : c.args.level + 1 ≡ suc c.args.level = omega arith in
    let below = shows-ok took c.loop-child.f c.write_below.new.f c.in_ok-write_below.field-0
    (outline_below g.V.Display.output (c.args.level + 1) c.in-Some.child.node.now) c.in_ok-write_below.ensures in
    record {
      written = written-child took g.V.Display.output c.args.level _ _ e.1 w.written (rw deep at below);
      last = fewer-last _ _ _ _ _ e.1 w.last;
    }

pub overflow_add-level : goal.overflow_add-level
overflow_add-level g t c = omega (
  arith,
  c.requires,
  child-level c.args.at.node.now c.in-Some.child.node.now _
      c.args.level _ _ c.in-Some.ensures.shown.1 c.loop-child.invariant.last,
)

pub write_below-requires : goal.write_below-requires
write_below-requires g t c κs within =
    let next = c.in-Some.ensures.shown.1 in
    let last = c.loop-child.invariant.last in
    let falls = fewer-below c.args.at.node.now _ _ _ _ next last.fewer in
    let bound = child-level c.args.at.node.now c.in-Some.child.node.now _ c.args.level _ _ next last in (
      omega (arith, c.decreases, falls),
      (within.0, (within.1.0, (within.1.1.0, (within.1.1.1, omega (arith, c.requires, bound))))),
    )

pub loop-child-smaller : goal.loop-child-smaller
loop-child-smaller g t c = fewer-left _ _ _ _ c.in-Some.ensures.shown.1

pub returns-in_err-write_below : goal.returns-in_err-write_below
returns-in_err-write_below g t c = displays-err g.W.Write.write_str_gives c.args.f.now c.write_below.new.f
    c.from_residual-in_err-write_below.result _ (outline_below g.V.Display.output c.args.level c.args.at.node.now)
    c.from_residual-in_err-write_below.ensures.1
