use Rattle.std.proofs.Common.{sym, ◌∙◌}
use Rattle.rart_shape.proofs.ShapeRecordLemmas.{contains-here, contains-after}
use Rattle.rart_shape.proofs.contains_key.Goals as goal

pub returns-then-eq : goal.returns-then-eq
returns-then-eq c = sym (contains-here c.args.keys.now c.loop-key.key-index _ c.args.path.now c.loop-key-test.true
    c.if-eq.ensures) ∙ c.loop-key.invariant

pub loop-key-preserved : goal.loop-key-preserved
loop-key-preserved c = contains-after c.args.keys.now c.loop-key.key-index _ c.args.path.now c.loop-key-test.true
    c.if-eq.ensures ∙ c.loop-key.invariant
