use Rattle.std.proofs.Common.{◌∙◌, ap, length, ◌-◌}
use Rattle.std.specs.Prelude.{slice_get}
use Rattle.rart_shape.proofs.ShapeRecordLemmas.{next-none, next-same, next-other}
use Rattle.rart_shape.proofs.next_bytes.Goals as goal
use Rattle.rart_shape.proofs.next_bytes.Goals.{then-ne+in-Ok, else-ne}

pub loop-key-preserved-in_default : goal.loop-key-preserved-in_default
loop-key-preserved-in_default c = next-none c.args.keys.now c.loop-key.key-index _ c.args.path.now
    c.loop-key.bytes.items c.loop-key-test.true c.in_default.ensures c.loop-key.invariant

pub loop-key-preserved : goal.loop-key-preserved
loop-key-preserved c =
    let l = c.copied.ensures ∙ c.last.ensures.value ∙ ap (λ bs. slice_get bs (length bs - 1)) c.deref.ensures.value in
    elim c.if-ne.branch [
      | then-ne+in-Ok w ↦ ap (λ v. v.items) w.bytes-is ∙ w.in-Ok.ensures.items ∙
          next-other c.args.keys.now c.loop-key.key-index _ c.args.path.now c.loop-key.bytes.items c.in-Some.byte
          c.copied.result c.loop-key-test.true c.in-Some.ensures l w.if-ne.ensures c.loop-key.invariant
      | else-ne w ↦ ap (λ v. v.items) w.bytes-is ∙
          next-same c.args.keys.now c.loop-key.key-index _ c.args.path.now c.loop-key.bytes.items c.in-Some.byte
          c.copied.result c.loop-key-test.true c.in-Some.ensures l w.if-ne.ensures c.loop-key.invariant
    ]
